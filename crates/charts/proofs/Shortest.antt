-- The computed `above` says exactly when there is a chain. Assumes nothing.
use Rattle.std.proofs.Common.{◌≡◌, ℕ, zero, suc, ◌<◌, ◌≤◌, Bool, true, false, cond, ◌&&◌, ◌||◌, eqb, ltb, ◌⊎◌, List, [], ◌∷◌, length, get_or, Some, None, Decides, Option, sym, refl, ap, ◌∙◌, subst, inl, inr, ⊎_elim, arith}
use Rattle.std.proofs.lemmas.Bool.{or_cases, or_left, or_right, and_parts, and_from, eqb-true, eq-eqb, ne_eqb, ltb-true, lt-ltb, cases_eq, false≢true}
use Rattle.charts.specs.declared.chart.Line.{Line}
use Rattle.charts.specs.Chains.{Leads, Chain}
use Rattle.charts.specs.Chains.Chain.{one, on}
use Rattle.charts.specs.Reaching.{between_accounts, any_line, reaches, above}

-- a present line between accounts leads
pub leads_from : (lines : List (Option Line)) (at : ℕ) (l : Line) → get_or lines at None ≡ Some l → between_accounts l ≡ true → Leads lines at l.from l.to
leads_from lines at l is both =
    let parts = and_parts (ltb l.from 512) (ltb l.to 512) both in
    record { line = is; from_account = ltb-true l.from 512 parts.0; to_account = ltb-true l.to 512 parts.1 }

pub leads_between : {lines : List (Option Line)} {at a b : ℕ} → Leads lines at a b → between_accounts (record { from = a; to = b }) ≡ true
leads_between {lines} {at} {a} {b} leads = and_from (ltb a 512) (ltb b 512) (lt-ltb a 512 leads.from_account) (lt-ltb b 512 leads.to_account)

module _ (test : Line → Bool) where
  pub any_found : (lines : List (Option Line)) → any_line test lines ≡ true → (at : ℕ) × (l : Line) × (get_or lines at None ≡ Some l) × (between_accounts l ≡ true) × (test l ≡ true)
  any_found [] e = absurd (false≢true e)
  any_found (None ∷ ls) e = let f = any_found ls e in (suc f.0, f.1, f.2, f.3, f.4)
  any_found (Some l ∷ ls) e =
      ⊎_elim (λ here. let parts = and_parts (between_accounts l) (test l) here in (0, l, refl, parts.0, parts.1))
      (λ later. let f = any_found ls later in (suc f.0, f.1, f.2, f.3, f.4))
      (or_cases (between_accounts l && test l) (any_line test ls) e)

  pub any_holds : (lines : List (Option Line)) (at : ℕ) (l : Line) → get_or lines at None ≡ Some l → between_accounts l ≡ true → test l ≡ true → any_line test lines ≡ true
  any_holds [] at l is both passes = let z : ◌≡◌ {A = ℕ} 0 1 = cc in absurd (omega arith)
  any_holds (None ∷ ls) zero l is both passes = let z : ◌≡◌ {A = ℕ} 0 1 = cc in absurd (omega arith)
  any_holds (None ∷ ls) (suc at) l is both passes = any_holds ls at l is both passes
  any_holds (Some k ∷ ls) zero l is both passes =
      let same : k ≡ l = cc in
      or_left (between_accounts k && test k) (any_line test ls) (ap (λ x. between_accounts x && test x) same ∙ and_from (between_accounts l) (test l) both passes)
  any_holds (Some k ∷ ls) (suc at) l is both passes = or_right (between_accounts k && test k) (any_line test ls) (any_holds ls at l is both passes)

-- what is computed is a chain
pub reaches_sound : (n : ℕ) (lines : List (Option Line)) (a b : ℕ) → reaches n lines a b ≡ true → Chain lines a b
reaches_sound zero lines a b e = absurd (false≢true e)
reaches_sound (suc n) lines a b e =
    let f = any_found (λ l. eqb l.from a && (eqb l.to b || reaches n lines l.to b)) lines e in
    let l = f.1 in
    let parts = and_parts (eqb l.from a) (eqb l.to b || reaches n lines l.to b) f.4 in
    let leads = leads_from lines f.0 l f.2 f.3 in
    subst (λ x. Chain lines x b) (eqb-true l.from a parts.0)
    (⊎_elim (λ here. subst (λ y. Chain lines l.from y) (eqb-true l.to b here) (one f.0 leads))
    (λ later. on f.0 leads (reaches_sound n lines l.to b later))
    (or_cases (eqb l.to b) (reaches n lines l.to b) parts.1))

-- a chart without the lines from a
abbrev cut : ℕ → Option Line → Option Line
cut a None = None
cut a (Some l) = cond (eqb l.from a) None (Some l)

abbrev without : ℕ → List (Option Line) → List (Option Line)
without a [] = []
without a (l ∷ ls) = cut a l ∷ without a ls

without_at : (a : ℕ) (lines : List (Option Line)) (at : ℕ) → get_or (without a lines) at None ≡ cut a (get_or lines at None)
without_at a [] at = refl
without_at a (l ∷ ls) zero = refl
without_at a (l ∷ ls) (suc at) = without_at a ls at

-- a line from elsewhere is still there, and none from a is
still_leads : (a : ℕ) (lines : List (Option Line)) (at c b : ℕ) → (c ≡ a → ⊥) → Leads lines at c b → Leads (without a lines) at c b
still_leads a lines at c b other leads = record {
  line = without_at a lines at ∙ ap (cut a) leads.line ∙ ap (λ t. cond t None (Some (record { from = c; to = b }))) (ne_eqb c a other);
  from_account = leads.from_account;
  to_account = leads.to_account;
}

cut_back : (a : ℕ) (o : Option Line) (c b : ℕ) → cut a o ≡ Some (record { from = c; to = b }) → (o ≡ Some (record { from = c; to = b })) × (c ≡ a → ⊥)
cut_back a None c b is = let z : ◌≡◌ {A = ℕ} 0 1 = cc in absurd (omega arith)
cut_back a (Some l) c b is =
    ⊎_elim
    (λ (from : l.from ≡ a). let none = sym (ap (λ t. cond t None (Some l)) (eq-eqb l.from a from)) ∙ is in let z : ◌≡◌ {A = ℕ} 0 1 = cc in absurd (omega arith))
    (λ (other : l.from ≡ a → ⊥).
    let some = sym (ap (λ t. cond t None (Some l)) (ne_eqb l.from a other)) ∙ is in
    (some, (λ e. other (let f : l.from ≡ c = cc in f ∙ e))))
    (cases_eq l.from a)

led_before : (a : ℕ) (lines : List (Option Line)) (at c b : ℕ) → Leads (without a lines) at c b → Leads lines at c b × (c ≡ a → ⊥)
led_before a lines at c b leads =
    let back = cut_back a (get_or lines at None) c b (sym (without_at a lines at) ∙ leads.line) in
    (record { line = back.0; from_account = leads.from_account; to_account = leads.to_account }, back.1)

-- a chain either keeps away from the lines of a, or goes on from its last stay at a
avoid : (a : ℕ) {lines : List (Option Line)} {c b : ℕ} → Chain lines c b → Chain (without a lines) c b ⊎ ((at : ℕ) × (x : ℕ) × Leads lines at a x × ((x ≡ b) ⊎ Chain (without a lines) x b))
avoid a {lines} {c} {b} (one at leads) =
    ⊎_elim (λ (here : c ≡ a). inr (at, b, subst (λ x. Leads lines at x b) here leads, inl refl))
    (λ other. inl (one at (still_leads a lines at c b other leads)))
    (cases_eq c a)
avoid a {lines} {c} {b} (on {c = d} at leads rest) =
    ⊎_elim
    (λ away.
    ⊎_elim (λ (here : c ≡ a). inr (at, d, subst (λ x. Leads lines at x d) here leads, inr away))
    (λ other. inl (on at (still_leads a lines at c d other leads) away))
    (cases_eq c a))
    inr (avoid a rest)

not_from : (a : ℕ) (lines : List (Option Line)) (c b : ℕ) → c ≡ a → Chain (without a lines) c b → ⊥
not_from a lines c b is (one at leads) = (led_before a lines at c b leads).1 is
not_from a lines c b is (on {c = d} at leads rest) = (led_before a lines at c d leads).1 is

-- how many lines are present
abbrev present : List (Option Line) → ℕ
present [] = 0
present (None ∷ ls) = present ls
present (Some l ∷ ls) = suc (present ls)

pub present_length : (lines : List (Option Line)) → present lines ≤ length lines
present_length [] = omega arith
present_length (None ∷ ls) = omega (arith, present_length ls)
present_length (Some l ∷ ls) = omega (arith, present_length ls)

present_cut : (a : ℕ) (l : Line) (ls : List (Option Line)) → present (cut a (Some l) ∷ ls) ≤ suc (present ls)
present_cut a l ls = elim (eqb l.from a) as (λ t. present (cond t None (Some l) ∷ ls) ≤ suc (present ls)) [ true ↦ omega arith | false ↦ omega arith ]

fewer : (a : ℕ) (lines : List (Option Line)) → present (without a lines) ≤ present lines
fewer a [] = omega arith
fewer a (None ∷ ls) = fewer a ls
fewer a (Some l ∷ ls) = omega (arith, present_cut a l (without a ls), fewer a ls)

one_fewer : (a : ℕ) (lines : List (Option Line)) (at b : ℕ) → get_or lines at None ≡ Some (record { from = a; to = b }) → present (without a lines) < present lines
one_fewer a [] at b is = let z : ◌≡◌ {A = ℕ} 0 1 = cc in absurd (omega arith)
one_fewer a (None ∷ ls) zero b is = let z : ◌≡◌ {A = ℕ} 0 1 = cc in absurd (omega arith)
one_fewer a (None ∷ ls) (suc at) b is = one_fewer a ls at b is
one_fewer a (Some l ∷ ls) zero b is =
    let from : l.from ≡ a = cc in
    let gone : cut a (Some l) ≡ None = ap (λ t. cond t None (Some l)) (eq-eqb l.from a from) in
    omega (arith, fewer a ls, ap (λ o. present (o ∷ without a ls)) gone)
one_fewer a (Some l ∷ ls) (suc at) b is = omega (arith, present_cut a l (without a ls), one_fewer a ls at b is)

-- what is reached without some lines is reached with them
reaches_more : (n a : ℕ) (lines : List (Option Line)) (x b : ℕ) → reaches n (without a lines) x b ≡ true → reaches n lines x b ≡ true
reaches_more zero a lines x b e = absurd (false≢true e)
reaches_more (suc n) a lines x b e =
    let f = any_found (λ l. eqb l.from x && (eqb l.to b || reaches n (without a lines) l.to b)) (without a lines) e in
    let l = f.1 in
    let parts = and_parts (eqb l.from x) (eqb l.to b || reaches n (without a lines) l.to b) f.4 in
    let there = (cut_back a (get_or lines f.0 None) l.from l.to (sym (without_at a lines f.0) ∙ f.2)).0 in
    let goes : (eqb l.to b || reaches n lines l.to b) ≡ true
    = ⊎_elim (λ here. or_left (eqb l.to b) _ here) (λ later. or_right (eqb l.to b) _ (reaches_more n a lines l.to b later)) (or_cases (eqb l.to b) (reaches n (without a lines) l.to b) parts.1) in
    any_holds (λ k. eqb k.from x && (eqb k.to b || reaches n lines k.to b)) lines f.0 l there f.3 (and_from (eqb l.from x) _ parts.0 goes)

-- where a chain last leaves a
last_stay : {lines : List (Option Line)} {a b : ℕ} → Chain lines a b → (at : ℕ) × (x : ℕ) × Leads lines at a x × ((x ≡ b) ⊎ Chain (without a lines) x b)
last_stay {lines} {a} {b} chain = ⊎_elim (λ away. absurd (not_from a lines a b refl away)) (λ last. last) (avoid a chain)

reaches_complete : (n : ℕ) (lines : List (Option Line)) (a b : ℕ) → present lines ≤ n → Chain lines a b → reaches n lines a b ≡ true
reaches_complete zero lines a b enough chain =
    let last = last_stay chain in absurd (omega (arith, one_fewer a lines last.0 last.1 last.2.line))
reaches_complete (suc n) lines a b enough chain =
    let last = last_stay chain in
    let x = last.1 in
    let goes : (eqb x b || reaches n lines x b) ≡ true
    = ⊎_elim (λ (here : x ≡ b). or_left (eqb x b) _ (eq-eqb x b here))
    (λ later. or_right (eqb x b) _ (reaches_more n a lines x b (reaches_complete n (without a lines) x b (omega (arith, one_fewer a lines last.0 x last.2.line)) later)))
    last.3 in
    any_holds (λ k. eqb k.from a && (eqb k.to b || reaches n lines k.to b)) lines last.0 (record { from = a; to = x }) last.2.line (leads_between last.2) (and_from (eqb a a) _ (eq-eqb a a refl) goes)

pub above_decides : (lines : List (Option Line)) (a b : ℕ) → Decides (above lines a b) (Chain lines a b)
above_decides lines a b = (reaches_sound (length lines) lines a b, reaches_complete (length lines) lines a b (present_length lines))
