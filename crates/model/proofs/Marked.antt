-- Marks by their places, and the lines and chains that they make: in a list with one more, and in a list of which
-- some are kept. Assumes nothing.
use Rattle.std.proofs.Common.{◌≡◌, ℕ, zero, suc, ◌<◌, Bool, true, false, cond, ◌⊎◌, List, [], ◌∷◌, ◌++◌, length, get_or, is_some, Some, None, filter, Option, sym, refl, ap, ◌∙◌, subst, inl, inr, ⊎_elim, arith}
use Rattle.std.specs.List.{slice_get, ContainsAt}
use Rattle.std.proofs.lemmas.Option.{slice_get-get_or}
use Rattle.std.proofs.lemmas.Bool.{true≢false, false≢true}
use Rattle.terms.specs.declared.Kind.{Kind}
use Rattle.terms.specs.declared.Kind.TheVariants.{Denying, Plain, Delegatable}
use Rattle.table.specs.Used.{first}
use Rattle.charts.specs.declared.chart.Line.{Line}
use Rattle.charts.specs.declared.views.Mark.{Mark}
use Rattle.charts.specs.Chains.{Leads, Chain}
use Rattle.charts.specs.Chains.Chain.{one, on}
use Rattle.charts.specs.Views.{mark_line, mark_sign, is_delegatable}
use Rattle.charts.proofs.Viewed.{passing_at_kind}
use Rattle.settlement.specs.Settled.{from_of}
use Rattle.model.specs.Delegation.{At, lines_of, signs_of, passing_of, rooted}

-- the place before those of a list, where its first is kept or not
abbrev pub onto : Bool → (ℕ → ℕ) → ℕ → ℕ
onto true f zero = zero
onto true f (suc i) = suc (f i)
onto false f i = suc (f i)

module _ {X : Type 0} where
  -- one more at the end
  pub at_push : (xs : List X) (y : X) (i : ℕ) (x : X) → At xs i x → At (xs ++ y ∷ []) i x
  at_push [] y i x is = let z : ◌≡◌ {A = ℕ} 0 1 = cc in absurd (omega arith)
  at_push (k ∷ ks) y zero x is = is
  at_push (k ∷ ks) y (suc i) x is = at_push ks y i x is

  pub at_last : (xs : List X) (y : X) → At (xs ++ y ∷ []) (length xs) y
  at_last [] y = refl
  at_last (k ∷ ks) y = at_last ks y

  pub at_push_cases : (xs : List X) (y : X) (i : ℕ) (x : X) → At (xs ++ y ∷ []) i x → At xs i x ⊎ ((i ≡ length xs) × (x ≡ y))
  at_push_cases [] y zero x is = inr (refl, (let same : x ≡ y = cc in same))
  at_push_cases [] y (suc i) x is = let z : ◌≡◌ {A = ℕ} 0 1 = cc in absurd (omega arith)
  at_push_cases (k ∷ ks) y zero x is = inl is
  at_push_cases (k ∷ ks) y (suc i) x is = ⊎_elim inl (λ last. inr (ap suc last.0, last.1)) (at_push_cases ks y i x is)

  -- where what is kept at place i came from
  abbrev pub origin : (X → Bool) → List X → ℕ → ℕ
  origin p [] i = i
  origin p (x ∷ xs) i = onto (p x) (origin p xs) i

  module _ (p : X → Bool) (y : X) (ys ks : List X) (from : ℕ → ℕ) where
    kept_from_step : ((i : ℕ) (x : X) → At ks i x → At ys (from i) x × (p x ≡ true)) → (t : Bool) → p y ≡ t → (i : ℕ) (x : X) → At (cond t (y ∷ ks) ks) i x → At (y ∷ ys) (onto t from i) x × (p x ≡ true)
    kept_from_step each true passes zero x is = (is, cc)
    kept_from_step each true passes (suc i) x is = each i x is
    kept_from_step each false passes i x is = each i x is

    origin_once_step : ((i j : ℕ) (x z : X) → At ks i x → At ks j z → from i ≡ from j → i ≡ j) → (t : Bool) (i j : ℕ) (x z : X) → At (cond t (y ∷ ks) ks) i x → At (cond t (y ∷ ks) ks) j z → onto t from i ≡ onto t from j → i ≡ j
    origin_once_step each true zero zero x z is is' same = refl
    origin_once_step each true zero (suc j) x z is is' same = absurd (omega arith)
    origin_once_step each true (suc i) zero x z is is' same = absurd (omega arith)
    origin_once_step each true (suc i) (suc j) x z is is' same = ap suc (each i j x z is is' (omega arith))
    origin_once_step each false i j x z is is' same = each i j x z is is' (omega arith)

    kept_at_step : (t : Bool) (x : X) → ((i : ℕ) × At ks i x) → (i : ℕ) × At (cond t (y ∷ ks) ks) i x
    kept_at_step true x (i, is) = (suc i, is)
    kept_at_step false x (i, is) = (i, is)

  pub kept_from : (p : X → Bool) (xs : List X) (i : ℕ) (x : X) → At (filter p xs) i x → At xs (origin p xs i) x × (p x ≡ true)
  kept_from p [] i x is = let z : ◌≡◌ {A = ℕ} 0 1 = cc in absurd (omega arith)
  kept_from p (y ∷ ys) i x is = kept_from_step p y ys (filter p ys) (origin p ys) (kept_from p ys) (p y) refl i x is

  pub origin_once : (p : X → Bool) (xs : List X) (i j : ℕ) (x y : X) → At (filter p xs) i x → At (filter p xs) j y → origin p xs i ≡ origin p xs j → i ≡ j
  origin_once p [] i j x y is is' same = same
  origin_once p (k ∷ ks) i j x y is is' same = origin_once_step p k ks (filter p ks) (origin p ks) (origin_once p ks) (p k) i j x y is is' same

  pub kept_at : (p : X → Bool) (xs : List X) (j : ℕ) (x : X) → At xs j x → p x ≡ true → (i : ℕ) × At (filter p xs) i x
  kept_at p [] j x is passes = let z : ◌≡◌ {A = ℕ} 0 1 = cc in absurd (omega arith)
  kept_at p (y ∷ ys) zero x is passes =
      let here : p y ≡ true = cc in
      (0, ap (λ t. slice_get (cond t (y ∷ filter p ys) (filter p ys)) 0) here ∙ is)
  kept_at p (y ∷ ys) (suc j) x is passes = kept_at_step p y ys (filter p ys) (origin p ys) (p y) x (kept_at p ys j x is passes)

  -- the first that passes, and that none does
  first_at_step : (p : X → Bool) (y : X) (ys : List X) (x : X) → (first p ys ≡ Some x → (i : ℕ) × At ys i x × (p x ≡ true)) → (t : Bool) → p y ≡ t → cond t (Some y) (first p ys) ≡ Some x → (i : ℕ) × At (y ∷ ys) i x × (p x ≡ true)
  first_at_step p y ys x each true passes is = (0, is, cc)
  first_at_step p y ys x each false passes is = let f = each is in (suc f.0, f.1, f.2)

  pub first_at : (p : X → Bool) (xs : List X) (x : X) → first p xs ≡ Some x → (i : ℕ) × At xs i x × (p x ≡ true)
  first_at p [] x is = let z : ◌≡◌ {A = ℕ} 0 1 = cc in absurd (omega arith)
  first_at p (y ∷ ys) x is = first_at_step p y ys x (first_at p ys x) (p y) refl is

  pub some_there : (o : Option X) → is_some o ≡ true → (x : X) × (o ≡ Some x)
  some_there None e = absurd (false≢true e)
  some_there (Some x) e = (x, refl)

  pub none_there : (o : Option X) → is_some o ≡ false → o ≡ None
  none_there None e = refl
  none_there (Some x) e = absurd (true≢false e)

  none_step : (y : X) (t : Bool) (o : Option X) → cond t (Some y) o ≡ None → (t ≡ false) × (o ≡ None)
  none_step y true o none = let z : ◌≡◌ {A = ℕ} 0 1 = cc in absurd (omega arith)
  none_step y false o none = (refl, none)

  pub first_none : (p : X → Bool) (xs : List X) (i : ℕ) (x : X) → first p xs ≡ None → At xs i x → p x ≡ false
  first_none p [] i x none is = let z : ◌≡◌ {A = ℕ} 0 1 = cc in absurd (omega arith)
  first_none p (y ∷ ys) zero x none is = let f = (none_step y (p y) (first p ys) none).0 in cc
  first_none p (y ∷ ys) (suc i) x none is = first_none p ys i x (none_step y (p y) (first p ys) none).1 is

  pub has_at : (xs : List X) (x : X) → ContainsAt xs x → (i : ℕ) × At xs i x
  has_at xs x (k, within, is) = (k, slice_get-get_or xs k x within ∙ ap Some (is x))

  at_within : (xs : List X) (i : ℕ) (x : X) → At xs i x → (i < length xs) × ((d : X) → get_or xs i d ≡ x)
  at_within [] i x is = let z : ◌≡◌ {A = ℕ} 0 1 = cc in absurd (omega arith)
  at_within (y ∷ ys) zero x is = (omega arith, λ d. cc)
  at_within (y ∷ ys) (suc i) x is = let f = at_within ys i x is in (omega arith, f.1)

  pub at_has : (xs : List X) (i : ℕ) (x : X) → At xs i x → ContainsAt xs x
  at_has xs i x is = let f = at_within xs i x is in (i, f.0, f.1)

abbrev to_of : Option Line → ℕ
to_of None = 0
to_of (Some l) = l.to

-- lines and signs of marks: the line of a mark, whatever numbers it has
pub line_at : (ms : List Mark) (i : ℕ) (m : Mark) → At ms i m → get_or (lines_of ms) i None ≡ Some (record { from = m.from; to = m.to })
line_at [] i m is = let z : ◌≡◌ {A = ℕ} 0 1 = cc in absurd (omega arith)
line_at (k ∷ ks) zero m is = let same : k ≡ m = cc in ap mark_line same
line_at (k ∷ ks) (suc i) m is = line_at ks i m is

pub at_line : (ms : List Mark) (i : ℕ) (l : Line) → get_or (lines_of ms) i None ≡ Some l → (m : Mark) × At ms i m × (m.from ≡ l.from) × (m.to ≡ l.to)
at_line [] i l is = let z : ◌≡◌ {A = ℕ} 0 1 = cc in absurd (omega arith)
at_line (k ∷ ks) zero l is = (k, refl, ap from_of is, ap to_of is)
at_line (k ∷ ks) (suc i) l is = at_line ks i l is

pub leads_mark : (ms : List Mark) (i u v : ℕ) → Leads (lines_of ms) i u v → (m : Mark) × At ms i m × (m.from ≡ u) × (m.to ≡ v)
leads_mark ms i u v leads = at_line ms i (record { from = u; to = v }) leads.line

pub mark_leads : (ms : List Mark) (i : ℕ) (m : Mark) → At ms i m → m.from < 512 → m.to < 512 → Leads (lines_of ms) i m.from m.to
mark_leads ms i m is from to = record { line = line_at ms i m is; from_account = from; to_account = to }

pub sign_at : (ms : List Mark) (i : ℕ) (m : Mark) → At ms i m → signs_of ms i ≡ mark_sign m
sign_at [] i m is = let z : ◌≡◌ {A = ℕ} 0 1 = cc in absurd (omega arith)
sign_at (k ∷ ks) zero m is = let same : k ≡ m = cc in ap mark_sign same
sign_at (k ∷ ks) (suc i) m is = sign_at ks i m is

-- a mark at another place leads alike
pub leads_moved : (ms ms' : List Mark) (i j u v : ℕ) (m : Mark) → At ms i m → At ms' j m → Leads (lines_of ms) i u v → Leads (lines_of ms') j u v
leads_moved ms ms' i j u v m is is' leads = record {
  line = line_at ms' j m is' ∙ sym (line_at ms i m is) ∙ leads.line;
  from_account = leads.from_account;
  to_account = leads.to_account;
}

passed : (k : Kind) (o : Option Line) (l : Line) → cond (is_delegatable k) o None ≡ Some l → (o ≡ Some l) × (k ≡ Delegatable)
passed Denying o l is = let z : ◌≡◌ {A = ℕ} 0 1 = cc in absurd (omega arith)
passed Plain o l is = let z : ◌≡◌ {A = ℕ} 0 1 = cc in absurd (omega arith)
passed Delegatable o l is = (is, refl)

pub passing_leads : (ms : List Mark) (i u v : ℕ) → Leads (passing_of ms) i u v → Leads (lines_of ms) i u v × ((signs_of ms i).kind ≡ Delegatable)
passing_leads ms i u v leads =
    let back = passed (signs_of ms i).kind (get_or (lines_of ms) i None) (record { from = u; to = v }) (passing_at_kind (signs_of ms) (lines_of ms) i (signs_of ms i).kind refl ∙ leads.line) in
    (record { line = back.0; from_account = leads.from_account; to_account = leads.to_account }, back.1)

pub leads_passing : (ms : List Mark) (i u v : ℕ) → Leads (lines_of ms) i u v → (signs_of ms i).kind ≡ Delegatable → Leads (passing_of ms) i u v
leads_passing ms i u v leads kind = record {
  line = sym (passing_at_kind (signs_of ms) (lines_of ms) i Delegatable kind) ∙ leads.line;
  from_account = leads.from_account;
  to_account = leads.to_account;
}

-- so does a delegatable one
pub passing_moved : (ms ms' : List Mark) (i j u v : ℕ) (m : Mark) → At ms i m → At ms' j m → Leads (passing_of ms) i u v → Leads (passing_of ms') j u v
passing_moved ms ms' i j u v m is is' leads =
    let f = passing_leads ms i u v leads in
    leads_passing ms' j u v (leads_moved ms ms' i j u v m is is' f.0) (ap (λ s. s.kind) (sign_at ms' j m is' ∙ sym (sign_at ms i m is)) ∙ f.1)

-- chains
pub chain_within : {lines lines' : List (Option Line)} → ((i u v : ℕ) → Leads lines i u v → (j : ℕ) × Leads lines' j u v) → {a b : ℕ} → Chain lines a b → Chain lines' a b
chain_within each {a} {b} (one i leads) = let f = each i a b leads in one f.0 f.1
chain_within each {a} {b} (on {c = c} i leads rest) = let f = each i a c leads in on f.0 f.1 (chain_within each rest)

pub chain_join : {lines : List (Option Line)} {a b c : ℕ} → Chain lines a b → Chain lines b c → Chain lines a c
chain_join (one i leads) second = on i leads second
chain_join (on i leads rest) second = on i leads (chain_join rest second)

-- a line with one more mark is an old one or that mark's
pub push_leads : (ms : List Mark) (y : Mark) (i u v : ℕ) → Leads (lines_of (ms ++ y ∷ [])) i u v → Leads (lines_of ms) i u v ⊎ ((i ≡ length ms) × (u ≡ y.from) × (v ≡ y.to))
push_leads ms y i u v leads =
    let f = leads_mark (ms ++ y ∷ []) i u v leads in
    ⊎_elim (λ old. inl (leads_moved (ms ++ y ∷ []) ms i i u v f.0 f.1 old leads))
    (λ (last : (i ≡ length ms) × (f.0 ≡ y)). inr (last.0, sym f.2 ∙ ap (λ m. m.from) last.1, sym f.3 ∙ ap (λ m. m.to) last.1))
    (at_push_cases ms y i f.0 f.1)

-- a chain with one more mark goes along that mark, or does not
pub chain_push : (ms : List Mark) (y : Mark) (a b : ℕ) → Chain (lines_of (ms ++ y ∷ [])) a b →
    Chain (lines_of ms) a b ⊎ (((a ≡ y.from) ⊎ Chain (lines_of ms) a y.from) × ((b ≡ y.to) ⊎ Chain (lines_of ms) y.to b))
chain_push ms y a b (one i leads) =
    ⊎_elim (λ old. inl (one i old))
    (λ (last : (i ≡ length ms) × (a ≡ y.from) × (b ≡ y.to)). inr (inl last.1, inl last.2))
    (push_leads ms y i a b leads)
chain_push ms y a b (on {c = c} i leads rest) =
    ⊎_elim
    (λ old.
    ⊎_elim (λ older. inl (on i old older))
    (λ along.
    inr (inr (⊎_elim (λ (here : c ≡ y.from). subst (λ x. Chain (lines_of ms) a x) here (one i old)) (λ later. on i old later) along.0), along.1))
    (chain_push ms y c b rest))
    (λ (last : (i ≡ length ms) × (a ≡ y.from) × (c ≡ y.to)).
    ⊎_elim (λ older. inr (inl last.1, inr (subst (λ x. Chain (lines_of ms) x b) last.2 older)))
    (λ along. inr (inl last.1, along.1))
    (chain_push ms y c b rest))
    (push_leads ms y i a c leads)

pub lines_push : (ms : List Mark) (y : Mark) (i u v : ℕ) → Leads (lines_of ms) i u v → Leads (lines_of (ms ++ y ∷ [])) i u v
lines_push ms y i u v leads =
    let f = leads_mark ms i u v leads in
    leads_moved ms (ms ++ y ∷ []) i i u v f.0 f.1 (at_push ms y i f.0 f.1) leads

pub passing_push : (ms : List Mark) (y : Mark) (i u v : ℕ) → Leads (passing_of ms) i u v → Leads (passing_of (ms ++ y ∷ [])) i u v
passing_push ms y i u v leads =
    let f = leads_mark ms i u v (passing_leads ms i u v leads).0 in
    passing_moved ms (ms ++ y ∷ []) i i u v f.0 f.1 (at_push ms y i f.0 f.1) leads

-- of a list of which some are kept
pub lines_kept : (p : Mark → Bool) (ms : List Mark) (i u v : ℕ) → Leads (lines_of (filter p ms)) i u v → Leads (lines_of ms) (origin p ms i) u v
lines_kept p ms i u v leads =
    let f = leads_mark (filter p ms) i u v leads in
    leads_moved (filter p ms) ms i (origin p ms i) u v f.0 f.1 (kept_from p ms i f.0 f.1).0 leads

-- those whose grantor is the owner or is still reached from the owner by delegatable grants
abbrev pub rooted_part : ℕ → List Mark → List Mark
rooted_part owner marks = filter (λ m. rooted owner marks m.from) marks
