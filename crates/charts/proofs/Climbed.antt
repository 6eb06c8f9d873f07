-- A line of the search for all accounts at once. Assumes nothing.
use Rattle.std.proofs.Common.{◌≡◌, ℕ, ◌+◌, ◌<◌, ◌≤◌, Bool, true, false, not, ◌&&◌, ◌||◌, eqb, ltb, ◌⊎◌, List, [], ◌∷◌, ◌++◌, length, length-append, get_or, set, replicate, Some, None, Option, sym, refl, ap, ◌∙◌, subst, inl, inr, ⊎_elim, arith}
use Rattle.charts.specs.Chains.{Leads}
use Rattle.std.proofs.lemmas.List.{get_or-set_same, get_or-set_other, get_or-replicate}
use Rattle.std.proofs.Math.Bool.{or-false}
use Rattle.std.proofs.lemmas.Bool.{or_cases, or_left, or_right, or_parts, and_parts, and_from, and_cases, and_right, eqb-true, eq-eqb, ne_eqb, ltb-true, lt-ltb, le-ltb, not-true, not-false, cases_eq, cases_lt, true≢false}
use Rattle.charts.specs.declared.above.Sources.{Sources}
use Rattle.charts.specs.declared.accounts.Accounts.{Accounts}
use Rattle.charts.specs.declared.chart.Line.{Line}
use Rattle.charts.specs.Members.{member}
use Rattle.charts.specs.Passes.{Known, Followed}
use Rattle.charts.specs.Sets.{over, joins, nobody, Any}

-- the set of where the line leads to: as it was, with where the line leads from, and with all above that
module _ (o : Option Line) (line : Line) (before : Sources) (i : ℕ) (mid last : Accounts) (new more : Bool)
    (is : o ≡ Some line) (to : i ≡ line.to) (from_account : line.from < 512) (to_account : line.to < 512) (within : i < length before.sets)
    (put : (b : ℕ) → member mid b ≡ (member (get_or before.sets i nobody) b || (eqb b line.from && ltb b 512)))
    (told : new ≡ (ltb line.from 512 && not (member (get_or before.sets i nobody) line.from)))
    (joined : (b : ℕ) → member last b ≡ (member mid b || member (get_or before.sets line.from nobody) b))
    (some : more ≡ true → (b : ℕ) × (member mid b ≡ false) × (member last b ≡ true))
    (none : more ≡ false → (b : ℕ) → member last b ≡ member mid b) where
  abbrev after : Sources
  after = record { sets = set before.sets i last }

  here : (a : ℕ) → over after a i ≡ member last a
  here a =
      ap (λ t. t && member (get_or (set before.sets i last) i nobody) a) (lt-ltb i 512 (omega arith))
      ∙ ap (λ s. member s a) (get_or-set_same before.sets i last nobody within)

  here_before : (a : ℕ) → over before a i ≡ member (get_or before.sets i nobody) a
  here_before a = ap (λ t. t && member (get_or before.sets i nobody) a) (lt-ltb i 512 (omega arith))

  from_before : (a : ℕ) → over before a line.from ≡ member (get_or before.sets line.from nobody) a
  from_before a = ap (λ t. t && member (get_or before.sets line.from nobody) a) (lt-ltb line.from 512 from_account)

  elsewhere : (a b : ℕ) → (b ≡ i → ⊥) → over after a b ≡ over before a b
  elsewhere a b other = ap (λ s. ltb b 512 && member s a) (get_or-set_other before.sets i b last nobody other)

  -- by cases on whether b is where the line leads to
  by_place : (P : ℕ → Type 0) (b : ℕ) → P i → ((b ≡ i → ⊥) → P b) → P b
  by_place P b at off = ⊎_elim (λ (is : b ≡ i). subst P (sym is) at) off (cases_eq b i)

  old_stays : (a : ℕ) → member (get_or before.sets i nobody) a ≡ true → member last a ≡ true
  old_stays a m = joined a ∙ or_left (member mid a) _ (put a ∙ or_left _ _ m)

  from_in : member last line.from ≡ true
  from_in = joined line.from ∙ or_left (member mid line.from) _ (put line.from ∙ or_right _ _ (and_from _ _ (eq-eqb line.from line.from refl) (lt-ltb line.from 512 from_account)))

  higher_in : (a : ℕ) → over before a line.from ≡ true → member last a ≡ true
  higher_in a m = joined a ∙ or_right (member mid a) _ (sym (from_before a) ∙ m)

  found_before : (a : ℕ) → member last a ≡ true → (over before a i ≡ true) ⊎ Known over Any before a line.from
  found_before a m =
      ⊎_elim
      (λ middle.
      ⊎_elim (λ old. inl (here_before a ∙ old))
      (λ is. inr (inl (eqb-true a line.from (and_parts (eqb a line.from) (ltb a 512) is).0, tt)))
      (or_cases (member (get_or before.sets i nobody) a) (eqb a line.from && ltb a 512) (sym (put a) ∙ middle)))
      (λ higher. inr (inr (from_before a ∙ higher)))
      (or_cases (member mid a) (member (get_or before.sets line.from nobody) a) (sym (joined a) ∙ m))

  unchanged : new ≡ false → more ≡ false → (a : ℕ) → member last a ≡ member (get_or before.sets i nobody) a
  unchanged no_new no_more a =
      let old : member (get_or before.sets i nobody) line.from ≡ true
      = ⊎_elim (λ past. absurd (true≢false (sym (lt-ltb line.from 512 from_account) ∙ past))) (λ there. not-false _ there) (and_cases (ltb line.from 512) (not (member (get_or before.sets i nobody) line.from)) (sym told ∙ no_new)) in
      none no_more a ∙ put a
      ∙ ⊎_elim
      (λ (is : a ≡ line.from). let m : member (get_or before.sets i nobody) a ≡ true = ap (member (get_or before.sets i nobody)) is ∙ old in or_left _ _ m ∙ sym m)
      (λ (other : a ≡ line.from → ⊥). ap (λ t. member (get_or before.sets i nobody) a || (t && ltb a 512)) (ne_eqb a line.from other) ∙ or-false (member (get_or before.sets i nobody) a))
      (cases_eq a line.from)

  pub climbed : Followed over Any o before after (new || more)
  climbed = record {
    keeps = λ a b m. by_place (λ x. over before a x ≡ true → over after a x ≡ true) b (λ n. here a ∙ old_stays a (sym (here_before a) ∙ n)) (λ other n. elsewhere a b other ∙ n) m;
    sound = λ a b m.
        by_place (λ x. over after a x ≡ true → (over before a x ≡ true) ⊎ ((c : ℕ) × (o ≡ Some (record { from = c; to = x })) × (c < 512) × (x < 512) × Known over Any before a c)) b
        (λ n. ⊎_elim inl (λ known. inr (line.from, is ∙ ap (λ x. Some (record { from = line.from; to = x })) (sym to), from_account, omega arith, known)) (found_before a (sym (here a) ∙ n)))
        (λ other n. inl (sym (elsewhere a b other) ∙ n)) m;
    complete = λ a b c there _ _ known.
        let at : i ≡ b = cc in
        let from : line.from ≡ c = cc in
        ap (over after a) (sym at) ∙ here a
        ∙ ⊎_elim
        (λ (begins : (a ≡ c) × Unit {0}). ap (member last) (begins.0 ∙ sym from) ∙ from_in)
        (λ m. higher_in a (ap (over before a) from ∙ m)) known;
    new = λ g.
        ⊎_elim
        (λ is_new.
        let parts = and_parts (ltb line.from 512) (not (member (get_or before.sets i nobody) line.from)) (sym told ∙ is_new) in
        (line.from, i, here_before line.from ∙ not-true _ parts.1, here line.from ∙ from_in))
        (λ is_more.
        let x = some is_more in
        (x.0, i, here_before x.0 ∙ (or_parts _ _ (sym (put x.0) ∙ x.1)).0, here x.0 ∙ x.2))
        (or_cases new more g);
    same = λ g a b.
        let parts = or_parts new more g in
        by_place (λ x. over after a x ≡ over before a x) b (here a ∙ unchanged parts.0 parts.1 a ∙ sym (here_before a)) (elsewhere a b);
  }

pub over_accounts : (s : Sources) (a b : ℕ) → over s a b ≡ true → (a < 512) × (b < 512)
over_accounts s a b m =
    let parts = and_parts (ltb b 512) (member (get_or s.sets b nobody) a) m in
    (ltb-true a 512 (and_parts (ltb a 512) _ parts.1).0, ltb-true b 512 parts.0)

-- sets that are all empty
pub none_over : (n : ℕ) (x : Accounts) → ((a : ℕ) → member x a ≡ false) → (a b : ℕ) → (ltb b n && member (get_or (replicate n x) b nobody) a) ≡ false
none_over n x empty a b =
    ⊎_elim
    (λ (within : b < n). and_right (ltb b n) (member (get_or (replicate n x) b nobody) a) (ap (λ s. member s a) (get_or-replicate n b x nobody within) ∙ empty a))
    (λ (past : n ≤ b). ap (λ t. t && member (get_or (replicate n x) b nobody) a) (le-ltb b n past))
    (cases_lt b n)

-- one set with one account more
pub put_over : (o : Option Line) (line : Line) (before : Sources) (i : ℕ) (last : Accounts) → o ≡ Some line → i ≡ line.to → line.from < 512 → line.to < 512 → i < length before.sets →
    ((b : ℕ) → member last b ≡ (member (get_or before.sets i nobody) b || (eqb b line.from && ltb b 512))) →
    (a b : ℕ) → over (record { sets = set before.sets i last }) a b ≡ (over before a b || joins o a b)
put_over o line before i last is to from_account to_account within put a b =
    ap (λ n. over (record { sets = set before.sets n last }) a b) to
    ∙ put_at
    ∙ ap (λ l. over before a b || joins l a b) (sym is)
  where
    turn : (x y : ℕ) → eqb x y ≡ eqb y x
    turn x y = ⊎_elim (λ (same : x ≡ y). eq-eqb x y same ∙ sym (eq-eqb y x (sym same))) (λ (other : x ≡ y → ⊥). ne_eqb x y other ∙ sym (ne_eqb y x (λ e. other (sym e)))) (cases_eq x y)

    at_place : (m e e' t f u : Bool) → e ≡ e' → f ≡ true → u ≡ true → (m || (e && t)) ≡ ((u && m) || (e' && (f && (t && u))))
    at_place m e e' t f u same is within = rw (same, is, within) (both m e' t)
      where
        both : (m e t : Bool) → (m || (e && t)) ≡ (m || (e && (t && true)))
        both true e t = refl
        both false true true = refl
        both false true false = refl
        both false false t = refl

    elsewhere_no : (o e f r : Bool) → f ≡ false → o ≡ (o || (e && (f && r)))
    elsewhere_no true e f r no_f = refl
    elsewhere_no false true f r no_f = ap (λ x. x && r) (sym no_f)
    elsewhere_no false false f r no_f = refl

    put_at : over (record { sets = set before.sets line.to last }) a b ≡ (over before a b || joins (Some line) a b)
    put_at =
        ⊎_elim
        (λ (is : b ≡ line.to).
        ap (λ x. ltb x 512 && member (get_or (set before.sets line.to last) x nobody) a) is
        ∙ ap (λ t. t && member (get_or (set before.sets line.to last) line.to nobody) a) (lt-ltb line.to 512 to_account)
        ∙ ap (λ s. member s a) (get_or-set_same before.sets line.to last nobody (omega arith))
        ∙ put a ∙ ap (λ n. member (get_or before.sets n nobody) a || (eqb a line.from && ltb a 512)) to
        ∙ at_place (member (get_or before.sets line.to nobody) a) (eqb a line.from) (eqb line.from a) (ltb a 512) (eqb line.to b) (ltb b 512) (turn a line.from) (eq-eqb line.to b (sym is)) (lt-ltb b 512 (omega arith))
        ∙ ap (λ x. (ltb b 512 && member (get_or before.sets x nobody) a) || joins (Some line) a b) (sym is))
        (λ (other : b ≡ line.to → ⊥).
        ap (λ s. ltb b 512 && member s a) (get_or-set_other before.sets line.to b last nobody other)
        ∙ elsewhere_no (over before a b) (eqb line.from a) (eqb line.to b) (ltb a 512 && ltb b 512) (ne_eqb line.to b (λ e. other (sym e))))
        (cases_eq b line.to)

-- what the first i lines join
pub record Collected (lines : List (Option Line)) (i : ℕ) (s : Sources) : Type 0 where
  pub sound : (a b : ℕ) → over s a b ≡ true → (at : ℕ) × Leads lines at a b
  pub complete : (a b at : ℕ) → at < i → Leads lines at a b → over s a b ≡ true

joins_leads : (lines : List (Option Line)) (at a b : ℕ) (o : Option Line) → get_or lines at None ≡ o → joins o a b ≡ true → Leads lines at a b
joins_leads lines at a b None is e = absurd (true≢false (sym e))
joins_leads lines at a b (Some l) is e =
    let first = and_parts (eqb l.from a) (eqb l.to b && (ltb a 512 && ltb b 512)) e in
    let second = and_parts (eqb l.to b) (ltb a 512 && ltb b 512) first.1 in
    let third = and_parts (ltb a 512) (ltb b 512) second.1 in
    let from = eqb-true l.from a first.0 in
    let to = eqb-true l.to b second.0 in
    record { line = is ∙ ap (λ x. Some (record { from = x; to = l.to })) from ∙ ap (λ y. Some (record { from = a; to = y })) to; from_account = ltb-true a 512 third.0; to_account = ltb-true b 512 third.1 }

leads_joins : (lines : List (Option Line)) (at a b : ℕ) → Leads lines at a b → joins (get_or lines at None) a b ≡ true
leads_joins lines at a b leads =
    ap (λ o. joins o a b) leads.line
    ∙ and_from (eqb a a) _ (eq-eqb a a refl) (and_from (eqb b b) _ (eq-eqb b b refl) (and_from (ltb a 512) (ltb b 512) (lt-ltb a 512 leads.from_account) (lt-ltb b 512 leads.to_account)))

one_more : (lines : List (Option Line)) (i : ℕ) (before after : Sources) → Collected lines i before → ((a b : ℕ) → over after a b ≡ (over before a b || joins (get_or lines i None) a b)) → Collected lines (i + 1) after
one_more lines i before after c put = record {
  sound = λ a b m. ⊎_elim (c.sound a b) (λ new. (i, joins_leads lines i a b (get_or lines i None) refl new)) (or_cases (over before a b) (joins (get_or lines i None) a b) (sym (put a b) ∙ m));
  complete = λ a b at within leads.
      put a b
      ∙ ⊎_elim
      (λ (here : at ≡ i). or_right (over before a b) _ (ap (λ k. joins (get_or lines k None) a b) (sym here) ∙ leads_joins lines at a b leads))
      (λ (other : at ≡ i → ⊥). or_left (over before a b) _ (c.complete a b at (⊎_elim (λ l. l) (λ past. absurd (other (omega arith))) (cases_lt at i)) leads))
      (cases_eq at i);
}

pub collected_more : (lines given : List (Option Line)) (line : Option Line) (before after : Sources) → get_or lines (length given) None ≡ line
    → Collected lines (length given) before → ((a b : ℕ) → over after a b ≡ (over before a b || joins line a b)) → Collected lines (length (given ++ line ∷ [])) after
collected_more lines given line before after is collected put =
    rw (length-append given (line ∷ [])) (one_more lines (length given) before after collected (λ a b. put a b ∙ ap (λ l. over before a b || joins l a b) (sym is)))
