-- The grants of one right on one draft, as grants come and go. Assumes nothing.
use Rattle.std.proofs.Common.{◌≡◌, ℕ, Bool, true, false, cond, not, ◌&&◌, ◌||◌, eqb, List, [], ◌∷◌, ◌++◌, map, is_some, Some, filter, sym, refl, ap, ◌∙◌, inl, inr}
use Rattle.std.proofs.lemmas.List.Elements.{filter-append, filter_agree}
use Rattle.std.proofs.lemmas.List.{map_push, append-nil}
use Rattle.std.proofs.lemmas.Bool.{true≢false, eqb-true, ne_eqb, and_parts, cases_Bool, not_from_false, or_left}
use Rattle.table.specs.Used.{first}
use Rattle.model.specs.declared.records.GrantRecord.{GrantRecord}
use Rattle.model.specs.Delegation.{between, unless, rooted}
use Rattle.model.specs.Grants.{is_on_draft, on_right, mark_of, of_right, key_of, without, still_rooted}
use Rattle.model.specs.Keys.{by_grant}
use Rattle.model.proofs.Kept.{kept_twice, kept_implied, kept_map}
use Rattle.model.proofs.Marked.{rooted_part}

-- one more grant
pub right_pushed : (d r : ℕ) (gs : List GrantRecord) (g : GrantRecord) → on_right d r g ≡ true → of_right d r (gs ++ g ∷ []) ≡ of_right d r gs ++ mark_of g ∷ []
right_pushed d r gs g here =
    let kept : filter (on_right d r) (gs ++ g ∷ []) ≡ filter (on_right d r) gs ++ g ∷ [] =
    filter-append (on_right d r) gs (g ∷ []) ∙ ap (λ b. filter (on_right d r) gs ++ cond b (g ∷ []) []) here in
    ap (map mark_of) kept ∙ map_push mark_of (filter (on_right d r) gs) g

pub right_pushed_other : (d r : ℕ) (gs : List GrantRecord) (g : GrantRecord) → on_right d r g ≡ false → of_right d r (gs ++ g ∷ []) ≡ of_right d r gs
right_pushed_other d r gs g elsewhere =
    let kept : filter (on_right d r) (gs ++ g ∷ []) ≡ filter (on_right d r) gs =
    filter-append (on_right d r) gs (g ∷ []) ∙ ap (λ b. filter (on_right d r) gs ++ cond b (g ∷ []) []) elsewhere ∙ append-nil (filter (on_right d r) gs) in
    ap (map mark_of) kept

-- a number is not two
one_draft : (d e n : ℕ) → (e ≡ d → ⊥) → eqb n e ≡ true → eqb n d ≡ false
one_draft d e n other is = ne_eqb n d (λ same. other (sym (eqb-true n e is) ∙ same))

-- the grants of a draft, without those of another
pub right_closed : (d e r : ℕ) → (e ≡ d → ⊥) → (gs : List GrantRecord) → of_right e r (filter (λ g. not (is_on_draft d g)) gs) ≡ of_right e r gs
right_closed d e r other gs =
    ap (map mark_of) (kept_implied (on_right e r) (λ g. not (is_on_draft d g)) (λ g is. not_from_false (is_on_draft d g) (one_draft d e g.draft other (and_parts (eqb g.draft e) (eqb g.right r) is).0)) gs)

-- of the draft's own grants alone
pub right_of_draft : (d r : ℕ) (gs : List GrantRecord) → of_right d r (filter (is_on_draft d) gs) ≡ of_right d r gs
right_of_draft d r gs = ap (map mark_of) (kept_implied (on_right d r) (is_on_draft d) (λ g is. (and_parts (eqb g.draft d) (eqb g.right r) is).0) gs)

-- without one grant
pub right_without : (d r c a : ℕ) (gs : List GrantRecord) → of_right d r (without (key_of d r c a) gs) ≡ unless c a (of_right d r gs)
right_without d r c a gs =
    let here = λ (g : GrantRecord). between c a (mark_of g) in
    ap (map mark_of) (kept_twice (on_right d r) (λ g. not (by_grant (key_of d r c a) g)) gs
    ∙ filter_agree (λ g. not (by_grant (key_of d r c a) g) && on_right d r g) (λ g. on_right d r g && not (here g)) (λ g. each (eqb g.draft d) (eqb g.right r) (here g)) gs
    ∙ sym (kept_twice (λ g. not (here g)) (on_right d r) gs))
    ∙ sym (kept_map mark_of (λ m. not (between c a m)) (filter (on_right d r) gs))
  where
    each : (x y z : Bool) → (not (x && (y && z)) && (x && y)) ≡ ((x && y) && not z)
    each true true true = refl
    each true true false = refl
    each true false z = refl
    each false y z = refl

-- of one right those that pass a test, and all others
right_tested : (d r : ℕ) (f : ℕ → Bool) (gs : List GrantRecord) → of_right d r (filter (λ g. not (on_right d r g) || f g.grantor) gs) ≡ filter (λ m. f m.from) (of_right d r gs)
right_tested d r f gs =
    ap (map mark_of) (kept_twice (on_right d r) (λ g. not (on_right d r g) || f g.grantor) gs
    ∙ filter_agree (λ g. (not (on_right d r g) || f g.grantor) && on_right d r g) (λ g. on_right d r g && f g.grantor) (λ g. each (on_right d r g) (f g.grantor)) gs
    ∙ sym (kept_twice (λ g. f g.grantor) (on_right d r) gs))
    ∙ sym (kept_map mark_of (λ m. f m.from) (filter (on_right d r) gs))
  where
    each : (x y : Bool) → ((not x || y) && x) ≡ (x && y)
    each true true = refl
    each true false = refl
    each false y = refl

-- a withdrawal
pub right_withdrawn : (d r c a owner : ℕ) (gs : List GrantRecord) → of_right d r (still_rooted d r owner (without (key_of d r c a) gs)) ≡ rooted_part owner (unless c a (of_right d r gs))
right_withdrawn d r c a owner gs =
    right_tested d r (rooted owner (of_right d r (without (key_of d r c a) gs))) (without (key_of d r c a) gs)
    ∙ ap (rooted_part owner) (right_without d r c a gs)

pub right_withdrawn_other : (d r c a owner e q : ℕ) → ((e ≡ d) × (q ≡ r) → ⊥) → (gs : List GrantRecord) → of_right e q (still_rooted d r owner (without (key_of d r c a) gs)) ≡ of_right e q gs
right_withdrawn_other d r c a owner e q other gs =
    let fewer = without (key_of d r c a) gs in
    ap (map mark_of) (kept_implied (on_right e q) (λ g. not (on_right d r g) || rooted owner (of_right d r fewer) g.grantor) (λ g is. or_left (not (on_right d r g)) (rooted owner (of_right d r fewer) g.grantor) (not_from_false (on_right d r g) (elsewhere g is))) fewer
    ∙ kept_implied (on_right e q) (λ g. not (by_grant (key_of d r c a) g)) (λ g is. not_from_false (by_grant (key_of d r c a) g) (apart (eqb g.draft d) (eqb g.right r) (between c a (mark_of g)) (elsewhere g is))) gs)
  where
    elsewhere : (g : GrantRecord) → on_right e q g ≡ true → on_right d r g ≡ false
    elsewhere g is =
        let parts = and_parts (eqb g.draft e) (eqb g.right q) is in
        elim (cases_Bool (on_right d r g)) [
          | inl here ↦
              let both = and_parts (eqb g.draft d) (eqb g.right r) here in
              absurd (other (sym (eqb-true g.draft e parts.0) ∙ eqb-true g.draft d both.0, sym (eqb-true g.right q parts.1) ∙ eqb-true g.right r both.1))
          | inr none ↦ none
        ]

    apart : (x y z : Bool) → (x && y) ≡ false → (x && (y && z)) ≡ false
    apart true true z e = absurd (true≢false e)
    apart true false z e = refl
    apart false y z e = refl

-- a grant by its key, and the mark between two accounts
pub key_marked : (d r c a : ℕ) (gs : List GrantRecord) → is_some (first (by_grant (key_of d r c a)) gs) ≡ is_some (first (between c a) (of_right d r gs))
key_marked d r c a [] = refl
key_marked d r c a (g ∷ gs) = each (eqb g.draft d) (eqb g.right r) (key_marked d r c a gs)
  where
    Alike : Bool → Bool → Type 0
    Alike x y = is_some (cond (x && (y && between c a (mark_of g))) (Some g) (first (by_grant (key_of d r c a)) gs)) ≡ is_some (first (between c a) (map mark_of (cond (x && y) (g ∷ filter (on_right d r) gs) (filter (on_right d r) gs))))

    each : (x y : Bool) → is_some (first (by_grant (key_of d r c a)) gs) ≡ is_some (first (between c a) (of_right d r gs)) → Alike x y
    each true true rest =
        elim (between c a (mark_of g)) as (λ b. is_some (cond b (Some g) (first (by_grant (key_of d r c a)) gs)) ≡ is_some (cond b (Some (mark_of g)) (first (between c a) (of_right d r gs)))) [
          | true ↦ refl
          | false ↦ rest
        ]
    each true false rest = rest
    each false y rest = rest
