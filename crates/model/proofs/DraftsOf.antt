-- The record of a draft as drafts are opened, changed and closed. Assumes nothing.
use Rattle.std.proofs.Common.{◌≡◌, ℕ, true, false, cond, not, eqb, List, [], ◌∷◌, ◌++◌, Some, None, filter, Option, sym, refl, ap, ◌∙◌, arith}
use Rattle.std.specs.Option.{option_or}
use Rattle.std.proofs.lemmas.Bool.{eqb-true, eq-eqb, ne_eqb}
use Rattle.std.proofs.lemmas.List.Folds.{find-append}
use Rattle.table.specs.Used.{first, replaced}
use Rattle.model.specs.declared.records.DraftRecord.{DraftRecord}
use Rattle.model.specs.Keys.{by_draft}

-- what is found goes by that number
pub found_draft : (d : ℕ) (xs : List DraftRecord) (x : DraftRecord) → first (by_draft d) xs ≡ Some x → x.draft ≡ d
found_draft d [] x found = let z : ◌≡◌ {A = ℕ} 0 1 = cc in absurd (omega arith)
found_draft d (z ∷ zs) x found =
    elim (eqb z.draft d) as (λ b. eqb z.draft d ≡ b → cond b (Some z) (first (by_draft d) zs) ≡ Some x → x.draft ≡ d) [
      | true ↦ λ t e. let here : z ≡ x = cc in ap (λ (w : DraftRecord). w.draft) (sym here) ∙ eqb-true z.draft d t
      | false ↦ λ t e. found_draft d zs x e
    ] refl found

pub opened_own : (x : DraftRecord) (xs : List DraftRecord) → first (by_draft x.draft) xs ≡ None → first (by_draft x.draft) (xs ++ x ∷ []) ≡ Some x
opened_own x xs absent = rw (find-append (by_draft x.draft) xs (x ∷ []), absent, eq-eqb x.draft x.draft refl) refl

pub opened_other : (d : ℕ) (x : DraftRecord) (xs : List DraftRecord) → (x.draft ≡ d → ⊥) → first (by_draft d) (xs ++ x ∷ []) ≡ first (by_draft d) xs
opened_other d x xs other = rw (find-append (by_draft d) xs (x ∷ []), ne_eqb x.draft d other)
    (elim (first (by_draft d) xs) as (λ o. option_or o None ≡ o) [ None ↦ refl | Some y ↦ refl ])

pub closed_own : (d : ℕ) (xs : List DraftRecord) → first (by_draft d) (filter (λ x. not (by_draft d x)) xs) ≡ None
closed_own d [] = refl
closed_own d (z ∷ zs) =
    let rest : List DraftRecord = filter (λ x. not (by_draft d x)) zs in
    elim (eqb z.draft d) as (λ b. eqb z.draft d ≡ b → first (by_draft d) (cond (not b) (z ∷ rest) rest) ≡ None) [
      | true ↦ λ t. closed_own d zs
      | false ↦ λ t. rw t (closed_own d zs)
    ] refl

pub closed_other : (d e : ℕ) → (e ≡ d → ⊥) → (xs : List DraftRecord) → first (by_draft e) (filter (λ x. not (by_draft d x)) xs) ≡ first (by_draft e) xs
closed_other d e other [] = refl
closed_other d e other (z ∷ zs) =
    let rest : List DraftRecord = filter (λ x. not (by_draft d x)) zs in
    elim (eqb z.draft d) as (λ b. eqb z.draft d ≡ b → first (by_draft e) (cond (not b) (z ∷ rest) rest) ≡ cond (eqb z.draft e) (Some z) (first (by_draft e) zs)) [
      | true ↦ λ t. rw (ne_eqb z.draft e (λ q. other (sym q ∙ eqb-true z.draft d t))) (closed_other d e other zs)
      | false ↦ λ t. ap (λ (o : Option DraftRecord). cond (eqb z.draft e) (Some z) o) (closed_other d e other zs)
    ] refl

pub changed_own : (d : ℕ) (x y : DraftRecord) (xs : List DraftRecord) → first (by_draft d) xs ≡ Some x → y.draft ≡ x.draft → first (by_draft d) (replaced (by_draft d) y xs) ≡ Some y
changed_own d x y [] found same = let z : ◌≡◌ {A = ℕ} 0 1 = cc in absurd (omega arith)
changed_own d x y (z ∷ zs) found same =
    elim (eqb z.draft d) as (λ b. eqb z.draft d ≡ b → cond b (Some z) (first (by_draft d) zs) ≡ Some x → first (by_draft d) (cond b (y ∷ zs) (z ∷ replaced (by_draft d) y zs)) ≡ Some y) [
      | true ↦ λ t e. rw (eq-eqb y.draft d (same ∙ found_draft d (z ∷ zs) x found)) refl
      | false ↦ λ t e. rw t (changed_own d x y zs e same)
    ] refl found

pub changed_other : (d e : ℕ) (x y : DraftRecord) (xs : List DraftRecord) → (e ≡ d → ⊥) → first (by_draft d) xs ≡ Some x → y.draft ≡ x.draft → first (by_draft e) (replaced (by_draft d) y xs) ≡ first (by_draft e) xs
changed_other d e x y [] other found same = refl
changed_other d e x y (z ∷ zs) other found same =
    elim (eqb z.draft d) as (λ b. eqb z.draft d ≡ b → cond b (Some z) (first (by_draft d) zs) ≡ Some x → first (by_draft e) (cond b (y ∷ zs) (z ∷ replaced (by_draft d) y zs)) ≡ cond (eqb z.draft e) (Some z) (first (by_draft e) zs)) [
      | true ↦ λ t q.
          let new : eqb y.draft e ≡ false = ne_eqb y.draft e (λ w. other (sym w ∙ (same ∙ found_draft d (z ∷ zs) x found))) in
          let old : eqb z.draft e ≡ false = ne_eqb z.draft e (λ w. other (sym w ∙ eqb-true z.draft d t)) in
          rw (new, old) refl
      | false ↦ λ t q. ap (λ (o : Option DraftRecord). cond (eqb z.draft e) (Some z) o) (changed_other d e x y zs other q same)
    ] refl found
