-- The first record that passes a test: where it stands, and whether there is one. Assumes nothing.
use Rattle.std.proofs.Common.{◌≡◌, ℕ, suc, ◌+◌, ◌<◌, ◌≤◌, Bool, true, false, cond, not, ltb, List, [], ◌∷◌, length, set, is_some, Some, None, filter, refl, ap, ◌∙◌, arith}
use Rattle.std.proofs.lemmas.Grind.{common_steps}
use Rattle.std.specs.List.{position, position_or_len}
use Rattle.std.proofs.lemmas.List.{set_past}
use Rattle.std.proofs.lemmas.List.Filters.{length-filter_both}
use Rattle.std.proofs.lemmas.Bool.{lt-ltb, le-ltb}
use Rattle.table.specs.Used.{first, replaced}

module _ {R : Type 0} (test : R → Bool) where
  replaced_there : (xs : List R) (y : R) → replaced test y xs ≡ set xs (position_or_len test xs) y
  replaced_there [] y = refl
  replaced_there (x ∷ xs) y =
      elim (test x) as (λ b. cond b (y ∷ xs) (x ∷ replaced test y xs) ≡ set (x ∷ xs) (cond (not b) (1 + position_or_len test xs) 0) y) [
        | true ↦ refl
        | false ↦ let next : 1 + position_or_len test xs ≡ suc (position_or_len test xs) = omega arith in rw next (ap (λ zs. x ∷ zs) (replaced_there xs y))
      ]

  found_within : (xs : List R) → is_some (first test xs) ≡ ltb (position_or_len test xs) (length xs)
  found_within [] = refl
  found_within (x ∷ xs) =
      elim (test x) as (λ b. is_some (cond b (Some x) (first test xs)) ≡ ltb (cond (not b) (1 + position_or_len test xs) 0) (length (x ∷ xs))) [
        | true ↦ grind arith
        | false ↦ grind (arith, common_steps, found_within xs)
      ]

  found_passes : (xs : List R) → is_some (first test xs) ≡ ltb 0 (length (filter test xs))
  found_passes [] = refl
  found_passes (x ∷ xs) =
      elim (test x) as (λ b. is_some (cond b (Some x) (first test xs)) ≡ ltb 0 (length (cond b (x ∷ filter test xs) (filter test xs)))) [
        | true ↦ grind arith
        | false ↦ found_passes xs
      ]

  module _ (j : ℕ) (xs : List R) (at : Some j ≡ position test xs) where
    place : (position_or_len test xs ≡ j) × (j < length xs)
    place =
        let n = position_or_len test xs in
        elim (ltb n (length xs)) as (λ b. ltb n (length xs) ≡ b → Some j ≡ cond b (Some n) None → (n ≡ j) × (j < length xs)) [
          | true ↦ λ w e. let same : n ≡ j = cc in (same, grind (arith, w))
          | false ↦ λ w e. let z : ◌≡◌ {A = ℕ} 0 1 = cc in absurd (omega arith)
        ] refl at

    pub within_at : j < length xs
    within_at = place.1

    pub found_at : is_some (first test xs) ≡ true
    found_at = found_within xs ∙ lt-ltb _ _ (omega (arith, place.0, place.1))

    pub replaced_at : (y : R) → replaced test y xs ≡ set xs j y
    replaced_at y = replaced_there xs y ∙ ap (λ k. set xs k y) place.0

  module _ (xs : List R) (nowhere : None ≡ position test xs) where
    past : length xs ≤ position_or_len test xs
    past =
        let n = position_or_len test xs in
        elim (ltb n (length xs)) as (λ b. ltb n (length xs) ≡ b → None ≡ cond b (Some n) None → length xs ≤ n) [
          | true ↦ λ w e. let z : ◌≡◌ {A = ℕ} 0 1 = cc in absurd (omega arith)
          | false ↦ λ w e. grind (arith, w)
        ] refl nowhere

    pub not_found : is_some (first test xs) ≡ false
    not_found = found_within xs ∙ le-ltb _ _ past

    pub replaced_nowhere : (y : R) → replaced test y xs ≡ xs
    replaced_nowhere y = replaced_there xs y ∙ set_past xs _ y past

  -- how many went by what stays
  module _ (xs ys : List R) (n : ℕ) (stay : ys ≡ filter (λ x. not (test x)) xs) (sum : n + length ys ≡ length xs) where
    went : n ≡ length (filter test xs)
    went = omega (arith, ap length stay, sum, length-filter_both test (λ x. not (test x)) (λ _. refl) xs)

    pub none_went : n ≡ 0 → is_some (first test xs) ≡ false
    none_went none = found_passes xs ∙ le-ltb _ _ (omega (arith, went))

    pub some_went : (n ≡ 0 → ⊥) → is_some (first test xs) ≡ true
    some_went some = found_passes xs ∙ lt-ltb _ _ (omega (arith, went, some))
