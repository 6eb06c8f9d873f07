-- Lists of which some are kept. Assumes nothing.
use Rattle.std.proofs.Common.{◌≡◌, ℕ, Bool, true, false, cond, ◌&&◌, List, [], ◌∷◌, map, Some, filter, sym, refl, ap, ◌∙◌, arith}
use Rattle.std.specs.List.{AllByRecursion}
use Rattle.std.proofs.lemmas.List.Elements.{filter_agree}
use Rattle.table.specs.Used.{first}

module _ {X : Type 0} where
  pub kept_twice : (p q : X → Bool) (xs : List X) → filter p (filter q xs) ≡ filter (λ x. q x && p x) xs
  kept_twice p q [] = refl
  kept_twice p q (x ∷ xs) =
      elim (q x) as (λ b. filter p (cond b (x ∷ filter q xs) (filter q xs)) ≡ cond (b && p x) (x ∷ filter (λ x. q x && p x) xs) (filter (λ x. q x && p x) xs)) [
        | true ↦ ap (λ ys. cond (p x) (x ∷ ys) ys) (kept_twice p q xs)
        | false ↦ kept_twice p q xs
      ]

  pub kept_swap : (p q : X → Bool) (xs : List X) → filter p (filter q xs) ≡ filter q (filter p xs)
  kept_swap p q xs = kept_twice p q xs ∙ filter_agree (λ x. q x && p x) (λ x. p x && q x) (λ x. either_order (q x) (p x)) xs ∙ sym (kept_twice q p xs)
    where
      either_order : (a b : Bool) → (a && b) ≡ (b && a)
      either_order true true = refl
      either_order true false = refl
      either_order false true = refl
      either_order false false = refl

  -- what passes p passes q
  pub kept_implied : (p q : X → Bool) → ((x : X) → p x ≡ true → q x ≡ true) → (xs : List X) → filter p (filter q xs) ≡ filter p xs
  kept_implied p q implied xs = kept_twice p q xs ∙ filter_agree (λ x. q x && p x) p (λ x. both (q x) (p x) (implied x)) xs
    where
      both : (a b : Bool) → (b ≡ true → a ≡ true) → (a && b) ≡ b
      both true b so = refl
      both false true so = so refl
      both false false so = refl

  pub first_kept : (p q : X → Bool) → ((x : X) → p x ≡ true → q x ≡ true) → (xs : List X) → first p (filter q xs) ≡ first p xs
  first_kept p q implied [] = refl
  first_kept p q implied (x ∷ xs) =
      elim (q x) as (λ b. (p x ≡ true → b ≡ true) → first p (cond b (x ∷ filter q xs) (filter q xs)) ≡ cond (p x) (Some x) (first p xs)) [
        | true ↦ λ _. ap (λ o. cond (p x) (Some x) o) (first_kept p q implied xs)
        | false ↦ λ so.
            elim (p x) as (λ a. (a ≡ true → false ≡ true) → first p (filter q xs) ≡ cond a (Some x) (first p xs)) [
              | true ↦ λ no. let e : false ≡ true = no refl in let z : ◌≡◌ {A = ℕ} 0 1 = cc in absurd (omega arith)
              | false ↦ λ _. first_kept p q implied xs
            ] so
      ] (implied x)

  -- where none passes, none is kept, and where all do, all are
  pub kept_none : (p : X → Bool) (xs : List X) → AllByRecursion (λ x. p x ≡ false) xs → filter p xs ≡ []
  kept_none p [] none = refl
  kept_none p (x ∷ xs) none = rw none.0 (kept_none p xs none.1)

  pub kept_all : (p : X → Bool) (xs : List X) → AllByRecursion (λ x. p x ≡ true) xs → filter p xs ≡ xs
  kept_all p [] all = refl
  kept_all p (x ∷ xs) all = rw all.0 (ap (λ ys. x ∷ ys) (kept_all p xs all.1))

pub kept_map : {X Y : Type 0} (f : X → Y) (p : Y → Bool) (xs : List X) → filter p (map f xs) ≡ map f (filter (λ x. p (f x)) xs)
kept_map f p [] = refl
kept_map f p (x ∷ xs) =
    elim (p (f x)) as (λ b. cond b (f x ∷ filter p (map f xs)) (filter p (map f xs)) ≡ map f (cond b (x ∷ filter (λ x. p (f x)) xs) (filter (λ x. p (f x)) xs))) [
      | true ↦ ap (λ ys. f x ∷ ys) (kept_map f p xs)
      | false ↦ kept_map f p xs
    ]
