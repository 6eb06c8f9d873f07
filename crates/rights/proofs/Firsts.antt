-- Whether some record passes, and what stands at a place. Assumes nothing.
use Rattle.std.proofs.Common.{◌≡◌, ℕ, ◌<◌, ◌≤◌, Bool, true, false, cond, ◌||◌, List, [], ◌∷◌, length, get_or, is_some, Some, refl, arith}
use Rattle.std.specs.List.{slice_get, list_any}
use Rattle.std.proofs.lemmas.Option.{slice_get-get_or, slice_get_past}
use Rattle.table.specs.Used.{first}

module _ {X : Type 0} (p : X → Bool) where
  -- the code asks whether one passes by std's word
  pub found_any : (xs : List X) → is_some (first p xs) ≡ list_any p xs
  found_any [] = refl
  found_any (x ∷ xs) =
      elim (p x) as (λ b. is_some (cond b (Some x) (first p xs)) ≡ (b || list_any p xs)) [
        | true ↦ refl
        | false ↦ found_any xs
      ]

-- what stands at a place is what is read there, and nothing stands past the end
pub at_read : {X : Type 0} (xs : List X) (i : ℕ) (d x : X) → i < length xs → slice_get xs i ≡ Some x → x ≡ get_or xs i d
at_read xs i d x within is = let read = slice_get-get_or xs i d within in cc

pub none_past : {X : Type 0} (xs : List X) (i : ℕ) (x : X) → length xs ≤ i → slice_get xs i ≡ Some x → ⊥
none_past xs i x past is = let none = slice_get_past xs i past in let z : ◌≡◌ {A = ℕ} 0 1 = cc in omega arith
