-- Picks by their places. Assumes nothing.
use Rattle.std.proofs.Common.{◌≡◌, ℕ, true, cond, ltb, nat_eq, get_or, replicate, Some, None, Decides, Option, if◌then◌else◌, refl, ap, arith}
use Rattle.std.specs.Cmp.Lexicographic.{pointwise}
use Rattle.std.specs.Option.{option_eq}
use Rattle.std.proofs.lemmas.List.{get_or-replicate}
use Rattle.std.proofs.lemmas.Bool.{eqb-true, eq-eqb, false≢true}
use Rattle.std.proofs.lemmas.Slice.Eq.{slice_eq-Decides}
use Rattle.settlement.specs.declared.picks.Settlement.{Settlement}
use Rattle.settlement.specs.Picked.{picked}

pub none_picked : (n a : ℕ) → ◌≡◌ {A = Option ℕ} (if ltb a n then get_or (replicate n None) a None else None) None
none_picked n a = grind (arith, get_or-replicate)

place_decides : (x y : Option ℕ) → Decides (option_eq nat_eq x y) (x ≡ y)
place_decides None None = (λ _. refl, λ _. refl)
place_decides None (Some y) = (λ e. absurd (false≢true e), λ e. cc)
place_decides (Some x) None = (λ e. absurd (false≢true e), λ e. cc)
place_decides (Some x) (Some y) = (λ e. ap Some (eqb-true x y e), λ e. eq-eqb x y cc)

-- settlements that are found equal pick alike
pub same_picked : (s t : Settlement) → true ≡ pointwise (option_eq nat_eq) s.places t.places → (a : ℕ) → picked s a ≡ picked t a
same_picked s t told a = ap (λ places. cond (ltb a 512) (get_or places a None) None) ((slice_eq-Decides place_decides s.places t.places true told).0 refl)
