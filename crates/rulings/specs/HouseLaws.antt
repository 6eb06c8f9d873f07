-- The house ruling is lawful. Assumes nothing.
use Rattle.std.specs.Prelude.{◌≡◌, ℕ, zero, suc, ◌<◌, ◌≤◌, true, false, ◌⊎◌, refl}
use Rattle.std.proofs.Common.{inl, arith, lit≤}
use Rattle.terms.specs.declared.Claim.{Claim}
use Rattle.rulings.specs.Ranking.{Lawful}
use Rattle.rulings.specs.House.{house, house_ranks, strictness}
use Rattle.rulings.specs.Orders.{leb_total, leb_transitive}

house_total : (p : ℕ) (a b : Claim) → p < 4 → (house_ranks p a b ≡ true) ⊎ (house_ranks p b a ≡ true)
house_total zero a b known = inl refl
house_total (suc zero) a b known = leb_total (strictness b.kind) (strictness a.kind)
house_total (suc (suc zero)) a b known = leb_total (strictness a.kind) (strictness b.kind)
house_total (suc (suc (suc zero))) a b known = leb_total b.serial a.serial
house_total (suc (suc (suc (suc p)))) a b known = absurd (omega arith)

house_transitive : (p : ℕ) (a b c : Claim) → p < 4 → house_ranks p a b ≡ true → house_ranks p b c ≡ true → house_ranks p a c ≡ true
house_transitive zero a b c known first second = refl
house_transitive (suc zero) a b c known first second =
    leb_transitive (strictness c.kind) (strictness b.kind) (strictness a.kind) second first
house_transitive (suc (suc zero)) a b c known first second =
    leb_transitive (strictness a.kind) (strictness b.kind) (strictness c.kind) first second
house_transitive (suc (suc (suc zero))) a b c known first second =
    leb_transitive c.serial b.serial a.serial second first
house_transitive (suc (suc (suc (suc p)))) a b c known first second = absurd (omega arith)

house_unknown : (p : ℕ) (a b : Claim) → 4 ≤ p → house_ranks p a b ≡ false
house_unknown zero a b unknown = absurd (omega arith)
house_unknown (suc zero) a b unknown = absurd (omega arith)
house_unknown (suc (suc zero)) a b unknown = absurd (omega arith)
house_unknown (suc (suc (suc zero))) a b unknown = absurd (omega arith)
house_unknown (suc (suc (suc (suc p)))) a b unknown = refl

pub house_lawful : Lawful house
house_lawful = record {
  knows_one = lit≤ tt;
  knows_at_most_16 = lit≤ tt;
  total = house_total;
  transitive = house_transitive;
  unknown_is_no = house_unknown;
}
