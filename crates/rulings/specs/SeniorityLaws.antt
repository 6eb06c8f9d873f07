-- The seniority ruling is lawful, whatever the bytes. Assumes nothing.
use Rattle.std.specs.Prelude.{◌≡◌, ℕ, zero, suc, ◌<◌, ◌≤◌, true, false, ◌⊎◌, List, refl}
use Rattle.std.proofs.Common.{arith, lit≤}
use Rattle.terms.specs.declared.Claim.{Claim}
use Rattle.rulings.specs.Orders.{leb_total, leb_transitive}
use Rattle.rulings.specs.Ranking.{Lawful}
use Rattle.rulings.specs.Seniority.{rank, seniority, seniority_ranks}

module _ (bytes : List ℕ) where
  seniority_total : (p : ℕ) (a b : Claim) → p < 2 → (seniority_ranks bytes p a b ≡ true) ⊎ (seniority_ranks bytes p b a ≡ true)
  seniority_total zero a b known = leb_total (rank bytes b) (rank bytes a)
  seniority_total (suc zero) a b known = leb_total (rank bytes a) (rank bytes b)
  seniority_total (suc (suc p)) a b known = absurd (omega arith)

  seniority_transitive : (p : ℕ) (a b c : Claim) → p < 2 → seniority_ranks bytes p a b ≡ true → seniority_ranks bytes p b c ≡ true → seniority_ranks bytes p a c ≡ true
  seniority_transitive zero a b c known first second = leb_transitive (rank bytes c) (rank bytes b) (rank bytes a) second first
  seniority_transitive (suc zero) a b c known first second = leb_transitive (rank bytes a) (rank bytes b) (rank bytes c) first second
  seniority_transitive (suc (suc p)) a b c known first second = absurd (omega arith)

  seniority_unknown : (p : ℕ) (a b : Claim) → 2 ≤ p → seniority_ranks bytes p a b ≡ false
  seniority_unknown zero a b unknown = absurd (omega arith)
  seniority_unknown (suc zero) a b unknown = absurd (omega arith)
  seniority_unknown (suc (suc p)) a b unknown = refl

  pub seniority_lawful : Lawful (seniority bytes)
  seniority_lawful = record {
    knows_one = lit≤ tt;
    knows_at_most_16 = lit≤ tt;
    total = seniority_total;
    transitive = seniority_transitive;
    unknown_is_no = seniority_unknown;
  }
