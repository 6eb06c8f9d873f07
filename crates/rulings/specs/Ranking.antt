-- What a ruling means, and when it is lawful. Assumes nothing.
use Rattle.std.specs.Prelude.{◌≡◌, ℕ, ◌<◌, ◌≤◌, Bool, true, false, ◌⊎◌}
use Rattle.terms.specs.declared.Claim.{Claim}

-- The policy numbers known are those below `known`; `ranks p a b` says that under policy p the claim a
-- ranks at least as high as b.
pub record Ranking : Type 0 where
  pub known : ℕ
  pub ranks : ℕ → Claim → Claim → Bool

pub record Lawful (r : Ranking) : Type 0 where
  pub knows_one : 1 ≤ r.known
  pub knows_at_most_16 : r.known ≤ 16
  -- of two claims, equal ones too, at least one ranks at least as high as the other
  pub total : (p : ℕ) (a b : Claim) → p < r.known → (r.ranks p a b ≡ true) ⊎ (r.ranks p b a ≡ true)
  pub transitive : (p : ℕ) (a b c : Claim) → p < r.known → r.ranks p a b ≡ true → r.ranks p b c ≡ true → r.ranks p a c ≡ true
  pub unknown_is_no : (p : ℕ) (a b : Claim) → r.known ≤ p → r.ranks p a b ≡ false
