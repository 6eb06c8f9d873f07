-- The seniority ruling: policy 0 ranks the claim whose grantor has the greater byte higher, policy 1 the
-- smaller. Accounts past the end of the bytes have rank 0. Assumes nothing.
use Rattle.std.specs.Prelude.{ℕ, zero, suc, Bool, false, List, nat_le, slice_index}
use Rattle.terms.specs.declared.Claim.{Claim}
use Rattle.rulings.specs.Ranking.{Ranking}

abbrev pub rank : List ℕ → Claim → ℕ
rank bytes c = slice_index bytes c.grantor

abbrev pub seniority_ranks : List ℕ → ℕ → Claim → Claim → Bool
seniority_ranks bytes zero a b = nat_le (rank bytes b) (rank bytes a)
seniority_ranks bytes (suc zero) a b = nat_le (rank bytes a) (rank bytes b)
seniority_ranks bytes (suc (suc p)) a b = false

abbrev pub seniority : List ℕ → Ranking
seniority bytes = record { known = 2; ranks = seniority_ranks bytes }
