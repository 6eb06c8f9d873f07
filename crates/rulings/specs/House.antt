-- The house ruling: policy 0 ranks all equal, policy 1 denying over plain over delegatable, policy 2 the
-- reverse, policy 3 the greater serial higher. Assumes nothing.
use Rattle.std.specs.Prelude.{ℕ, zero, suc, Bool, true, false, nat_le}
use Rattle.terms.specs.declared.Claim.{Claim}
use Rattle.terms.specs.declared.Kind.{Kind}
use Rattle.terms.specs.declared.Kind.TheVariants.{Denying, Plain, Delegatable}
use Rattle.rulings.specs.Ranking.{Ranking}

-- how strict a kind is: denying over plain over delegatable
abbrev pub strictness : Kind → ℕ
strictness Denying = 2
strictness Plain = 1
strictness Delegatable = 0

abbrev pub house_ranks : ℕ → Claim → Claim → Bool
house_ranks zero a b = true
house_ranks (suc zero) a b = nat_le (strictness b.kind) (strictness a.kind)
house_ranks (suc (suc zero)) a b = nat_le (strictness a.kind) (strictness b.kind)
house_ranks (suc (suc (suc zero))) a b = nat_le b.serial a.serial
house_ranks (suc (suc (suc (suc p)))) a b = false

abbrev pub house : Ranking
house = record { known = 4; ranks = house_ranks }
