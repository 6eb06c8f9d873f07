use Rattle.std.proofs.Common.{◌≡◌, ℕ, true}
use Rattle.charts.specs.Chains.{Chain}
use Rattle.charts.specs.Sets.{over}
use Rattle.charts.proofs.Found.{missing}
use Rattle.charts.proofs.above.all_above.Given as goal

abbrev pub invariant-loop : goal.invariant-loop
invariant-loop g l = (a b : ℕ) → over l.above a b ≡ true → Chain (g.C.Chart.lines l.chart) a b

abbrev pub decreases-loop : goal.decreases-loop
decreases-loop g l = missing over l.above
