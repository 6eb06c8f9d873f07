use Rattle.std.proofs.Common.{◌≡◌, ℕ, true}
use Rattle.charts.specs.Chains.{Chain}
use Rattle.charts.specs.Passes.{reached_from}
use Rattle.charts.proofs.Found.{missing}
use Rattle.charts.proofs.reach.search.Given as goal

abbrev pub invariant-loop : goal.invariant-loop
invariant-loop g l = (a b : ℕ) → reached_from l.start l.reached a b ≡ true → Chain (g.C.Chart.lines l.chart) a b

abbrev pub decreases-loop : goal.decreases-loop
decreases-loop g l = missing (reached_from l.start) l.reached
