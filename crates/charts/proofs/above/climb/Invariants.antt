use Rattle.std.proofs.Common.{length}
use Rattle.charts.specs.Passes.{Passed}
use Rattle.charts.specs.Sets.{over, Any}
use Rattle.charts.proofs.above.climb.Given as goal

abbrev pub invariant-loop-line : goal.invariant-loop-line
invariant-loop-line g l = Passed over Any (g.C.Chart.lines l.chart) (length l.yielded) l.initial.above l.above l.grew
