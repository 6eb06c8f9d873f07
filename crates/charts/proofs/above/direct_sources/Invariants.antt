use Rattle.std.proofs.Common.{length}
use Rattle.charts.proofs.Climbed.{Collected}
use Rattle.charts.proofs.above.direct_sources.Given as goal

abbrev pub invariant-loop-line : goal.invariant-loop-line
invariant-loop-line g l = Collected (g.C.Chart.lines l.chart) (length l.yielded) l.sources
