use Rattle.std.proofs.Common.{length}
use Rattle.charts.specs.Passes.{Passed, reached_from, Is}
use Rattle.charts.proofs.reach.pass.Given as goal

abbrev pub invariant-loop-line : goal.invariant-loop-line
invariant-loop-line g l = Passed (reached_from l.start) (Is l.start) (g.C.Chart.lines l.chart) (length l.yielded) l.initial.reached l.reached l.grew
