use Rattle.std.proofs.Common.{◌≡◌, ℕ}
use Rattle.settlement.specs.Picked.{picked}
use Rattle.settlement.specs.Picking.{rounds}
use Rattle.settlement.proofs.cases.Case.settle.Given as goal

abbrev pub invariant-loop-n : goal.invariant-loop-n
invariant-loop-n g l =
    (a : ℕ) → picked l.picks a ≡ rounds (g.C.Chart.lines l.self.chart.now) (g.C.SignedChart.signs l.self.chart.now) l.self.owner (g.R.Ruling.ranking l.self.ruling.now) l.self.policy l._n a
