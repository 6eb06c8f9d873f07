use Rattle.std.proofs.Common.{arith}
use Rattle.settlement.specs.Picked.{picked}
use Rattle.settlement.proofs.Places.{same_picked}
use Rattle.settlement.proofs.Rounds.{round_more, settled_from_same}
use Rattle.settlement.proofs.cases.Case.settle.Goals as goal

pub loop-n-preserved : goal.loop-n-preserved
loop-n-preserved g c =
    let case = c.args.self.now in
    round_more (g.C.Chart.lines case.chart.now) (g.C.SignedChart.signs case.chart.now) case.owner (g.R.Ruling.ranking case.ruling.now) case.policy (picked c.loop-n.picks) (picked c.round-next.result) c.loop-n._n c.loop-n.invariant c.round-next.ensures

pub returns-then-eq : goal.returns-then-eq
returns-then-eq g c =
    let case = c.args.self.now in
    settled_from_same (g.C.Chart.lines case.chart.now) (g.C.SignedChart.signs case.chart.now) case.owner (g.R.Ruling.ranking case.ruling.now) case.policy (picked c.loop-n.picks) (picked c.round-next.result) c.loop-n._n c.loop-n.invariant c.round-next.ensures (same_picked c.round-next.result c.loop-n.picks c.if-eq.ensures) (omega (arith, c.len-n-end.ensures.value))
