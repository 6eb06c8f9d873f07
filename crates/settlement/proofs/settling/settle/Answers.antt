use Rattle.settlement.specs.Picked.{picked}
use Rattle.settlement.proofs.Unique.{are_settled, are_the_only}
use Rattle.settlement.proofs.settling.settle.Goals as goal

pub returns-clause-settled : goal.returns-clause-settled
returns-clause-settled g c =
    are_settled (g.C.Chart.lines c.args.chart.now) (g.C.SignedChart.signs c.args.chart.now) c.args.owner (g.R.Ruling.ranking c.args.ruling.now) (g.R.Ruling.laws c.args.ruling.now) c.args.policy (picked c.settle.result) c.settle.ensures

pub returns-clause-only : goal.returns-clause-only
returns-clause-only g c =
    are_the_only (g.C.Chart.lines c.args.chart.now) (g.C.SignedChart.signs c.args.chart.now) c.args.owner (g.R.Ruling.ranking c.args.ruling.now) (g.R.Ruling.laws c.args.ruling.now) c.args.policy (picked c.settle.result) c.settle.ensures
