use Rattle.std.proofs.Common.{[], ◌∷◌, None, ◌==◌, get_or, ap, length-append, length, arith}
use Rattle.settlement.specs.Picked.{picked}
use Rattle.settlement.specs.Picking.{eligible, better}
use Rattle.settlement.proofs.Rounds.{best_more}
use Rattle.settlement.proofs.cases.Case.round.Goals as goal

pub loop-at-preserved : goal.loop-at-preserved
loop-at-preserved g c =
    let case = c.args.self.now in
    let lines = g.C.Chart.lines case.chart.now in
    let signs = g.C.SignedChart.signs case.chart.now in record {
      fits = omega (arith, ap length c.in-Some.ensures.steps);
      counts = omega (arith, length-append c.loop-at.yielded (c.in-Some.line ∷ []));
      picks = λ a. best_more (better lines signs (g.R.Ruling.ranking case.ruling.now) case.policy) c.loop-at.at (λ at. eligible lines signs case.owner (picked c.args.picks.now) a (get_or lines at None)) (a == case.owner) _ _ (c.loop-at.invariant.picks a) (c.consider.ensures a);
    }
