use Rattle.charts.specs.Sets.{over, Any}
use Rattle.charts.proofs.Climbed.{over_accounts}
use Rattle.charts.proofs.Found.{missing_less, all_found}
use Rattle.charts.proofs.above.all_above.Goals as goal

pub loop-smaller : goal.loop-smaller
loop-smaller g c =
    let p = c.climb.ensures in
    let new = p.new c.loop-test.true in
    let accounts = over_accounts c.climb.new.above new.0 new.1 new.3 in
    missing_less over c.loop.above c.climb.new.above p.keeps new.0 new.1 accounts.0 accounts.1 new.2 new.3

pub returns : goal.returns
returns g c =
    let p = c.loop-test.ensures in
    λ a b. (p.sound c.loop.invariant a b, (λ chain. all_found over Any (g.C.Chart.lines c.args.chart.now) c.loop.above c.climb.new.above p tt chain))
