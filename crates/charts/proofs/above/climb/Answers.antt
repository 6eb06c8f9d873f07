use Rattle.charts.specs.Sets.{over, Any}
use Rattle.charts.specs.Walks.{lines_left}
use Rattle.charts.proofs.Following.{passed_more}
use Rattle.charts.proofs.Walked.{line_given}
use Rattle.charts.proofs.above.climb.Goals as goal

pub loop-line-preserved : goal.loop-line-preserved
loop-line-preserved g c =
    let lines = g.C.Chart.lines c.args.chart.now in
    let given = c.loop-line.yielded in
    let line = c.in-Some.line in
    passed_more over Any lines given line c.args.above.now c.loop-line.above c.follow-grew.new.self c.loop-line.grew c.follow-grew.result
    (line_given (lines_left g.C.Chart.lines) lines (cc) given c.loop-line.line-iterator c.next.new.self line c.loop-line.yielded_by c.in-Some.ensures.steps).1
    c.loop-line.invariant c.follow-grew.ensures
