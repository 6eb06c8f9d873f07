use Rattle.charts.specs.Walks.{lines_left}
use Rattle.charts.proofs.Climbed.{collected_more}
use Rattle.charts.proofs.Walked.{line_given}
use Rattle.charts.proofs.above.direct_sources.Goals as goal

pub loop-line-preserved : goal.loop-line-preserved
loop-line-preserved g c =
    let lines = g.C.Chart.lines c.args.chart.now in
    let given = c.loop-line.yielded in
    let line = c.in-Some.line in
    collected_more lines given line c.loop-line.sources c.put.new.self
    (line_given (lines_left g.C.Chart.lines) lines (cc) given c.loop-line.line-iterator c.next.new.self line c.loop-line.yielded_by c.in-Some.ensures.steps).1
    c.loop-line.invariant c.put.ensures
