use Rattle.std.proofs.Common.{rules}
use Rattle.charts.proofs.Climbed.{put_over}
use Rattle.charts.proofs.above.Sources.put.Goals as goal

pub returns : goal.returns
returns c =
    put_over c.args.line c.in-Some.line c.args.self.now c.from.result c.insert.new.self (search rules) c.from.ensures (search rules) (search rules) (search rules) c.insert.ensures.after
