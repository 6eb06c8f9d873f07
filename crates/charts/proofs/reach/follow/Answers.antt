use Rattle.std.proofs.Common.{rules}
use Rattle.charts.proofs.Reached.{reached_more}
use Rattle.charts.proofs.reach.follow.Goals as goal

pub returns : goal.returns
returns c =
    reached_more c.args.line c.in-Some.line c.args.start c.in-Some.is c.requires c.args.reached.now c.insert.new.self c.insert.result
    (search rules) c.insert.ensures.value c.insert.ensures.after
