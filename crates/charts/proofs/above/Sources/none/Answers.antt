use Rattle.charts.proofs.Climbed.{none_over}
use Rattle.charts.proofs.above.Sources.none.Goals as goal

pub returns : goal.returns
returns c = none_over 512 c.none.result c.none.ensures
