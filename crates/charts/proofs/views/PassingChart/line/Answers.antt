use Rattle.std.proofs.Common.{rules}
use Rattle.charts.proofs.Viewed.{passing_at}
use Rattle.charts.proofs.views.PassingChart.line.Goals as goal

pub returns-then-ne : goal.returns-then-ne
returns-then-ne g c = search (rules, passing_at)

pub returns : goal.returns
returns g c = search (rules, passing_at)
