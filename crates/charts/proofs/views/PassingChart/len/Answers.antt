use Rattle.std.proofs.Common.{rules}
use Rattle.charts.proofs.Viewed.{length_passing}
use Rattle.charts.proofs.views.PassingChart.len.Goals as goal

pub returns-clause-value : goal.returns-clause-value
returns-clause-value g c = search (rules, length_passing)
