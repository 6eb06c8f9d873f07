use Rattle.std.proofs.Common.{rules}
use Rattle.std.proofs.lemmas.List.{take_min}
use Rattle.charts.proofs.views.Marks.counted.Goals as goal

pub returns-clause-marks : goal.returns-clause-marks
returns-clause-marks c = search (rules, take_min)
