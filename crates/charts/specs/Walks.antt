-- What is left of a chart that is walked line by line. Assumes nothing.
use Rattle.std.specs.Prelude.{◌-◌, List, map, None, Option, slice_index_or}
use Rattle.std.specs.List.{range_with_len}
use Rattle.charts.specs.declared.chart.Line.{Line}
use Rattle.charts.specs.declared.chart.Lines.{Lines}

-- the lines still to come, where `lines` tells those of a chart
abbrev pub lines_left : {C : Type 0} → (C → List (Option Line)) → Lines C → List (Option Line)
lines_left lines s =
    map (λ at. slice_index_or (lines s.chart.now) at None) (range_with_len s.places.start (s.places.end - s.places.start))
