use Rattle.std.proofs.Common.{◌-◌, length, get_or, None, sym, refl, ap, arith}
use Rattle.std.proofs.iter.runs.Sources.{from_front, as_is}
use Rattle.std.proofs.lemmas.List.FromFn.{fill_by_all, length-map-range_with_len}
use Rattle.std.specs.Iterator.{YieldsFirst}
use Rattle.charts.specs.Walks.{lines_left}
use Rattle.charts.proofs.chart.Chart.iter.Goals as goal

pub returns-clause-rest : goal.returns-clause-rest
returns-clause-rest g c =
    let lines = g.Self.Chart.lines c.args.self.now in
    sym (fill_by_all (λ at. get_or lines at None) lines (c.len.result - 0) None (omega (arith, c.len.ensures.value)) (λ at within. refl))

pub returns-clause-bound : goal.returns-clause-bound
returns-clause-bound g c =
    omega (arith, length-map-range_with_len (λ at. get_or (g.Self.Chart.lines c.args.self.now) at None) 0 (c.len.result - 0), c.len.ensures.bound)

pub returns-clause-runs : goal.returns-clause-runs
returns-clause-runs g c p seen =
    let left = lines_left g.Self.Chart.lines in
    as_is p (left p.from) (from_front (YieldsFirst left) (λ line. line) left (λ s t none. ap length none.0) (λ s line t first. first) p seen)
