use Rattle.std.proofs.Common.{◌≡◌, false, [], ◌∷◌, get_or, set, None, Option, sym, ap, ◌∙◌, subst, ⊎_elim, length, length-append, arith}
use Rattle.std.proofs.lemmas.List.{get_or-set_same, get_or-set_other, length-set}
use Rattle.std.proofs.lemmas.Bool.{cases_eq}
use Rattle.charts.specs.declared.chart.Line.{Line}
use Rattle.charts.specs.Walks.{lines_left}
use Rattle.charts.proofs.Walked.{line_given}
use Rattle.settlement.specs.Picking.{Flagged}
use Rattle.settlement.proofs.Overriding.{flagged}
use Rattle.settlement.proofs.overrides.find_overridden.Goals as goal

pub loop-at-preserved : goal.loop-at-preserved
loop-at-preserved g c =
    let lines = g.C.Chart.lines c.args.chart.now in
    let flags = c.loop-at.flags in
    let i = c.loop-at.at in
    let line = c.in-Some.line in
    let above = c.all_above-above.result in
    let direct = c.direct_sources-direct.result in
    let here = line_given (lines_left g.C.Chart.lines) lines (cc) c.loop-at.yielded c.loop-at.line-iterator c.next.new.self line c.loop-at.yielded_by c.in-Some.ensures.steps in record {
      fits = omega (arith, ap length c.in-Some.ensures.steps);
      counts = omega (arith, length-append c.loop-at.yielded (line ∷ []));
      size = length-set flags i c.flag.result ∙ c.loop-at.invariant.size;
      right =
          λ at k within is both.
          ⊎_elim
          (λ (same : at ≡ i).
          ap (λ n. get_or (set flags i c.flag.result) n false) same
          ∙ get_or-set_same flags i c.flag.result false (omega (arith, here.0, ap length c.iter-line-items.ensures.rest, c.iter-line-items.ensures.bound))
          ∙ flagged lines above direct k c.flag.result c.all_above-above.ensures c.direct_sources-direct.ensures
          (subst (λ (l : Option Line). Flagged above direct l c.flag.result) (sym here.1 ∙ ap (λ n. get_or lines n None) (sym c.loop-at.invariant.counts ∙ sym same) ∙ is) c.flag.ensures))
          (λ other. get_or-set_other flags i at c.flag.result false other ∙ c.loop-at.invariant.right at k (omega arith) is both)
          (cases_eq at i);
    }
