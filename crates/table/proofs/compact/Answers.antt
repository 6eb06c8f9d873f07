use Rattle.std.proofs.Common.{◌<◌, length, refl, arith, of_calls}
use Rattle.std.proofs.lemmas.Fn.{called_at}
use Rattle.std.specs.Fn.{CalledAt}
use Rattle.table.proofs.Compacted.{more_goes, more_stays}
use Rattle.table.proofs.compact.Goals.{then-keep, else-keep}
use Rattle.table.proofs.compact.Goals as goal

pub loop-i-preserved : goal.loop-i-preserved
loop-i-preserved g c =
    let at = c.loop-i in
    let R = CalledAt g.F.FnMut in
    let within : at.i < length c.args.cells.now = omega arith in
    let asked = called_at g.F.FnMut c.keep.ensures refl in (
      search of_calls,
      elim c.if-keep.branch [
        | then-keep w ↦ rw (w.cells-is, w.stay-is) (more_stays R c.args.keep c.args.cells.now at.invariant.1 c.keep.new.self _ within at.auto.cells c.index-cells-i.is (rw w.if-keep.true at asked))
        | else-keep w ↦ rw (w.cells-is, w.stay-is) (more_goes R c.args.keep c.args.cells.now at.invariant.1 c.keep.new.self _ within at.auto.cells c.index-cells-i.is (rw w.if-keep.false at asked))
      ],
    )
