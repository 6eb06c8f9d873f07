use Rattle.std.proofs.Common.{arith}
use Rattle.std.proofs.lemmas.List.{length-take}
use Rattle.table.proofs.Cells.{compact_within}
use Rattle.table.proofs.Table.keep.Goals as goal

pub returns-clause-cells : goal.returns-clause-cells
returns-clause-cells g c =
    let was = c.args.self.now in
    let done = c.compact-self in
    let front = length-take was.len was.cells.now in
    compact_within was.cells.now done.new.cells was.len done.result was.within
    (omega (arith, was.within, done.auto.cells)) (omega (arith, was.within, done.ensures.bound)) done.ensures.rest
