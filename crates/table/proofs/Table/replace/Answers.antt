use Rattle.std.proofs.Common.{sym, ◌∙◌, ◌<◌, arith}
use Rattle.std.proofs.lemmas.List.{length-take}
use Rattle.std.proofs.Math.Seq.{take-set-lt}
use Rattle.table.specs.Used.{used}
use Rattle.table.proofs.Cells.{set_within}
use Rattle.table.proofs.Places.{within_at, found_at, replaced_at, not_found, replaced_nowhere}
use Rattle.table.proofs.Table.replace.Given.{Over}
use Rattle.table.proofs.Table.replace.Goals.{In-Some}
use Rattle.table.proofs.Table.replace.Goals as goal

pub returns-in_default-clause-value : goal.returns-in_default-clause-value
returns-in_default-clause-value g c = rw (not_found _ (used c.args.self.now) c.in_default.ensures)

pub returns-in_default-clause-used : goal.returns-in_default-clause-used
returns-in_default-clause-used g c = sym (replaced_nowhere _ (used c.args.self.now) c.in_default.ensures c.args.item)

below : (g : Over) (c : In-Some g) → c.in-Some.at < c.args.self.now.len
below g c = omega (arith, within_at _ _ (used c.args.self.now) c.in-Some.ensures, length-take c.args.self.now.len c.args.self.now.cells.now)

pub returns-clause-value : goal.returns-clause-value
returns-clause-value g c = rw (found_at _ _ (used c.args.self.now) c.in-Some.ensures)

pub returns-clause-used : goal.returns-clause-used
returns-clause-used g c =
    let was = c.args.self.now in
    take-set-lt was.len was.cells.now c.in-Some.at c.args.item (below g (goal.at.returns-clause-used g c).In-Some)
    ∙ sym (replaced_at _ _ (used was) c.in-Some.ensures c.args.item)

pub returns-clause-cells : goal.returns-clause-cells
returns-clause-cells g c =
    let was = c.args.self.now in
    set_within was.cells.now was.len c.in-Some.at c.args.item (below g (goal.at.returns-clause-cells g c).In-Some) was.within
