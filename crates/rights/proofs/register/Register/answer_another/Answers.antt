use Rattle.std.proofs.Common.{sym, ap, ◌∙◌}
use Rattle.std.specs.List.{list_any}
use Rattle.table.specs.Used.{used}
use Rattle.settlement.specs.Picking.{settled}
use Rattle.model.specs.Delegation.{lines_of, signs_of}
use Rattle.model.specs.Grants.{of_right}
use Rattle.model.specs.Sheets.{by_pick}
use Rattle.rights.specs.Gathering.{names}
use Rattle.rights.proofs.Decided.{settled_all, unnamed_settled}
use Rattle.rights.proofs.Firsts.{found_any}
use Rattle.rights.proofs.register.Register.answer_another.Goals as goal

pub returns-then-not-is_named : goal.returns-then-not-is_named
returns-then-not-is_named g c =
    let R = g.R.Ruling.ranking c.args.ruling.now in
    let a = c.args.account in
    let x = c.args.found.now in
    let marks = of_right c.args.draft c.args.right (used c.args.self.now.grants) in
    let same = c.marks-marks.ensures.is ∙ c.gather-gathered.ensures.marks in
    ap (by_pick marks) (sym (unnamed_settled marks x.owner R x.policy a (found_any (names a) marks ∙ ap (list_any (names a)) (sym same) ∙ sym c.if-not-is_named.ensures)))

pub returns : goal.returns
returns g c =
    let R = g.R.Ruling.ranking c.args.ruling.now in
    let a = c.args.account in
    let x = c.args.found.now in
    let here = c.marks-marks.result.now in
    let same = c.marks-marks.ensures.is ∙ c.gather-gathered.ensures.marks in
    c.decide.ensures
    ∙ ap (by_pick here) (c.pick.ensures ∙ c.settle-picks.ensures.value a ∙ settled_all here x.owner R x.policy a c.marks-marks.ensures.few)
    ∙ ap (λ ms. by_pick ms (settled (lines_of ms) (signs_of ms) x.owner R x.policy a)) same
