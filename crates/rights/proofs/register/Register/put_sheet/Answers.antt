use Rattle.std.proofs.Common.{ℕ, cond, eqb, Some, ap, ◌∙◌}
use Rattle.settlement.specs.Picked.{picked}
use Rattle.settlement.specs.Picking.{settled}
use Rattle.model.specs.declared.answers.Decision.TheVariants.{Permitted}
use Rattle.model.specs.Delegation.{lines_of, signs_of}
use Rattle.model.specs.Sheets.{by_pick, by_picks, entry, sheet}
use Rattle.rights.proofs.Decided.{settled_all}
use Rattle.rights.proofs.Pages.{joined_same}
use Rattle.rights.proofs.register.Register.put_sheet.Goals as goal

pub returns : goal.returns
returns g c =
    let R = g.R.Ruling.ranking c.args.ruling.now in
    let x = c.args.found.now in
    let here = c.marks-marks.result.now in
    let picks = picked c.settle-picks.result in
    let same = c.marks-marks.ensures.is ∙ c.gather-gathered.ensures.marks in
    let settled_here = λ (a : ℕ). c.settle-picks.ensures.value a ∙ settled_all here x.owner R x.policy a c.marks-marks.ensures.few in
    c.put_lines.ensures
    ∙ joined_same 512 (λ a. entry a (by_picks x.owner here picks a)) (λ a. entry a (by_picks x.owner here (settled (lines_of here) (signs_of here) x.owner R x.policy) a))
    (λ a. ap (λ o. entry a (cond (eqb a x.owner) (Permitted, Some a) (by_pick here o))) (settled_here a))
    ∙ ap (sheet R x) same
