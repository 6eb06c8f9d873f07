use Rattle.std.proofs.Common.{length, unwrap_or, ap, ◌∙◌}
use Rattle.rights.proofs.Withdrawing.{reached_without}
use Rattle.rights.proofs.register.Register.reached_without.Goals as goal

pub returns : goal.returns
returns c =
    let key = c.args.key in
    let marks = c.marks-marks in
    λ a.
    reached_without c.args.self.now key.draft key.right key.grantor key.account c.args.found.now c.requires
    marks.result.now (marks.ensures.is ∙ c.gather-gathered.ensures.marks) marks.ensures.few
    _ (c.unwrap_or-at.ensures ∙ ap (λ o. unwrap_or o (length marks.result.now)) c.place_of.ensures) _ a (c.search.ensures a)
