use Rattle.std.proofs.Common.{sym, subst}
use Rattle.model.specs.Law.{AnswersByTheList}
use Rattle.model.proofs.Lawfulness.{answers_by_the_list}
use Rattle.model.proofs.Obeyed.{passed}
use Rattle.rights.specs.declared.faults.RegisterFault.TheVariants.{AccountTooLarge}
use Rattle.rights.specs.Contents.{contents}
use Rattle.rights.proofs.Asked.{requesting_told}
use Rattle.rights.proofs.Registers.{sound_throughout}
use Rattle.rights.proofs.register.Register.request.Goals as goal

pub returns-clause-settled : goal.returns-clause-settled
returns-clause-settled g c =
    let R = g.R.Ruling.ranking c.args.ruling.now in
    let s = contents c.args.self.now in
    let d = c.args.draft in
    let r = c.args.right in
    let a = c.args.account in
    let asked = c.in_ok-found.ensures in
    let told = requesting_told R s d r asked.refused c.in_ok-found.found asked.found a
    (passed _ AccountTooLarge tt c.in_ok-account_in_range.ensures) c.answer.result c.answer.ensures in
    subst (AnswersByTheList s R d r a) (sym told) (answers_by_the_list s (sound_throughout c.args.self.now) R (g.R.Ruling.laws c.args.ruling.now) d r a)
