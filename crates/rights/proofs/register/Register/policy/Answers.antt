use Rattle.std.proofs.Common.{sym, refl, ap, ◌∙◌}
use Rattle.rights.specs.declared.faults.RegisterFault.TheVariants.{AccountTooLarge, PolicyUnknown}
use Rattle.rights.specs.Contents.{contents}
use Rattle.model.specs.Calls.Call.{policing}
use Rattle.model.specs.Meaning.{with_policy}
use Rattle.model.proofs.Obeyed.{obeyed_next, policing_obeyed, passed}
use Rattle.model.proofs.States.{same_state}
use Rattle.rights.proofs.Registers.{still_reached, Left, left_in_order}
use Rattle.rights.proofs.register.Register.policy.Goals as goal

pub invariant_of-self : goal.invariant_of-self
invariant_of-self g c =
    let R = g.R.Ruling.ranking c.args.ruling.now in
    let was = c.args.self.now in
    let s = contents was in
    let call = policing c.args.draft c.args.caller c.args.policy in
    let found = sym c.in-Some.ensures in
    let none = policing_obeyed R s c.args.draft c.args.caller c.in-Some.found
    (passed _ AccountTooLarge tt c.in_ok-account_in_range.ensures) found c.if-found-caller.false
    c.args.policy (passed _ PolicyUnknown tt c.in_ok-policy_known.ensures) in
    let replaced = c.replace.ensures in
    let reached : Left c.replace.new.self was.grants = still_reached was R (g.R.Ruling.laws c.args.ruling.now) call _ (same_state replaced.room refl (replaced.used ∙ ap (λ o. with_policy c.args.draft c.args.policy o s.drafts) (sym found)) refl ∙ obeyed_next R s call none) in
    left_in_order was c.replace.new.self was.grants replaced.room refl reached
