use Rattle.std.proofs.Common.{not, length, sym, refl, ap, ◌∙◌, arith}
use Rattle.std.proofs.lemmas.List.Filters.{length-filter_both}
use Rattle.std.proofs.lemmas.List.Sums.{length-filter}
use Rattle.table.proofs.Cells.{used_within}
use Rattle.rulings.specs.House.{house}
use Rattle.rulings.specs.HouseLaws.{house_lawful}
use Rattle.rulings.specs.Ranking.{Ranking}
use Rattle.rights.specs.declared.faults.RegisterFault.TheVariants.{AccountTooLarge}
use Rattle.rights.specs.Contents.{contents}
use Rattle.model.specs.Calls.Call.{closing}
use Rattle.model.specs.Calls.Reply.{closed}
use Rattle.model.specs.Grants.{is_on_draft}
use Rattle.model.proofs.Obeyed.{obeyed_reply, obeyed_next, closing_obeyed, passed}
use Rattle.model.proofs.States.{same_state}
use Rattle.rights.proofs.Registers.{still_reached, Left, left_in_order}
use Rattle.rights.proofs.register.Register.close.Goals as goal

pub invariant_of-self : goal.invariant_of-self
invariant_of-self c =
    let was = c.args.self.now in
    let d = c.args.draft in
    let caller = c.args.caller in
    let removed = c.remove.ensures in
    let dropped = c.retain-dropped.ensures in
    let none = closing_obeyed house (contents was) d caller c.in-Some.found (passed _ AccountTooLarge tt c.in_ok-account_in_range.ensures) (sym c.in-Some.ensures) c.if-found-caller.false in
    let reached : Left c.remove.new.self c.retain-dropped.new.self = still_reached was house house_lawful (closing d caller) _ (same_state removed.room dropped.room removed.used dropped.used ∙ obeyed_next house (contents was) (closing d caller) none) in
    left_in_order was c.remove.new.self c.retain-dropped.new.self removed.room dropped.room reached

pub returns : goal.returns
returns c =
    let s = contents c.args.self.now in
    let d = c.args.draft in
    let call = closing d c.args.caller in
    let none = λ (R : Ranking). closing_obeyed R s d c.args.caller c.in-Some.found
    (passed _ AccountTooLarge tt c.in_ok-account_in_range.ensures) (sym c.in-Some.ensures) c.if-found-caller.false in
    let dropped = c.retain-dropped.ensures in
    let removed = c.in_ok-remove.ensures in
    record {
      told = λ R. ap closed (omega (arith, dropped.value, ap length dropped.used, length-filter (is_on_draft d) s.grants, length-filter_both (is_on_draft d) (λ g. not (is_on_draft d g)) (λ _. refl) s.grants)) ∙ obeyed_reply R s call (none R);
      left = λ R. same_state removed.room dropped.room removed.used dropped.used ∙ obeyed_next R s call (none R);
      same = tt;
      about = tt;
    }

pub overflow_cast-result : goal.overflow_cast-result
overflow_cast-result c =
    let was = c.args.self.now in
    omega (arith, c.retain-dropped.ensures.value, used_within was.grants, was.cells_few)
