use Rattle.std.proofs.Common.{◌≡◌, true, false, cond, [], ◌∷◌, ◌++◌, is_ok, sym, refl, ◌∙◌, subst}
use Rattle.table.specs.Used.{used, room}
use Rattle.model.specs.declared.records.DraftRecord.{DraftRecord}
use Rattle.rights.specs.Contents.{contents}
use Rattle.model.specs.Calls.Call.{opening}
use Rattle.model.specs.History.{Reached}
use Rattle.model.specs.State.{state}
use Rattle.model.proofs.Obeyed.{obeyed_next}
use Rattle.model.proofs.States.{same_state}
use Rattle.rights.proofs.Registers.{still_reached, Left, left_in_order}
use Rattle.rights.proofs.register.Register.open.Goals as goal

pub invariant_of-self : goal.invariant_of-self
invariant_of-self g c =
    let R = g.R.Ruling.ranking c.args.ruling.now in
    let was = c.args.self.now in
    let s = contents was in
    let call = opening c.args.draft c.args.owner c.args.policy c.args.cells in
    let none = sym c.in_ok-may_open.ensures.refused in
    let added = c.add.ensures in
    let opened : DraftRecord = record { draft = c.args.draft; owner = c.args.owner; policy = c.args.policy; cells = c.args.cells; last = 0 } in
    let reached : Left c.add.new.self was.grants = elim (is_ok c.add.result) as (λ b. used c.add.new.self ≡ cond b (used was.drafts ++ opened ∷ []) (used was.drafts) → ∥ Reached (state (room c.add.new.self) (room was.grants) (used c.add.new.self) (used was.grants)) ∥₁) [
      | true ↦ λ is. still_reached was R (g.R.Ruling.laws c.args.ruling.now) call _ (same_state added.room refl is refl ∙ obeyed_next R s call none)
      | false ↦ λ is. subst (λ x. ∥ Reached x ∥₁) (same_state (sym added.room) refl (sym is) refl) was.reached
    ] added.used in
    left_in_order was c.add.new.self was.grants added.room refl reached
