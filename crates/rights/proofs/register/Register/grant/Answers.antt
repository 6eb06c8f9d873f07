use Rattle.std.proofs.Common.{sym, refl, subst, arith}
use Rattle.std.proofs.lemmas.Result.{err_from_is_err_and}
use Rattle.rulings.specs.House.{house}
use Rattle.rulings.specs.HouseLaws.{house_lawful}
use Rattle.model.specs.Calls.Call.{granting}
use Rattle.model.specs.Promises.{RefusedToStayConsistent}
use Rattle.model.proofs.Obeyed.{refused_reply, refused_next}
use Rattle.model.proofs.Promised.{refused_to_stay_consistent}
use Rattle.rights.specs.Contents.{contents}
use Rattle.rights.proofs.Granting.{serial_left, never_full, grant_told, grant_left}
use Rattle.rights.proofs.Registers.{still_reached, Left, left_in_order, sound_throughout}
use Rattle.rights.proofs.register.Register.grant.Goals as goal

pub returns-in_err-found : goal.returns-in_err-found
returns-in_err-found c =
    let p = err_from_is_err_and c.from_residual.result c.from_residual.ensures.1 in
    let s = contents c.args.self.now in
    let call = granting c.args.draft c.args.right c.args.caller c.args.account c.args.kind in
    let told = c.in_err-found.ensures in
    rw (p.1, p.2) (record {
      told = λ R. refused_reply R s call _ (told.refused R);
      left = λ R. refused_next R s call _ (told.refused R);
      consistent =
          subst (RefusedToStayConsistent s c.args.draft c.args.right c.args.caller c.args.account c.args.kind) (sym (refused_reply house s call _ (told.refused house)))
          (refused_to_stay_consistent house s (sound_throughout c.args.self.now) c.args.draft c.args.right c.args.caller c.args.account c.args.kind);
      same = refl;
      about = told.about;
    })

pub overflow_add-serial : goal.overflow_add-serial
overflow_add-serial c =
    let told = c.in_ok-found.ensures in
    omega (arith, serial_left c.args.self.now c.args.draft c.args.right c.args.caller c.args.account c.args.kind c.in_ok-found.found told.found.0 told.refused)

pub returns-in_err-add : goal.returns-in_err-add
returns-in_err-add c =
    let told = c.in_ok-found.ensures in
    absurd (never_full c.args.self.now c.args.draft c.args.right c.args.caller c.args.account c.args.kind c.in_ok-found.found told.found.0 told.refused c.in_err-add.ensures.value)

pub invariant_of-self : goal.invariant_of-self
invariant_of-self c =
    let told = c.in_ok-found.ensures in
    absurd (never_full c.args.self.now c.args.draft c.args.right c.args.caller c.args.account c.args.kind c.in_ok-found.found told.found.0 told.refused c.in_err-add.ensures.value)

pub invariant_of-self-2 : goal.invariant_of-self-2
invariant_of-self-2 c =
    let was = c.args.self.now in
    let d = c.args.draft in
    let told = c.in_ok-found.ensures in
    let x = c.in_ok-found.found in
    let added = c.in_ok-add.ensures in
    let put = c.replace.ensures in
    let reached : Left c.replace.new.self c.add.new.self = still_reached was house house_lawful (granting d c.args.right c.args.caller c.args.account c.args.kind) _
    (grant_left was d c.args.right c.args.caller c.args.account c.args.kind x told.found.0 told.refused c.in_ok-found.kind told.found.1 _ _ _ _ put.room added.room put.used added.used house) in
    left_in_order was c.replace.new.self c.add.new.self put.room added.room reached

pub returns : goal.returns
returns c =
    let was = c.args.self.now in
    let d = c.args.draft in
    let r = c.args.right in
    let a = c.args.account in
    let k = c.args.kind in
    let told = c.in_ok-found.ensures in
    let x = c.in_ok-found.found in
    let added = c.in_ok-add.ensures in
    let put = c.in_ok-replace.ensures in
    record {
      told = grant_told was d r c.args.caller a k x told.found.0 told.refused;
      left = grant_left was d r c.args.caller a k x told.found.0 told.refused c.in_ok-found.kind told.found.1 _ _ _ _ put.room added.room put.used added.used;
      consistent =
          subst (RefusedToStayConsistent (contents was) d r c.args.caller a k) (sym (grant_told was d r c.args.caller a k x told.found.0 told.refused house))
          (refused_to_stay_consistent house (contents was) (sound_throughout was) d r c.args.caller a k);
      same = tt;
      about = tt;
    }
