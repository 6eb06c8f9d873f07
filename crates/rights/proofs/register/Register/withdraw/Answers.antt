use Rattle.std.proofs.Common.{◌≡◌, ℕ, refl, arith}
use Rattle.std.proofs.lemmas.Result.{err_from_is_err_and}
use Rattle.table.proofs.Cells.{used_within}
use Rattle.charts.specs.Members.{member}
use Rattle.rulings.specs.House.{house}
use Rattle.rulings.specs.HouseLaws.{house_lawful}
use Rattle.model.specs.Calls.Call.{withdrawing}
use Rattle.model.proofs.Obeyed.{refused_reply, refused_next}
use Rattle.rights.specs.Contents.{contents}
use Rattle.rights.proofs.Registers.{still_reached, Left, left_in_order}
use Rattle.rights.proofs.Withdrawing.{withdrawal_left, withdrawal_told, withdrawal_largest}
use Rattle.rights.proofs.register.Register.withdraw.Goals as goal

pub returns-in_err-found : goal.returns-in_err-found
returns-in_err-found c =
    let p = err_from_is_err_and c.from_residual.result c.from_residual.ensures.1 in
    let was = c.args.self.now in
    let s = contents was in
    let call = withdrawing c.args.draft c.args.right c.args.caller c.args.account in
    let told = c.in_err-found.ensures in
    rw (p.1, p.2) (record {
      told = λ R. refused_reply R s call _ (told.refused R);
      left = λ R. refused_next R s call _ (told.refused R);
      largest = λ n is. let z : ◌≡◌ {A = ℕ} 0 1 = cc in absurd (omega arith);
      same = refl;
      about = told.about;
    })

pub invariant_of-self : goal.invariant_of-self
invariant_of-self c =
    let was = c.args.self.now in
    let d = c.args.draft in
    let found = c.in_ok-found.ensures in
    let reached = c.reached_without-reached in
    let kept = c.retain-fell.ensures in
    let still : Left was.drafts c.retain-fell.new.self = still_reached was house house_lawful (withdrawing d c.args.right c.args.caller c.args.account) _
    (withdrawal_left was d c.args.right c.args.caller c.args.account c.in_ok-found.found found.found found.refused (member reached.result) reached.ensures _ kept.used _ kept.room house) in
    left_in_order was was.drafts c.retain-fell.new.self refl kept.room still

pub overflow_cast-result : goal.overflow_cast-result
overflow_cast-result c =
    let was = c.args.self.now in
    omega (arith, c.retain-fell.ensures.value, used_within was.grants, was.cells_few)

pub returns : goal.returns
returns c =
    let was = c.args.self.now in
    let d = c.args.draft in
    let r = c.args.right in
    let a = c.args.account in
    let found = c.in_ok-found.ensures in
    let reached = c.reached_without-reached in
    let kept = c.retain-fell.ensures in
    let told = withdrawal_told was d r c.args.caller a c.in_ok-found.found found.found found.refused (member reached.result) reached.ensures _ kept.used _ kept.value in
    let left = withdrawal_left was d r c.args.caller a c.in_ok-found.found found.found found.refused (member reached.result) reached.ensures _ kept.used _ kept.room in
    record {
      told = told;
      left = left;
      largest = withdrawal_largest was d r c.args.caller a c.in_ok-found.found found.found found.refused (member reached.result) reached.ensures _ kept.used _ _ kept.room kept.value;
      same = tt;
      about = tt;
    }
