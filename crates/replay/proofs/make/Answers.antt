use Rattle.std.proofs.Common.{◌≡◌, length, sym, ap, ◌∙◌, arith}
use Rattle.std.proofs.lemmas.List.{with_items_is}
use Rattle.model.specs.Calls.Call.{listing}
use Rattle.model.specs.Calls.Reply.{listed}
use Rattle.model.specs.Meaning.{reply, next}
use Rattle.model.proofs.Obeyed.{listing_next}
use Rattle.rights.specs.Contents.{contents}
use Rattle.rights.specs.Faults.{replied}
use Rattle.replay.specs.Replays.{call_made}
use Rattle.replay.proofs.make.Goals as goal

pub returns-in_ok-page-in-Sheet : goal.returns-in_ok-page-in-Sheet
returns-in_ok-page-in-Sheet g c =
    let R = g.R.Ruling.ranking c.args.ruling.now in
    let s = contents c.args.register.now in
    let d = c.in-Sheet.draft in
    let r = c.in-Sheet.right in
    let page = c.in_ok-page-in-Sheet.page in
    let after = c.sheet-told.new.buffer in
    let long : length after ≡ page.len = omega (arith, c.sheet-told.auto.buffer, c.deref_mut.ensures.len) in
    let zeros = c.deref_mut.ensures.value ∙ c.in_ok-page-in-Sheet.ensures.items_if_clones_equal (λ y same. same) in
    record {
      told =
          ap (λ items. replied (λ n. listed n items) c.sheet-told.result) (with_items_is page after long)
          ∙ c.sheet-told.ensures.told
          ∙ ap (λ b. reply R s (listing d r b)) zeros
          ∙ ap (λ step. reply R s (call_made step)) (sym c.in-Sheet.is);
      left = listing_next R s d r _ ∙ ap (λ step. next R s (call_made step)) (sym c.in-Sheet.is);
    }
