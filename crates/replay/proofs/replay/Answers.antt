use Rattle.std.proofs.Common.{◌+◌, ◌<◌, ◌≤◌, ◌++◌, map, length, drop, vec_items, refl, ap, ◌∙◌, arith}
use Rattle.std.proofs.lemmas.List.{length-map, map_push}
use Rattle.std.proofs.lemmas.Result.{err_from_is_err_and}
use Rattle.model.specs.History.{replies}
use Rattle.model.proofs.Lawfulness.{law}
use Rattle.model.proofs.Worked.{worked_examples}
use Rattle.rights.specs.Contents.{contents}
use Rattle.replay.specs.Replays.{said, made_by, history_of}
use Rattle.replay.proofs.Steps.{replied_more, left_more, replied_all, left_all, made_at}
use Rattle.replay.proofs.replay.Goals as goal

pub loop-made-init : goal.loop-made-init
loop-made-init g c =
    let h = history_of g.R.Ruling.ranking g.R.Ruling.laws c.args.history.now in
    (ap (λ items. map said items ++ replies (contents c.args.register.now) h) c.new-replies.ensures.items, refl)

pub loop-made-preserved : goal.loop-made-preserved
loop-made-preserved g c =
    let f = made_by g.R.Ruling.ranking g.R.Ruling.laws in
    let steps = c.args.history.now in
    let h = history_of g.R.Ruling.ranking g.R.Ruling.laws steps in
    let i = c.loop-made.made-index in
    let m = f c.made-item.result in
    let told = c.in_ok-make.ensures in
    let is = made_at f steps i c.made-item.result c.loop-made-test.true c.made-item.is in
    let within : i < length h = omega (arith, length-map steps f) in
    let s = contents c.loop-made.register in
    let start = contents c.args.register.now in
    let pushed = ap (map said) c.in_ok-push.ensures.items ∙ map_push said (vec_items c.loop-made.replies) c.in_ok-make.field-0 in (
      ap (λ front. front ++ replies (contents c.make.new.register) (drop (i + 1) h)) pushed
          ∙ replied_more h start s (contents c.make.new.register) i m within is told.left (map said (vec_items c.loop-made.replies)) (said c.in_ok-make.field-0) told.told c.loop-made.invariant.0,
      left_more h start s (contents c.make.new.register) i m within is told.left c.loop-made.invariant.1,
    )

pub returns-in_err-make : goal.returns-in_err-make
returns-in_err-make g c =
    let p = err_from_is_err_and c.from_residual.result c.from_residual.ensures.1 in
    rw p.1 (record { replies = tt; left = (c.loop-made.made-index, c.in_err-make.ensures.left ∙ c.loop-made.invariant.1); law = law; examples = worked_examples })

pub returns-in_err-push : goal.returns-in_err-push
returns-in_err-push g c =
    let p = err_from_is_err_and c.from_residual-in_err-push.result c.from_residual-in_err-push.ensures.1 in
    let f = made_by g.R.Ruling.ranking g.R.Ruling.laws in
    let steps = c.args.history.now in
    let h = history_of g.R.Ruling.ranking g.R.Ruling.laws steps in
    let i = c.loop-made.made-index in
    let is = made_at f steps i c.made-item.result c.loop-made-test.true c.made-item.is in
    let within : i < length h = omega (arith, length-map steps f) in
    rw p.1 (record {
      replies = tt;
      left = (i + 1, left_more h (contents c.args.register.now) (contents c.loop-made.register) (contents c.make.new.register) i (f c.made-item.result) within is c.in_ok-make.ensures.left c.loop-made.invariant.1);
      law = law;
      examples = worked_examples;
    })

pub returns : goal.returns
returns g c =
    let h = history_of g.R.Ruling.ranking g.R.Ruling.laws c.args.history.now in
    let start = contents c.args.register.now in
    let s = contents c.loop-made.register in
    let past : length h ≤ c.loop-made.made-index = omega (arith, length-map c.args.history.now (made_by g.R.Ruling.ranking g.R.Ruling.laws), c.loop-made-test.false) in
    record {
      replies = replied_all h start s c.loop-made.made-index past (map said (vec_items c.loop-made.replies)) c.loop-made.invariant.0;
      left = left_all h start s c.loop-made.made-index past c.loop-made.invariant.1;
      law = law;
      examples = worked_examples;
    }
