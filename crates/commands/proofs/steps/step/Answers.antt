use Rattle.std.proofs.Common.{◌-◌, length, drop, ap, ◌∙◌, arith}
use Rattle.std.proofs.lemmas.List.{take_rest}
use Rattle.rights.specs.Contents.{contents}
use Rattle.commands.specs.Format.{parsed}
use Rattle.commands.specs.Lines.{line}
use Rattle.commands.specs.Stream.{counted, rest_of, answered, line_at}
use Rattle.commands.proofs.Positions.{told_line}
use Rattle.commands.proofs.steps.step.Goals as goal

pub returns-clause-value : goal.returns-clause-value
returns-clause-value g c =
    let R = g.R.Ruling.ranking c.args.ruling.now in
    let s = contents c.args.register.now in
    let at = c.args.at in
    let stream = counted c.args.input.now in
    let same = c.counted-stream.ensures.value in
    let part = take_rest c.counted-stream.result.now at ∙ ap (drop at) same in
    let answer = c.obey_front-reply.ensures.value ∙ ap (λ bs. answered R s (parsed bs)) part in
    let behind = c.obey_front-reply.ensures.rest ∙ ap (λ bs. length (rest_of (parsed bs))) part in
    told_line stream at (length c.args.buffer.now) (line_at R s stream at) _ _
    (omega (arith, ap length same))
    c.if-buffer-lt-LINE.false
    (ap length (c.as_bytes-line.ensures.value ∙ c.line_of-text.ensures ∙ ap (line at) answer))
    (ap (λ n. length c.counted-stream.result.now - n) behind ∙ ap (λ n. n - length (rest_of (parsed (drop at stream)))) (ap length same))
