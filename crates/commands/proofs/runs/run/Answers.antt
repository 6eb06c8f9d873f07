use Rattle.std.proofs.Common.{length, refl, ap, arith}
use Rattle.std.proofs.lemmas.List.{length-take}
use Rattle.model.proofs.Lawfulness.{law}
use Rattle.rights.specs.Contents.{contents}
use Rattle.commands.specs.Steps.{line_length}
use Rattle.commands.proofs.Running.{begins, finishes, further, goes_on}
use Rattle.commands.proofs.runs.run.Goals as goal

pub loop-told-init : goal.loop-told-init
loop-told-init g c = record {
  run = begins _ _ (contents c.args.register.now) _ c.in_ok-out.ensures.items;
  room = omega (arith, c.in_ok-out.ensures.capacity, ap length c.counted-end.ensures.value);
  buffer = refl;
}

pub loop-told-smaller : goal.loop-told-smaller
loop-told-smaller g c =
    omega (arith, further _ _ c.loop-told.invariant.run (length c.loop-told.line) c.step.ensures.value c.in-Some.ensures)

pub returns-in_err-out-clause-law : goal.returns-in_err-out-clause-law
returns-in_err-out-clause-law g c = law

-- the memory reserved suffices
pub returns-in_err-extend_from_slice : goal.returns-in_err-extend_from_slice
returns-in_err-extend_from_slice g c =
    let was = c.loop-told.invariant in
    let next = further _ _ was.run (length c.loop-told.line) c.step.ensures.value c.in-Some.ensures in
    absurd (omega (arith, c.in_err-extend_from_slice.ensures.full, length-take c.in-Some.told.length c.step.new.buffer, c.step.ensures.bound, ap line_length c.in-Some.ensures, was.run.short, was.room, next.0, next.1, c.loop-told.out.ok.0))

pub loop-told-preserved : goal.loop-told-preserved
loop-told-preserved g c =
    let was = c.loop-told.invariant in
    let told = c.step.ensures in
    let extended = c.in_ok-extend_from_slice.ensures in
    record {
      run = goes_on _ _ was.run (length c.loop-told.line) told.value c.in-Some.ensures c.loop-told.line c.step.new.buffer _ _ told.bound extended.items told.line told.left;
      room = omega (arith, extended.capacity, was.room);
      buffer = omega (arith, was.buffer);
    }

pub returns-clause-value : goal.returns-clause-value
returns-clause-value g c =
    let told = c.step.ensures in
    (finishes _ _ c.loop-told.invariant.run (length c.loop-told.line) told.value c.in_default.ensures _ told.left).0

pub returns-clause-left : goal.returns-clause-left
returns-clause-left g c =
    let told = c.step.ensures in
    (finishes _ _ c.loop-told.invariant.run (length c.loop-told.line) told.value c.in_default.ensures _ told.left).1

pub returns-clause-law : goal.returns-clause-law
returns-clause-law g c = law
