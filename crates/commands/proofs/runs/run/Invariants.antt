use Rattle.std.proofs.Common.{◌≡◌, ◌-◌, ◌*◌, ◌≤◌, length, vec_items, vec_capacity}
use Rattle.rights.specs.Contents.{contents}
use Rattle.commands.specs.Stream.{counted}
use Rattle.commands.proofs.Running.{UnderWay}
use Rattle.commands.proofs.runs.run.Given as goal

abbrev pub invariant-loop-told : goal.invariant-loop-told
invariant-loop-told g l = record {
  run : UnderWay (g.R.Ruling.ranking l.ruling) (counted l.input) (contents l.initial.register) (contents l.register) l.at (vec_items l.out);
  room : 32 * length (counted l.input) ≤ vec_capacity l.out;
  buffer : length l.line ≡ 32;
}

abbrev pub decreases-loop-told : goal.decreases-loop-told
decreases-loop-told g l = length (counted l.input) - l.at
