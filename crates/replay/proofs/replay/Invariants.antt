use Rattle.std.proofs.Common.{◌≡◌, ◌++◌, map, take, drop, vec_items}
use Rattle.model.specs.History.{replies, outcome}
use Rattle.rights.specs.Contents.{contents}
use Rattle.replay.specs.Replays.{said, history_of}
use Rattle.replay.proofs.replay.Given as goal

abbrev pub invariant-loop-made : goal.invariant-loop-made
invariant-loop-made g l =
    (map said (vec_items l.replies) ++ replies (contents l.register) (drop l.made-index (history_of g.R.Ruling.ranking g.R.Ruling.laws l.history)) ≡ replies (contents l.initial.register) (history_of g.R.Ruling.ranking g.R.Ruling.laws l.history))
    × (contents l.register ≡ outcome (contents l.initial.register) (take l.made-index (history_of g.R.Ruling.ranking g.R.Ruling.laws l.history)))
