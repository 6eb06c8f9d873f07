use Rattle.std.proofs.Common.{◌≡◌, ℕ, ◌<◌, take}
use Rattle.std.specs.List.{list_any}
use Rattle.charts.specs.Members.{member}
use Rattle.rights.specs.Gathering.{names}
use Rattle.rights.specs.Lengths.{count_below}
use Rattle.rights.proofs.marks.count_named.Given as goal

abbrev pub invariant-loop-mark : goal.invariant-loop-mark
invariant-loop-mark l =
    ((a : ℕ) → a < 512 → member l.named a ≡ list_any (names a) (take l.mark-index l.marks))
    × (l.count ≡ count_below 512 (member l.named))
