-- The picks that a value holds. Assumes nothing.
use Rattle.std.specs.Prelude.{ℕ, if◌then◌else◌, None, Option, nat_lt, slice_index_or}
use Rattle.settlement.specs.declared.picks.Settlement.{Settlement}

abbrev pub picked : Settlement → ℕ → Option ℕ
picked s a = if nat_lt a 512 then slice_index_or s.places a None else None
