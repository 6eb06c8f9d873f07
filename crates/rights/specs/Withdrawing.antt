-- The parts of a withdrawal. Assumes nothing.
use Rattle.std.specs.Prelude.{ℕ, Bool, not, ◌&&◌, ◌||◌}
use Rattle.model.specs.declared.records.GrantKey.{GrantKey}
use Rattle.model.specs.declared.records.GrantRecord.{GrantRecord}
use Rattle.model.specs.Grants.{on_right}
use Rattle.model.specs.Keys.{by_grant}

-- a grant of another right or draft stays, and one of the same that has another key and a grantor that may
abbrev pub stays_with : GrantKey → (ℕ → Bool) → GrantRecord → Bool
stays_with k may g = not (on_right k.draft k.right g) || (not (by_grant k g) && may g.grantor)
