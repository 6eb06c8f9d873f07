-- By what the records of the two tables go. Assumes nothing.
use Rattle.std.specs.Prelude.{ℕ, Bool, ◌&&◌, ◌==◌}
use Rattle.model.specs.declared.records.DraftRecord.{DraftRecord}
use Rattle.model.specs.declared.records.GrantKey.{GrantKey}
use Rattle.model.specs.declared.records.GrantRecord.{GrantRecord}

abbrev pub by_draft : ℕ → DraftRecord → Bool
by_draft d x = x.draft == d

abbrev pub by_grant : GrantKey → GrantRecord → Bool
by_grant k g = g.draft == k.draft && (g.right == k.right && (g.grantor == k.grantor && g.account == k.account))
