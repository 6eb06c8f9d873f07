-- The state that a register stands for. Assumes nothing.
use Rattle.std.specs.Prelude.{List}
use Rattle.table.specs.Used.{used, room, cells}
use Rattle.model.specs.declared.records.DraftRecord.{DraftRecord}
use Rattle.model.specs.declared.records.GrantRecord.{GrantRecord}
use Rattle.rights.specs.declared.register.Register.{Register}
use Rattle.model.specs.State.{State, state}

abbrev pub contents : Register → State
contents r = state (room r.drafts) (room r.grants) (used r.drafts) (used r.grants)

-- all the memory that it was lent, used or not
abbrev pub lent_places : Register → List DraftRecord
lent_places r = cells r.drafts

abbrev pub lent_cells : Register → List GrantRecord
lent_cells r = cells r.grants
