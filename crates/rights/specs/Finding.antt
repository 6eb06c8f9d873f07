-- What looking for an open draft finds. Assumes nothing.
use Rattle.std.specs.Prelude.{◌≡◌, ℕ, Some, IfOk, Result}
use Rattle.model.specs.declared.records.DraftRecord.{DraftRecord}
use Rattle.model.specs.State.{State, draft_of}
use Rattle.rights.specs.declared.faults.RegisterFault.{RegisterFault}

-- the record of the open draft
abbrev pub FoundDraft : State → ℕ → Result DraftRecord RegisterFault → Type 0
FoundDraft s d result = IfOk result (λ x. draft_of d s ≡ Some x)
