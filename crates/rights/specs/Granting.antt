-- The parts of a grant. Assumes nothing.
use Rattle.std.specs.Prelude.{◌≡◌, ℕ, Bool, ◌||◌, List, [], ◌∷◌, is_some, Some, IfOk, count_by, Result, ◌==◌}
use Rattle.table.specs.Used.{first}
use Rattle.terms.specs.declared.Kind.{Kind}
use Rattle.charts.specs.Reaching.{above}
use Rattle.model.specs.declared.records.DraftRecord.{DraftRecord}
use Rattle.model.specs.declared.records.GrantKey.{GrantKey}
use Rattle.model.specs.Delegation.{lines_of}
use Rattle.model.specs.Grants.{of_right, is_on_draft}
use Rattle.model.specs.Keys.{by_grant}
use Rattle.model.specs.Meaning.{kind_of}
use Rattle.model.specs.Refusals.{not_entitled, full, spent}
use Rattle.model.specs.State.{State, draft_of}
use Rattle.rights.specs.declared.faults.RegisterFault.{RegisterFault}

-- the record of the draft and the kind told
abbrev pub Found : State → ℕ → ℕ → Result (DraftRecord × Kind) RegisterFault → Type 0
Found s d k result = IfOk result (λ found. (draft_of d s ≡ Some found.0) × (found.1 ≡ kind_of k))

-- the rows of the refusal table that look at the grants that stand, where the draft's record is x
abbrev pub rows_of_grants : State → GrantKey → DraftRecord → List (ℕ × Bool)
rows_of_grants s k x =
    (11, not_entitled (of_right k.draft k.right s.grants) k.grantor (Some x))
    ∷ (12, is_some (first (by_grant k) s.grants))
    ∷ (13, (k.account == k.grantor) || above (lines_of (of_right k.draft k.right s.grants)) k.account k.grantor)
    ∷ (14, full (count_by (is_on_draft k.draft) s.grants) (Some x))
    ∷ (15, spent (Some x))
    ∷ []
