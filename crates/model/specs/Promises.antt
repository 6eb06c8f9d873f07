-- What grants and withdrawals promise of consistency. Assumes nothing.
use Rattle.std.specs.Prelude.{◌≡◌, ℕ, ◌+◌, ◌<◌, ◌⊎◌, List, [], ◌∷◌, ◌++◌, Some, ◌≢◌}
use Rattle.charts.specs.declared.views.Mark.{Mark}
use Rattle.charts.specs.Chains.{Leads}
use Rattle.model.specs.declared.records.DraftRecord.{DraftRecord}
use Rattle.model.specs.Calls.{Reply}
use Rattle.model.specs.Calls.Reply.{refused, withdrawn}
use Rattle.model.specs.Consistent.{Consistent, LargestRest}
use Rattle.model.specs.Delegation.{lines_of, signs_of, unless}
use Rattle.model.specs.Grants.{of_right}
use Rattle.model.specs.Meaning.{kind_of}
use Rattle.model.specs.State.{State, draft_of}

-- no grant of that kind by c to a stands
abbrev pub NotStanding : List Mark → ℕ → ℕ → ℕ → Type 0
NotStanding marks c a k = (at : ℕ) → Leads (lines_of marks) at c a → (signs_of marks at).kind ≢ kind_of k

-- the marks with one more, by c to a, of kind number k and serial n
abbrev pub with_grant : List Mark → ℕ → ℕ → ℕ → ℕ → List Mark
with_grant marks c a k n = marks ++ (record { from = c; to = a; kind = kind_of k; serial = n } ∷ [])

-- the reply is a refusal for the sake of consistency
abbrev pub ForConsistency : Reply → Type 0
ForConsistency said = (said ≡ refused 11) ⊎ ((said ≡ refused 12) ⊎ (said ≡ refused 13))

-- On an open draft, with numbers in range, a grant that does not stand already is refused by 11, 12 or 13 exactly
-- where the grants with it would not be consistent.
abbrev pub RefusedToStayConsistent : State → ℕ → ℕ → ℕ → ℕ → ℕ → Reply → Type 0
RefusedToStayConsistent s d r c a k said =
    (x : DraftRecord) → draft_of d s ≡ Some x → c < 512 → a < 512 → r < 8 → k < 3 → NotStanding (of_right d r s.grants) c a k →
    (ForConsistency said → Consistent x.owner (with_grant (of_right d r s.grants) c a k (x.last + 1)) → ⊥)
    × ((Consistent x.owner (with_grant (of_right d r s.grants) c a k (x.last + 1)) → ⊥) → ForConsistency said)

-- Of the grants that are left without the one withdrawn, an obeyed withdrawal leaves the largest consistent part.
abbrev pub LeavesLargestRest : State → State → ℕ → ℕ → ℕ → ℕ → Reply → Type 0
LeavesLargestRest s t d r c a said =
    (n : ℕ) → said ≡ withdrawn n →
    (x : DraftRecord) × (draft_of d s ≡ Some x) × LargestRest x.owner (unless c a (of_right d r s.grants)) (of_right d r t.grants)
