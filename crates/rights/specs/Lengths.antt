-- How long the sheet of a right can be. Assumes nothing.
use Rattle.std.specs.Prelude.{ℕ, zero, suc, ◌+◌, ◌*◌, ◌≤◌, Bool, if◌then◌else◌, List, length, is_some, IfOk, Result}
use Rattle.table.specs.Used.{first}
use Rattle.charts.specs.declared.views.Mark.{Mark}
use Rattle.rulings.specs.Ranking.{Ranking}
use Rattle.model.specs.Grants.{of_right}
use Rattle.model.specs.Meaning.{sheet_of}
use Rattle.model.specs.State.{State, draft_of}
use Rattle.rights.specs.declared.faults.RegisterFault.{RegisterFault}
use Rattle.rights.specs.Gathering.{names}

-- how many numbers below n pass
unfoldable pub count_below : ℕ → (ℕ → Bool) → ℕ
count_below zero passes = 0
count_below (suc n) passes = count_below n passes + (if passes n then 1 else 0)

-- how many accounts some mark names
abbrev pub named_accounts : List Mark → ℕ
named_accounts marks = count_below 512 (λ a. is_some (first (names a) marks))

-- under no ranking is the sheet longer
abbrev pub LongEnough : State → ℕ → ℕ → Result ℕ RegisterFault → Type 0
LongEnough s d r result = IfOk result (λ n. (R : Ranking) → length (sheet_of R s.grants d r (draft_of d s)) ≤ n)

-- no more than a longest line for each account that a grant names, and one for the owner
abbrev pub ShortEnough : State → ℕ → ℕ → Result ℕ RegisterFault → Type 0
ShortEnough s d r result = IfOk result (λ n. n ≤ 18 * named_accounts (of_right d r s.grants) + 18)
