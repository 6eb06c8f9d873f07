-- What a register holds. Assumes nothing.
use Rattle.std.specs.Prelude.{ℕ, ◌≤◌, Bool, List, [], is_some, sum_by, count_by, Option}
use Rattle.table.specs.Used.{first}
use Rattle.model.specs.declared.records.DraftRecord.{DraftRecord}
use Rattle.model.specs.declared.records.GrantRecord.{GrantRecord}
use Rattle.model.specs.Keys.{by_draft}

-- how many drafts and grants there is room for, the open drafts and the standing grants, each in the order
-- in which they came
pub record State : Type 0 where
  pub places : ℕ
  pub cells : ℕ
  pub drafts : List DraftRecord
  pub grants : List GrantRecord

abbrev pub state : ℕ → ℕ → List DraftRecord → List GrantRecord → State
state places cells drafts grants = record { places = places; cells = cells; drafts = drafts; grants = grants }

abbrev pub empty : ℕ → ℕ → State
empty places cells = state places cells [] []

-- the record of an open draft
abbrev pub draft_of : ℕ → State → Option DraftRecord
draft_of d s = first (by_draft d) s.drafts

abbrev pub is_open : ℕ → State → Bool
is_open d s = is_some (draft_of d s)

-- the cells that all these drafts reserve
abbrev pub reserved : List DraftRecord → ℕ
reserved drafts = sum_by (λ x. x.cells) drafts

-- no number is open twice
abbrev pub Once : List DraftRecord → Type 0
Once drafts = (d : ℕ) → count_by (by_draft d) drafts ≤ 1
