-- Chains of lines: who is above whom. Assumes nothing.
use Rattle.std.specs.Prelude.{◌≡◌, ℕ, ◌<◌, List, Some, None, Option, slice_index_or}
use Rattle.charts.specs.declared.chart.Line.{Line}

-- the line at a place leads from a to b, and both are accounts
pub record Leads (lines : List (Option Line)) (at a b : ℕ) : Type 0 where
  pub line : slice_index_or lines at None ≡ Some (record { from = a; to = b })
  pub from_account : a < 512
  pub to_account : b < 512

-- a chain: one or more lines, each starting where the one before it ends
pub data Chain (lines : List (Option Line)) : ℕ → ℕ → Type 0 where
  one : {a b : ℕ} (at : ℕ) → Leads lines at a b → Chain lines a b
  on : {a b c : ℕ} (at : ℕ) → Leads lines at a c → Chain lines c b → Chain lines a b

-- no chain leads from an account to itself
abbrev pub NoCircle : List (Option Line) → Type 0
NoCircle lines = (a : ℕ) → Chain lines a a → ⊥
