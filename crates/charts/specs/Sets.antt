-- For each account a set of accounts. Assumes nothing.
use Rattle.std.specs.Prelude.{ℕ, Bool, false, ◌&&◌, [], Some, None, Option, ◌==◌, nat_lt, slice_index_or}
use Rattle.charts.specs.declared.above.Sources.{Sources}
use Rattle.charts.specs.declared.accounts.Accounts.{Accounts}
use Rattle.charts.specs.declared.chart.Line.{Line}
use Rattle.charts.specs.Members.{member}

abbrev pub nobody : Accounts
nobody = record { words = [] }

-- a is in the set of b
abbrev pub over : Sources → ℕ → ℕ → Bool
over s a b = nat_lt b 512 && member (slice_index_or s.sets b nobody) a

abbrev pub Any : ℕ → Type 0
Any a = Unit {0}

-- the line leads from a to b, and both are accounts
abbrev pub joins : Option Line → ℕ → ℕ → Bool
joins None a b = false
joins (Some l) a b = l.from == a && (l.to == b && (nat_lt a 512 && nat_lt b 512))
