-- Who is above whom, computed. Assumes nothing.
use Rattle.std.specs.Prelude.{ℕ, zero, suc, Bool, false, ◌&&◌, ◌||◌, List, [], ◌∷◌, length, Some, None, Option, ◌==◌, nat_lt}
use Rattle.charts.specs.declared.chart.Line.{Line}

-- both ends of the line are accounts
abbrev pub between_accounts : Line → Bool
between_accounts l = nat_lt l.from 512 && nat_lt l.to 512

-- some line between accounts passes the test
abbrev pub any_line : (Line → Bool) → List (Option Line) → Bool
any_line test [] = false
any_line test (None ∷ ls) = any_line test ls
any_line test (Some l ∷ ls) = (between_accounts l && test l) || any_line test ls

-- at most n lines, one after another, lead from a to b
abbrev pub reaches : ℕ → List (Option Line) → ℕ → ℕ → Bool
reaches zero lines a b = false
reaches (suc n) lines a b = any_line (λ l. (l.from == a) && (l.to == b || reaches n lines l.to b)) lines

-- a chain leads from a to b: none needs a line twice
abbrev pub above : List (Option Line) → ℕ → ℕ → Bool
above lines a b = reaches (length lines) lines a b
