-- The grants of one right on one draft, each as a mark: who made it, whom it names, its kind and its serial. They
-- are a signed chart, with a line from the grantor to the account. Assumes nothing.
use Rattle.std.specs.Prelude.{◌≡◌, ℕ, Bool, not, ◌&&◌, ◌||◌, List, map, is_some, Some, filter, Option, ◌==◌, slice_index_or}
use Rattle.std.specs.List.{slice_get}
use Rattle.table.specs.Used.{first}
use Rattle.charts.specs.declared.chart.Line.{Line}
use Rattle.charts.specs.declared.chart.Sign.{Sign}
use Rattle.charts.specs.declared.views.Mark.{Mark}
use Rattle.charts.specs.Reaching.{above}
use Rattle.charts.specs.Views.{mark_line, mark_sign, no_sign, is_delegatable, passing}

-- x stands at place i
abbrev pub At : {X : Type 0} → List X → ℕ → X → Type 0
At xs i x = slice_get xs i ≡ Some x

abbrev pub lines_of : List Mark → List (Option Line)
lines_of marks = map mark_line marks

abbrev pub signs_of : List Mark → ℕ → Sign
signs_of marks i = slice_index_or (map mark_sign marks) i no_sign

-- the delegatable ones alone, every other absent
abbrev pub passing_of : List Mark → List (Option Line)
passing_of marks = passing (signs_of marks) (lines_of marks)

-- a grant by c to a
abbrev pub between : ℕ → ℕ → Mark → Bool
between c a m = m.from == c && m.to == a

-- a grant that lets account a grant further
abbrev pub passes_to : ℕ → Mark → Bool
passes_to a m = m.to == a && is_delegatable m.kind

-- the account is the owner, or some delegatable grant names it; an overridden one does too
abbrev pub entitled : ℕ → List Mark → ℕ → Bool
entitled owner marks a = a == owner || is_some (first (passes_to a) marks)

-- the account is the owner, or delegatable grants lead to it from the owner
abbrev pub rooted : ℕ → List Mark → ℕ → Bool
rooted owner marks a = a == owner || above (passing_of marks) owner a

-- without the grant by c to a
abbrev pub unless : ℕ → ℕ → List Mark → List Mark
unless c a marks = filter (λ m. not (between c a m)) marks
