-- What the views of charts show. Assumes nothing.
use Rattle.std.specs.Prelude.{ℕ, ◌+◌, Bool, true, false, cond, List, [], ◌∷◌, Some, None, Option}
use Rattle.terms.specs.declared.Kind.{Kind}
use Rattle.terms.specs.declared.Kind.TheVariants.{Denying, Plain, Delegatable}
use Rattle.charts.specs.declared.chart.Line.{Line}
use Rattle.charts.specs.declared.chart.Sign.{Sign}
use Rattle.charts.specs.declared.views.Mark.{Mark}

abbrev pub mark_line : Mark → Option Line
mark_line m = Some (record { from = m.from; to = m.to })

abbrev pub mark_sign : Mark → Sign
mark_sign m = record { kind = m.kind; serial = m.serial }

-- what stands for a sign where there is no line
abbrev pub no_sign : Sign
no_sign = record { kind = Denying; serial = 0 }

abbrev pub is_delegatable : Kind → Bool
is_delegatable Denying = false
is_delegatable Plain = false
is_delegatable Delegatable = true

-- the delegatable lines, every other absent, where the list begins at place i
abbrev pub passing_from : ℕ → (ℕ → Sign) → List (Option Line) → List (Option Line)
passing_from i signs [] = []
passing_from i signs (l ∷ ls) = cond (is_delegatable (signs i).kind) l None ∷ passing_from (i + 1) signs ls

abbrev pub passing : (ℕ → Sign) → List (Option Line) → List (Option Line)
passing signs lines = passing_from 0 signs lines
