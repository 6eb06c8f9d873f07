-- A walk along the lines of a chart. Assumes nothing.
use Rattle.std.proofs.Common.{◌≡◌, ◌<◌, List, ◌∷◌, length, get_or, Some, None, Option, refl, sym, ◌∙◌}
use Rattle.std.proofs.lemmas.Iterator.Consumers.{YieldsList-from_first, YieldsList-turn}
use Rattle.std.proofs.lemmas.List.{get_or_default}
use Rattle.std.specs.Iterator.{Yields, YieldsFirst}
use Rattle.charts.specs.declared.chart.Line.{Line}

-- the line that comes after those given so far stands at the place behind theirs
pub line_given : {S : Type 0} (left : S → List (Option Line)) (lines : List (Option Line)) {s : S} → left s ≡ lines
    → (given : List (Option Line)) (t u : S) (line : Option Line) → Yields (YieldsFirst left) s given t → left t ≡ line ∷ left u
    → (length given < length lines) × (get_or lines (length given) None ≡ line)
line_given left lines all given t u line before step =
    let turn = YieldsList-turn (YieldsList-from_first (λ l. l) left lines all) given t before (Some line) u line refl step in
    (turn.0, get_or_default lines (length given) None line turn.0 ∙ sym turn.1)
