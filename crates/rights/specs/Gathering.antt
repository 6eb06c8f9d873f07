-- The marks that are gathered. Assumes nothing.
use Rattle.std.specs.Prelude.{ℕ, Bool, List, ◌==◌}
use Rattle.charts.specs.declared.views.Mark.{Mark}
use Rattle.rights.specs.declared.register.gathered.Gathered.{Gathered}

abbrev pub gathered : Gathered → List Mark
gathered g = g.marks.items

-- the mark names the account
abbrev pub names : ℕ → Mark → Bool
names a m = m.to == a
