-- The grants of a register by draft and right. Assumes nothing.
use Rattle.std.specs.Prelude.{ℕ, Bool, not, ◌&&◌, ◌||◌, List, map, filter, ◌==◌}
use Rattle.charts.specs.declared.views.Mark.{Mark}
use Rattle.model.specs.declared.records.GrantKey.{GrantKey}
use Rattle.model.specs.declared.records.GrantRecord.{GrantRecord}
use Rattle.model.specs.Delegation.{rooted}
use Rattle.model.specs.Keys.{by_grant}

abbrev pub is_on_draft : ℕ → GrantRecord → Bool
is_on_draft d g = g.draft == d

abbrev pub on_right : ℕ → ℕ → GrantRecord → Bool
on_right d r g = g.draft == d && g.right == r

abbrev pub mark_of : GrantRecord → Mark
mark_of g = record { from = g.grantor; to = g.account; kind = g.kind; serial = g.serial }

-- the grants of right r on draft d, in the order in which they came
abbrev pub of_right : ℕ → ℕ → List GrantRecord → List Mark
of_right d r grants = map mark_of (filter (on_right d r) grants)

-- what goes by the draft, right, grantor and account
abbrev pub key_of : ℕ → ℕ → ℕ → ℕ → GrantKey
key_of d r c a = record { draft = d; right = r; grantor = c; account = a }

abbrev pub without : GrantKey → List GrantRecord → List GrantRecord
without key grants = filter (λ g. not (by_grant key g)) grants

-- of the grants of right r on draft d those whose grantor is the owner or is still reached from the owner by
-- delegatable grants; and all others
abbrev pub still_rooted : ℕ → ℕ → ℕ → List GrantRecord → List GrantRecord
still_rooted d r owner grants = filter (λ g. not (on_right d r g) || rooted owner (of_right d r grants) g.grantor) grants
