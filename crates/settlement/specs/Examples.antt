-- Settled lists worked out by computing: owner 1, and lines with rising serials. Assumes nothing.
use Rattle.std.specs.Prelude.{◌≡◌, ℕ, List, [], ◌∷◌, map, get_or, Some, None, Option, slice_index_or}
use Rattle.std.specs.Option.{option_map}
use Rattle.terms.specs.declared.Kind.{Kind}
use Rattle.terms.specs.declared.Kind.TheVariants.{Denying, Plain, Delegatable}
use Rattle.rulings.specs.House.{house}
use Rattle.charts.specs.declared.views.Mark.{Mark}
use Rattle.charts.specs.Views.{mark_line, mark_sign, no_sign}
use Rattle.settlement.specs.Picking.{settled}
use Rattle.settlement.specs.Settled.{from_of}

abbrev line : ℕ → ℕ → Kind → ℕ → Mark
line from to kind serial = record { from = from; to = to; kind = kind; serial = serial }

-- the account that the line picked for a comes from, under a house policy
abbrev decider : List Mark → ℕ → ℕ → Option ℕ
decider marks policy a =
    option_map (λ at. from_of (slice_index_or (map mark_line marks) at None))
    (settled (map mark_line marks) (λ i. get_or (map mark_sign marks) i no_sign) 1 house policy a)

-- two lines to 4, one that gives and one that denies
abbrev rivals : List Mark
rivals = line 1 2 Delegatable 1 ∷ line 1 3 Delegatable 2 ∷ line 2 4 Plain 3 ∷ line 3 4 Denying 4 ∷ []

-- the owner's line to 3 overrides that of 2
abbrev overruled : List Mark
overruled = line 1 2 Delegatable 1 ∷ line 2 3 Delegatable 2 ∷ line 3 4 Plain 3 ∷ line 1 3 Denying 4 ∷ []

-- a denying line from 3 to 2 puts 3 above 2
abbrev denied_but_above : List Mark
denied_but_above = line 1 2 Delegatable 1 ∷ line 1 3 Delegatable 2 ∷ line 3 2 Denying 3 ∷ line 2 4 Plain 4 ∷ line 3 4 Denying 5 ∷ []

abbrev pub WorkedExamples : Type 0
WorkedExamples =
    (decider [] 0 1 ∷ decider [] 0 2
    ∷ decider rivals 0 4 ∷ decider rivals 1 4 ∷ decider rivals 2 4 ∷ decider rivals 3 4
    ∷ decider overruled 0 3 ∷ decider overruled 0 4
    ∷ decider denied_but_above 2 4 ∷ [])
    ≡ (None ∷ None ∷ Some 2 ∷ Some 3 ∷ Some 2 ∷ Some 3 ∷ Some 1 ∷ None ∷ Some 3 ∷ [])
