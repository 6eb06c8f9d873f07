-- The parts of a request and of a sheet. Assumes nothing.
use Rattle.std.specs.Prelude.{ℕ, Bool, not, List, [], ◌∷◌, nat_lt}
use Rattle.rulings.specs.Ranking.{Ranking}
use Rattle.model.specs.Refusals.{draft_policy_unknown}
use Rattle.model.specs.State.{State, draft_of, is_open}

-- the rows of the refusal table that look at the right and at the draft
abbrev pub rows_of_asking : Ranking → State → ℕ → ℕ → List (ℕ × Bool)
rows_of_asking R s d r = (2, nat_lt 7 r) ∷ (4, draft_policy_unknown R (draft_of d s)) ∷ (6, not (is_open d s)) ∷ []
