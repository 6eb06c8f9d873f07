-- Decisions and sheets. Assumes nothing.
use Rattle.std.specs.Prelude.{ℕ, zero, suc, cond, List, [], ◌∷◌, ◌++◌, Some, None, codes, decimal, Option, ◌==◌, slice_index_or}
use Rattle.terms.specs.declared.Kind.{Kind}
use Rattle.terms.specs.declared.Kind.TheVariants.{Denying, Plain, Delegatable}
use Rattle.charts.specs.declared.views.Mark.{Mark}
use Rattle.rulings.specs.Ranking.{Ranking}
use Rattle.settlement.specs.Picking.{settled}
use Rattle.settlement.specs.Settled.{Picks, from_of}
use Rattle.model.specs.declared.answers.Decision.{Decision}
use Rattle.model.specs.declared.answers.Decision.TheVariants.{Permitted, Denied, Undecided}
use Rattle.model.specs.declared.records.DraftRecord.{DraftRecord}
use Rattle.model.specs.Delegation.{lines_of, signs_of}

-- a decision, and the account whose grant decides
abbrev pub Answer : Type 0
Answer = Decision × Option ℕ

-- what a grant of this kind by this grantor decides
abbrev pub by_kind : Kind → ℕ → Answer
by_kind Denying g = (Denied, Some g)
by_kind Plain g = (Permitted, Some g)
by_kind Delegatable g = (Permitted, Some g)

-- what the picked grant decides
abbrev pub by_pick : List Mark → Option ℕ → Answer
by_pick marks None = (Undecided, None)
by_pick marks (Some at) = by_kind (signs_of marks at).kind (from_of (slice_index_or (lines_of marks) at None))

-- the owner is permitted, by himself; another account as the grant picked for it says
abbrev pub by_picks : ℕ → List Mark → Picks → ℕ → Answer
by_picks owner marks picks a = cond (a == owner) (Permitted, Some a) (by_pick marks (picks a))

-- the answer to a request, by the computed settled list of the draft's policy
abbrev pub answer : Ranking → DraftRecord → List Mark → ℕ → Answer
answer R x marks a = by_picks x.owner marks (settled (lines_of marks) (signs_of marks) x.owner R x.policy) a

-- a line of a sheet: account, decision, deciding account; none for an undecided one
abbrev pub entry : ℕ → Answer → List ℕ
entry a (Permitted, Some g) = decimal a ++ (codes " permitted " ++ (decimal g ++ (10 ∷ [])))
entry a (Permitted, None) = []
entry a (Denied, Some g) = decimal a ++ (codes " denied " ++ (decimal g ++ (10 ∷ [])))
entry a (Denied, None) = []
entry a (Undecided, w) = []

-- what a function gives for the numbers below n, in rising order
unfoldable pub joined_below : ℕ → (ℕ → List ℕ) → List ℕ
joined_below zero f = []
joined_below (suc n) f = joined_below n f ++ f n

-- the lines of all accounts
abbrev pub sheet : Ranking → DraftRecord → List Mark → List ℕ
sheet R x marks = joined_below 512 (λ a. entry a (answer R x marks a))
