-- The settled list, computed. Assumes nothing.
use Rattle.std.specs.Prelude.{◌≡◌, ℕ, zero, suc, Bool, true, false, if◌then◌else◌, not, ◌&&◌, ◌||◌, List, length, Some, None, Option, IsTrue, ◌==◌, ◌↔◌, nat_lt, slice_index_or}
use Rattle.rulings.specs.Ranking.{Ranking}
use Rattle.charts.specs.declared.above.Sources.{Sources}
use Rattle.charts.specs.declared.chart.Line.{Line}
use Rattle.charts.specs.declared.chart.Sign.{Sign}
use Rattle.charts.specs.Reaching.{between_accounts, any_line, above}
use Rattle.charts.specs.Sets.{over}
use Rattle.charts.specs.Views.{is_delegatable}
use Rattle.settlement.specs.Settled.{Picks, claim_at}

abbrev pub overridden : List (Option Line) → Line → Bool
overridden lines l = any_line (λ k. (k.to == l.to) && above lines k.from l.from) lines

-- the flag at the place of a line between accounts says whether the line is overridden
abbrev pub FlagsOverridden : List (Option Line) → List Bool → Type 0
FlagsOverridden lines flags = (at : ℕ) (l : Line) → slice_index_or lines at None ≡ Some l → between_accounts l ≡ true → slice_index_or flags at false ≡ overridden lines l

-- the answer to whether some account has a line to where this one leads and is above where it comes from
abbrev pub Flagged : Sources → Sources → Option Line → Bool → Type 0
Flagged above direct None r = Unit {0}
Flagged above direct (Some l) r = IsTrue r ↔ ((w : ℕ) × (over direct w l.to ≡ true) × (over above w l.from ≡ true))

abbrev pub may_pass : (ℕ → Sign) → Option ℕ → Bool
may_pass signs None = false
may_pass signs (Some at) = is_delegatable (signs at).kind

-- the line may be picked for account a
abbrev pub eligible : List (Option Line) → (ℕ → Sign) → ℕ → Picks → ℕ → Option Line → Bool
eligible lines signs owner picks a None = false
eligible lines signs owner picks a (Some l) =
    between_accounts l && (l.to == a && (not (overridden lines l) && (l.from == owner || may_pass signs (picks l.from))))

-- the account, if any, that a line may be picked for, where it is flagged as overridden or not
abbrev pub Candidate : List (Option Line) → (ℕ → Sign) → ℕ → Picks → Bool → Option Line → Option ℕ → Type 0
Candidate lines signs owner picks flag None r = r ≡ None
Candidate lines signs owner picks flag (Some l) r =
    r ≡ (if between_accounts l && (not (l.to == owner) && (not flag && (l.from == owner || may_pass signs (picks l.from)))) then Some l.to else None)

-- the first place is to be picked rather than the second
abbrev pub better : List (Option Line) → (ℕ → Sign) → Ranking → ℕ → ℕ → ℕ → Bool
better lines signs R p i h =
    R.ranks p (claim_at lines signs i) (claim_at lines signs h)
    && (not (R.ranks p (claim_at lines signs h) (claim_at lines signs i)) || nat_lt (claim_at lines signs i).grantor (claim_at lines signs h).grantor)

abbrev pub prefer : (ℕ → ℕ → Bool) → ℕ → Option ℕ → Option ℕ
prefer wins i None = Some i
prefer wins i (Some h) = if wins i h then Some i else Some h

-- the best of the first n places that pass
abbrev pub best : (ℕ → ℕ → Bool) → ℕ → (ℕ → Bool) → Option ℕ
best wins zero passes = None
best wins (suc i) passes = if passes i then prefer wins i (best wins i passes) else best wins i passes

module _ (lines : List (Option Line)) (signs : ℕ → Sign) (owner : ℕ) (R : Ranking) (p : ℕ) where
  -- the picks that follow from what others may pass on
  abbrev pub repicked : Picks → Picks
  repicked picks a = if a == owner then None else best (better lines signs R p) (length lines) (λ at. eligible lines signs owner picks a (slice_index_or lines at None))

  -- the picks after n rounds
  abbrev pub rounds : ℕ → Picks
  rounds zero a = None
  rounds (suc n) a = repicked (rounds n) a

  -- no chain has more lines than the chart
  abbrev pub settled : Picks
  settled a = rounds (suc (length lines)) a
