-- The settled list: which line decides for each account. Assumes nothing.
use Rattle.std.specs.Prelude.{◌≡◌, ℕ, ◌≤◌, true, ◌⊎◌, List, Some, None, Option, ◌≢◌, slice_index_or}
use Rattle.terms.specs.declared.Claim.{Claim}
use Rattle.terms.specs.declared.Kind.TheVariants.{Delegatable}
use Rattle.rulings.specs.Ranking.{Ranking}
use Rattle.charts.specs.declared.chart.Line.{Line}
use Rattle.charts.specs.declared.chart.Sign.{Sign}
use Rattle.charts.specs.Chains.{Leads, Chain}

-- where a line comes from
abbrev pub from_of : Option Line → ℕ
from_of None = 0
from_of (Some l) = l.from

-- what a ruling looks at in the line at a place
abbrev pub claim_at : List (Option Line) → (ℕ → Sign) → ℕ → Claim
claim_at lines signs at = record { kind = (signs at).kind; grantor = from_of (slice_index_or lines at None); serial = (signs at).serial }

-- The line at a place is overridden: another line to its account comes from an account above the one that it
-- comes from. (Where there is no circle, no line overrides itself.) It still counts in chains.
pub record Overridden (lines : List (Option Line)) (at : ℕ) : Type 0 where
  pub from : ℕ
  pub account : ℕ
  pub leads : Leads lines at from account
  pub over : ℕ
  pub higher : ℕ
  pub over_leads : Leads lines over higher account
  pub above : Chain lines higher from

-- a choice of at most one line for each account, by its place
abbrev pub Picks : Type 0
Picks = ℕ → Option ℕ

-- the account is the owner, or the line picked for it is delegatable
abbrev pub Passes : (ℕ → Sign) → ℕ → Picks → ℕ → Type 0
Passes signs owner picks a = (a ≡ owner) ⊎ ((at : ℕ) × (picks a ≡ Some at) × ((signs at).kind ≡ Delegatable))

-- the line at a place may be picked for account a
pub record Eligible (lines : List (Option Line)) (signs : ℕ → Sign) (owner : ℕ) (picks : Picks) (a at : ℕ) : Type 0 where
  pub from : ℕ
  pub leads : Leads lines at from a
  pub not_overridden : Overridden lines at → ⊥
  pub grantor_passes : Passes signs owner picks from

module _ (lines : List (Option Line)) (signs : ℕ → Sign) (owner : ℕ) (R : Ranking) (p : ℕ) where
  pub record Settled (picks : Picks) : Type 0 where
    pub owner_none : picks owner ≡ None
    pub eligible : (a at : ℕ) → picks a ≡ Some at → Eligible lines signs owner picks a at
    -- no other eligible line ranks strictly higher: the picked one ranks at least as high as each
    pub highest : (a at other : ℕ) → picks a ≡ Some at → Eligible lines signs owner picks a other → R.ranks p (claim_at lines signs at) (claim_at lines signs other) ≡ true
    -- among those ranking equal it comes from the smallest account number
    pub smallest : (a at other : ℕ) → picks a ≡ Some at → Eligible lines signs owner picks a other → R.ranks p (claim_at lines signs other) (claim_at lines signs at) ≡ true → (claim_at lines signs at).grantor ≤ (claim_at lines signs other).grantor
    -- an account has no picked line only where none is eligible
    pub none_left_out : (a : ℕ) → (a ≢ owner) → picks a ≡ None → (at : ℕ) → Eligible lines signs owner picks a at → ⊥

-- at most one line leads from an account to another
abbrev pub OneEach : List (Option Line) → Type 0
OneEach lines = (a b i j : ℕ) → Leads lines i a b → Leads lines j a b → i ≡ j
