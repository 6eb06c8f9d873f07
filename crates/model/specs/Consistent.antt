-- When the grants of one right on one draft are sound, and when they are consistent. Assumes nothing.
use Rattle.std.specs.Prelude.{◌≡◌, ℕ, true, ◌⊎◌, List, Some, None, slice_index_or}
use Rattle.std.specs.List.{ContainsAt}
use Rattle.charts.specs.declared.chart.Line.{Line}
use Rattle.charts.specs.declared.views.Mark.{Mark}
use Rattle.charts.specs.Chains.{Leads, Chain, NoCircle}
use Rattle.charts.specs.Reaching.{between_accounts}
use Rattle.settlement.specs.Settled.{OneEach}
use Rattle.model.specs.Delegation.{lines_of, signs_of, passing_of}

pub record Sound (owner : ℕ) (marks : List Mark) : Type 0 where
  -- every grant is between accounts
  pub between : (at : ℕ) (l : Line) → slice_index_or (lines_of marks) at None ≡ Some l → between_accounts l ≡ true
  -- no account is above itself
  pub no_circle : NoCircle (lines_of marks)
  -- no grantor has two grants to one account
  pub one_each : OneEach (lines_of marks)
  -- delegatable grants lead from the owner to every other grantor
  pub rooted : (at from to : ℕ) → Leads (lines_of marks) at from to → (from ≡ owner) ⊎ Chain (passing_of marks) owner from

-- the account is the owner, or some delegatable grant names it
abbrev pub Entitled : ℕ → List Mark → ℕ → Type 0
Entitled owner marks a = (a ≡ owner) ⊎ ((at : ℕ) × (from : ℕ) × Leads (passing_of marks) at from a)

pub record StrictOrder (Above : ℕ → ℕ → Type 0) : Type 0 where
  pub irreflexive : (a : ℕ) → Above a a → ⊥
  pub transitive : (a b c : ℕ) → Above a b → Above b c → Above a c

pub record Consistent (owner : ℕ) (marks : List Mark) : Type 0 where
  -- only entitled accounts grant
  pub entitled : (at from to : ℕ) → Leads (lines_of marks) at from to → Entitled owner marks from
  -- no grantor has two grants of differing kind to one account
  pub one_kind : (i j from to : ℕ) → Leads (lines_of marks) i from to → Leads (lines_of marks) j from to → (signs_of marks i).kind ≡ (signs_of marks j).kind
  -- above is a strict partial order
  pub strict : StrictOrder (Chain (lines_of marks))

-- all these grants are among those
abbrev pub Part : List Mark → List Mark → Type 0
Part some all = (m : Mark) → ContainsAt some m → ContainsAt all m

-- of the grants `left` these are a consistent part, and every other consistent part is within it
pub record LargestRest (owner : ℕ) (left rest : List Mark) : Type 0 where
  pub part : Part rest left
  pub consistent : Consistent owner rest
  pub largest : (other : List Mark) → Part other left → Consistent owner other → Part other rest
