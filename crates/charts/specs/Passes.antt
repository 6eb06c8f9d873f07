-- What the steps of finding who is reached do to what is known of who reaches whom. Assumes nothing.
use Rattle.std.specs.Prelude.{◌≡◌, ℕ, ◌<◌, Bool, true, false, ◌&&◌, ◌⊎◌, List, Some, Option, ◌==◌}
use Rattle.charts.specs.declared.accounts.Accounts.{Accounts}
use Rattle.charts.specs.declared.chart.Line.{Line}
use Rattle.charts.specs.Chains.{Leads, Chain}
use Rattle.charts.specs.Members.{member}

-- `reaches s a b` says that s holds that a reaches b; chains are looked for from the accounts that start
module _ {S : Type 0} (reaches : S → ℕ → ℕ → Bool) (Starts : ℕ → Type 0) where
  -- a line that goes on from c goes on a chain of a
  abbrev pub Known : S → ℕ → ℕ → Type 0
  Known s a c = ((a ≡ c) × Starts a) ⊎ (reaches s a c ≡ true)

  -- one line followed: `grew` where something more is known for it
  pub record Followed (line : Option Line) (before after : S) (grew : Bool) : Type 0 where
    pub keeps : (a b : ℕ) → reaches before a b ≡ true → reaches after a b ≡ true
    pub sound : (a b : ℕ) → reaches after a b ≡ true → (reaches before a b ≡ true) ⊎ ((c : ℕ) × (line ≡ Some (record { from = c; to = b })) × (c < 512) × (b < 512) × Known before a c)
    pub complete : (a b c : ℕ) → line ≡ Some (record { from = c; to = b }) → c < 512 → b < 512 → Known before a c → reaches after a b ≡ true
    pub new : grew ≡ true → (a : ℕ) × (b : ℕ) × (reaches before a b ≡ false) × (reaches after a b ≡ true)
    pub same : grew ≡ false → (a b : ℕ) → reaches after a b ≡ reaches before a b

  -- the first n lines followed, one after another
  pub record Passed (lines : List (Option Line)) (n : ℕ) (before after : S) (grew : Bool) : Type 0 where
    pub keeps : (a b : ℕ) → reaches before a b ≡ true → reaches after a b ≡ true
    pub sound : ((a b : ℕ) → reaches before a b ≡ true → Chain lines a b) → (a b : ℕ) → reaches after a b ≡ true → Chain lines a b
    pub new : grew ≡ true → (a : ℕ) × (b : ℕ) × (reaches before a b ≡ false) × (reaches after a b ≡ true)
    pub same : grew ≡ false → (a b : ℕ) → reaches after a b ≡ reaches before a b
    pub closed : grew ≡ false → (at a b c : ℕ) → at < n → Leads lines at c b → Known after a c → reaches after a b ≡ true

-- a set of accounts as what is known of one start
abbrev pub reached_from : ℕ → Accounts → ℕ → ℕ → Bool
reached_from start s a b = a == start && member s b

abbrev pub Is : ℕ → ℕ → Type 0
Is start a = a ≡ start
