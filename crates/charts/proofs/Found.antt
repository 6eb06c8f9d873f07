-- Where a search ends, and that it does. Assumes nothing.
use Rattle.std.proofs.Common.{◌≡◌, ℕ, zero, suc, ◌+◌, ◌<◌, ◌≤◌, Bool, true, false, cond, List, length, None, Option, sym, refl, ap, ◌∙◌, inl, inr, ⊎_elim, arith}
use Rattle.std.proofs.lemmas.List.{get_or_past}
use Rattle.std.proofs.lemmas.Bool.{cases_lt, cases_eq, true≢false}
use Rattle.charts.specs.declared.chart.Line.{Line}
use Rattle.charts.specs.Chains.{Leads, Chain}
use Rattle.charts.specs.Chains.Chain.{one, on}
use Rattle.charts.specs.Passes.{Known, Passed}

-- a sum over the first n numbers
unfoldable pub total : ℕ → (ℕ → ℕ) → ℕ
total zero f = 0
total (suc n) f = f n + total n f

module _ (f g : ℕ → ℕ) (no_more : (k : ℕ) → g k ≤ f k) where
  pub total_no_more : (n : ℕ) → total n g ≤ total n f
  unfolding total
  total_no_more zero = omega arith
  total_no_more (suc n) = omega (arith, total_no_more n, no_more n)

  pub total_less : (n k : ℕ) → k < n → g k < f k → total n g < total n f
  unfolding total
  total_less zero k within less = absurd (omega arith)
  total_less (suc n) k within less =
      ⊎_elim
      (λ (here : k ≡ n). omega (arith, total_no_more n, ap g here, ap f here))
      (λ (other : k ≡ n → ⊥). omega (arith, total_less n k (⊎_elim (λ l. l) (λ past. absurd (other (omega arith))) (cases_lt k n)) less, no_more n))
      (cases_eq k n)

module _ {S : Type 0} (reaches : S → ℕ → ℕ → Bool) where
  abbrev gap : S → ℕ → ℕ → ℕ
  gap s a b = cond (reaches s a b) 0 1

  -- how many pairs of accounts are not known to reach
  pub missing : S → ℕ
  missing s = total 512 (λ a. total 512 (gap s a))

  module _ (before after : S) (keeps : (a b : ℕ) → reaches before a b ≡ true → reaches after a b ≡ true) where
    gap_no_more : (a b : ℕ) → gap after a b ≤ gap before a b
    gap_no_more a b = fewer (reaches before a b) (reaches after a b) (keeps a b)
      where
        fewer : (x y : Bool) → (x ≡ true → y ≡ true) → ◌≤◌ (cond y 0 1) (cond x 0 1)
        fewer true true h = omega arith
        fewer true false h = absurd (true≢false (sym (h refl)))
        fewer false true h = omega arith
        fewer false false h = omega arith

    pub missing_less : (a b : ℕ) → a < 512 → b < 512 → reaches before a b ≡ false → reaches after a b ≡ true → missing after < missing before
    unfolding missing
    missing_less a b row col gone there =
        let less : gap after a b < gap before a b = omega (arith, ap {B = ℕ} (λ t. cond t 0 1) gone, ap {B = ℕ} (λ t. cond t 0 1) there) in
        total_less (λ x. total 512 (gap before x)) (λ x. total 512 (gap after x)) (λ x. total_no_more (gap before x) (gap after x) (gap_no_more x) 512) 512 a row
        (total_less (gap before a) (gap after a) (gap_no_more a) 512 b col less)

pub leads_within : (lines : List (Option Line)) (at a b : ℕ) → Leads lines at a b → at < length lines
leads_within lines at a b leads =
    ⊎_elim (λ l. l)
    (λ past. let none = sym (get_or_past lines at None past) ∙ leads.line in let z : ◌≡◌ {A = ℕ} 0 1 = cc in absurd (omega arith))
    (cases_lt at (length lines))

-- a pass that finds no more has found all
module _ {S : Type 0} (reaches : S → ℕ → ℕ → Bool) (Starts : ℕ → Type 0) (lines : List (Option Line)) (before after : S) (p : Passed reaches Starts lines (length lines) before after false) where
  onwards : {b c : ℕ} (a : ℕ) → Known reaches Starts after a c → Chain lines c b → reaches after a b ≡ true
  onwards {b} {c} a known (one at leads) = p.closed refl at a b c (leads_within lines at c b leads) leads known
  onwards {b} {c} a known (on {c = d} at leads rest) = onwards a (inr (p.closed refl at a d c (leads_within lines at c d leads) leads known)) rest

  pub all_found : {a b : ℕ} → Starts a → Chain lines a b → reaches after a b ≡ true
  all_found {a} starts chain = onwards a (inl (refl, starts)) chain

-- chains are between accounts
pub chain_from_account : {lines : List (Option Line)} {a b : ℕ} → Chain lines a b → a < 512
chain_from_account (one at leads) = leads.from_account
chain_from_account (on at leads rest) = leads.from_account

pub chain_to_account : {lines : List (Option Line)} {a b : ℕ} → Chain lines a b → b < 512
chain_to_account (one at leads) = leads.to_account
chain_to_account (on at leads rest) = chain_to_account rest
