-- On a chart without circles each account has a rank that rises along every line: the number of lines that lead
-- to it or to an account above it. Assumes nothing.
use Rattle.std.proofs.Common.{◌≡◌, ℕ, zero, suc, ◌+◌, ◌<◌, ◌≤◌, Bool, true, false, cond, ◌||◌, eqb, List, [], ◌∷◌, length, get_or, Some, None, Option, sym, refl, ap, subst, ⊎_elim, arith}
use Rattle.std.proofs.lemmas.Bool.{or_cases, or_left, or_right, eqb-true, eq-eqb, cases_Bool, true≢false}
use Rattle.charts.specs.declared.chart.Line.{Line}
use Rattle.charts.specs.Chains.{Leads, Chain, NoCircle}
use Rattle.charts.specs.Chains.Chain.{one}
use Rattle.charts.specs.Reaching.{above}
use Rattle.charts.proofs.Following.{snoc}
use Rattle.charts.proofs.Shortest.{above_decides}

abbrev tested : (Line → Bool) → Option Line → ℕ
tested f None = 0
tested f (Some l) = cond (f l) 1 0

-- how many present lines pass the test
unfoldable pub number_of : (Line → Bool) → List (Option Line) → ℕ
number_of f [] = 0
number_of f (o ∷ os) = tested f o + number_of f os

one_at_most : (b : Bool) → ◌≤◌ (cond b 1 0) 1
one_at_most true = omega arith
one_at_most false = omega arith

pub number_of_length : (f : Line → Bool) (os : List (Option Line)) → number_of f os ≤ length os
unfolding number_of
number_of_length f [] = omega arith
number_of_length f (None ∷ os) = omega (arith, number_of_length f os)
number_of_length f (Some l ∷ os) = omega (arith, number_of_length f os, one_at_most (f l))

module _ (f g : Line → Bool) (more : (l : Line) → f l ≡ true → g l ≡ true) where
  tested_more : (o : Option Line) → tested f o ≤ tested g o
  tested_more None = omega arith
  tested_more (Some l) = either (f l) (g l) (more l)
    where
      either : (x y : Bool) → (x ≡ true → y ≡ true) → ◌≤◌ (cond x 1 0) (cond y 1 0)
      either true true h = omega arith
      either true false h = absurd (true≢false (sym (h refl)))
      either false y h = omega arith

  number_no_less : (os : List (Option Line)) → number_of f os ≤ number_of g os
  unfolding number_of
  number_no_less [] = omega arith
  number_no_less (o ∷ os) = omega (arith, number_no_less os, tested_more o)

  pub number_rises : (os : List (Option Line)) (at : ℕ) (l : Line) → get_or os at None ≡ Some l → f l ≡ false → g l ≡ true → number_of f os < number_of g os
  unfolding number_of
  number_rises [] at l is no_f yes_g = absurd cc
  number_rises (o ∷ os) zero l is no_f yes_g =
      omega (arith, number_no_less os, ap (tested f) is, ap (tested g) is, ap {B = ℕ} (λ t. cond t 1 0) no_f, ap {B = ℕ} (λ t. cond t 1 0) yes_g)
  number_rises (o ∷ os) (suc at) l is no_f yes_g = omega (arith, number_rises os at l is no_f yes_g, tested_more o)

module _ (lines : List (Option Line)) (no_circle : NoCircle lines) where
  -- the line leads to v or to an account above it
  abbrev leads_up_to : ℕ → Line → Bool
  leads_up_to v l = eqb l.to v || above lines l.to v

  pub rank : ℕ → ℕ
  rank v = number_of (leads_up_to v) lines

  pub rank_within : (v : ℕ) → rank v ≤ length lines
  unfolding rank
  rank_within v = number_of_length (leads_up_to v) lines

  pub rank_rises : (at u v : ℕ) → Leads lines at u v → rank u < rank v
  unfolding rank
  rank_rises at u v leads =
      number_rises (leads_up_to u) (leads_up_to v)
      (λ l up.
      or_right (eqb l.to v) (above lines l.to v) ((above_decides lines l.to v).1
      (⊎_elim (λ here. subst (λ x. Chain lines x v) (sym (eqb-true l.to u here)) (one at leads))
      (λ higher. snoc at ((above_decides lines l.to u).0 higher) leads)
      (or_cases (eqb l.to u) (above lines l.to u) up))))
      lines at (record { from = u; to = v }) leads.line
      (⊎_elim
      (λ up.
      absurd (⊎_elim (λ here. no_circle v (subst (λ x. Chain lines x v) (sym (eqb-true v u here)) (one at leads)))
      (λ higher. no_circle v (snoc at ((above_decides lines v u).0 higher) leads))
      (or_cases (eqb v u) (above lines v u) up)))
      (λ none. none)
      (cases_Bool (leads_up_to u (record { from = u; to = v }))))
      (or_left (eqb v v) (above lines v v) (eq-eqb v v refl))
