-- Rounds of picks, one after another. Assumes nothing.
use Rattle.std.proofs.Common.{◌≡◌, ℕ, zero, suc, ◌+◌, ◌-◌, ◌≤◌, Bool, true, false, cond, eqb, List, length, get_or, None, Option, sym, refl, ap, ◌∙◌, ⊎_elim, add-one, arith}
use Rattle.rulings.specs.Ranking.{Ranking}
use Rattle.charts.specs.declared.chart.Line.{Line}
use Rattle.charts.specs.declared.chart.Sign.{Sign}
use Rattle.std.proofs.lemmas.Bool.{cases_Bool}
use Rattle.charts.specs.Chains.{Leads}
use Rattle.settlement.specs.Picking.{eligible, better, prefer, best, repicked, rounds, settled}
use Rattle.settlement.specs.Settled.{Picks}
use Rattle.settlement.proofs.Eligibility.{eligible_word, eligible_local}

-- one place more in the choice of the best
pub best_more : (wins : ℕ → ℕ → Bool) (i : ℕ) (passes : ℕ → Bool) (owns : Bool) (held next : Option ℕ) →
    held ≡ cond owns None (best wins i passes) →
    next ≡ cond owns held (cond (passes i) (prefer wins i held) held) →
    next ≡ cond owns None (best wins (i + 1) passes)
best_more wins i passes true held next was is = is ∙ was
best_more wins i passes false held next was is =
    is ∙ ap (λ h. cond (passes i) (prefer wins i h) h) was ∙ ap (λ n. best wins n passes) (sym (add-one i))

-- the best by equal tests
pub best_same : (wins : ℕ → ℕ → Bool) (n : ℕ) (passes passes' : ℕ → Bool) → ((i : ℕ) → passes i ≡ passes' i) → best wins n passes ≡ best wins n passes'
best_same wins zero passes passes' same = refl
best_same wins (suc i) passes passes' same =
    ap (λ t. cond t (prefer wins i (best wins i passes)) (best wins i passes)) (same i)
    ∙ ap (λ h. cond (passes' i) (prefer wins i h) h) (best_same wins i passes passes' same)

module _ (lines : List (Option Line)) (signs : ℕ → Sign) (owner : ℕ) (R : Ranking) (p : ℕ) where
  pub repicked_same : (picks picks' : Picks) → ((a : ℕ) → picks a ≡ picks' a) → (a : ℕ) → repicked lines signs owner R p picks a ≡ repicked lines signs owner R p picks' a
  repicked_same picks picks' same a =
      ap (λ o. cond (eqb a owner) None o)
      (best_same (better lines signs R p) (length lines) (λ at. eligible lines signs owner picks a (get_or lines at None)) (λ at. eligible lines signs owner picks' a (get_or lines at None)) (λ at. eligible_local lines signs owner picks picks' a (get_or lines at None) (λ l is accounts to. same l.from)))

  -- one round more
  pub round_more : (picks next : Picks) (n : ℕ) → ((a : ℕ) → picks a ≡ rounds lines signs owner R p n a) → ((a : ℕ) → next a ≡ repicked lines signs owner R p picks a) → (a : ℕ) → next a ≡ rounds lines signs owner R p (n + 1) a
  round_more picks next n is follows a =
      follows a ∙ repicked_same picks (rounds lines signs owner R p n) is a ∙ ap (λ k. rounds lines signs owner R p k a) (sym (add-one n))

  -- picks that a round does not change are not changed by more
  rounds_stay : (picks : Picks) (n : ℕ) → ((a : ℕ) → picks a ≡ rounds lines signs owner R p n a) → ((a : ℕ) → repicked lines signs owner R p picks a ≡ picks a) → (more a : ℕ) → picks a ≡ rounds lines signs owner R p (more + n) a
  rounds_stay picks n is stays zero a = is a ∙ ap (λ k. rounds lines signs owner R p k a) (omega arith)
  rounds_stay picks n is stays (suc more) a =
      sym (stays a)
      ∙ repicked_same picks (rounds lines signs owner R p (more + n)) (rounds_stay picks n is stays more) a
      ∙ ap (λ k. rounds lines signs owner R p k a) (let e : suc (more + n) ≡ suc more + n = omega arith in e)

  -- so they are the settled ones, where the next are the same
  pub settled_from_same : (picks next : Picks) (n : ℕ) → ((a : ℕ) → picks a ≡ rounds lines signs owner R p n a) → ((a : ℕ) → next a ≡ repicked lines signs owner R p picks a) → ((a : ℕ) → next a ≡ picks a) → n ≤ length lines → (a : ℕ) → picks a ≡ settled lines signs owner R p a
  settled_from_same picks next n is follows same within a =
      rounds_stay picks n is (λ b. sym (follows b) ∙ same b) (suc (length lines) - n) a
      ∙ ap (λ k. rounds lines signs owner R p k a) (let e : (suc (length lines) - n) + n ≡ suc (length lines) = omega arith in e)

-- nothing is picked where nothing passes
best_nobody : (wins : ℕ → ℕ → Bool) (n : ℕ) (passes : ℕ → Bool) → ((i : ℕ) → passes i ≡ false) → best wins n passes ≡ None
best_nobody wins zero passes none = refl
best_nobody wins (suc i) passes none =
    ap (λ t. cond t (prefer wins i (best wins i passes)) (best wins i passes)) (none i) ∙ best_nobody wins i passes none

neither : (b : Bool) → ◌≡◌ {A = Option ℕ} (cond b None None) None
neither true = refl
neither false = refl

-- an account that no line leads to has no pick
pub unnamed_none : (lines : List (Option Line)) (signs : ℕ → Sign) (owner : ℕ) (R : Ranking) (p a : ℕ) → ((at from : ℕ) → Leads lines at from a → ⊥) → settled lines signs owner R p a ≡ None
unnamed_none lines signs owner R p a unnamed =
    ap (λ o. cond (eqb a owner) None o)
    (best_nobody (better lines signs R p) (length lines) (λ at. eligible lines signs owner (rounds lines signs owner R p (length lines)) a (get_or lines at None))
    (λ at.
    ⊎_elim
    (λ e. let word = eligible_word lines signs owner (rounds lines signs owner R p (length lines)) a at (get_or lines at None) refl e in absurd (unnamed at word.from word.leads))
    (λ n. n)
    (cases_Bool (eligible lines signs owner (rounds lines signs owner R p (length lines)) a (get_or lines at None)))))
    ∙ neither (eqb a owner)
