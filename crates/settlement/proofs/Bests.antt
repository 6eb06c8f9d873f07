-- The best of the places that pass. Assumes nothing.
use Rattle.std.proofs.Common.{◌≡◌, ℕ, zero, suc, ◌<◌, ◌≤◌, Bool, true, false, cond, not, ◌&&◌, ◌||◌, ltb, ◌⊎◌, Some, None, Option, if◌then◌else◌, sym, refl, ap, ◌∙◌, subst, inl, inr, ⊎_elim, arith}
use Rattle.std.specs.Option.{option_map_or}
use Rattle.std.proofs.lemmas.Bool.{or_cases, or_parts, and_parts, and_cases, ltb-true, ltb-false, not-true, not-false, cases_Bool, cases_eq, true≢false}
use Rattle.settlement.specs.Picking.{prefer, best}

-- the preferred place, by whether none is held or the one held loses
pub prefer_told : (wins : ℕ → ℕ → Bool) (i : ℕ) (held : Option ℕ) → prefer wins i held ≡ (if option_map_or (wins i) held true then Some i else held)
prefer_told wins i None = refl
prefer_told wins i (Some h) = refl

module _ (wins : ℕ → ℕ → Bool) (passes : ℕ → Bool) where
  preferred : (i : ℕ) (held : Option ℕ) (at : ℕ) → prefer wins i held ≡ Some at → (at ≡ i) ⊎ (held ≡ Some at)
  preferred i None at is = inl cc
  preferred i (Some h) at is =
      elim (wins i h) as (λ b. cond b (Some i) (Some h) ≡ Some at → (at ≡ i) ⊎ (Some h ≡ Some at)) [
        | true ↦ λ e. inl cc
        | false ↦ λ e. inr e
      ] is

  not_none : (i : ℕ) (held : Option ℕ) → prefer wins i held ≡ None → ⊥
  not_none i None is = cc
  not_none i (Some h) is =
      elim (wins i h) as (λ b. cond b (Some i) (Some h) ≡ None → ⊥) [
        | true ↦ λ e. cc
        | false ↦ λ e. cc
      ] is

  pub best_some : (n at : ℕ) → best wins n passes ≡ Some at → (at < n) × (passes at ≡ true)
  best_some zero at is = absurd cc
  best_some (suc i) at is =
      ⊎_elim
      (λ (yes_i : passes i ≡ true).
      ⊎_elim (λ (here : at ≡ i). (omega arith, ap passes here ∙ yes_i))
      (λ held. let f = best_some i at held in (omega (arith, f.0), f.1))
      (preferred i (best wins i passes) at (sym (ap (λ t. cond t (prefer wins i (best wins i passes)) (best wins i passes)) yes_i) ∙ is)))
      (λ (no_i : passes i ≡ false). let f = best_some i at (sym (ap (λ t. cond t (prefer wins i (best wins i passes)) (best wins i passes)) no_i) ∙ is) in (omega (arith, f.0), f.1))
      (cases_Bool (passes i))

  pub best_none : (n : ℕ) → best wins n passes ≡ None → (j : ℕ) → j < n → passes j ≡ true → ⊥
  best_none zero is j below yes_j = omega arith
  best_none (suc i) is j below yes_j =
      ⊎_elim
      (λ (yes_i : passes i ≡ true). not_none i (best wins i passes) (sym (ap (λ t. cond t (prefer wins i (best wins i passes)) (best wins i passes)) yes_i) ∙ is))
      (λ (no_i : passes i ≡ false).
      ⊎_elim (λ (here : j ≡ i). true≢false (sym yes_j ∙ ap passes here ∙ no_i))
      (λ other. best_none i (sym (ap (λ t. cond t (prefer wins i (best wins i passes)) (best wins i passes)) no_i) ∙ is) j (omega arith) yes_j)
      (cases_eq j i))
      (cases_Bool (passes i))

-- by a ranking that is total and transitive, with the smaller number where two rank equal
module _ (ge : ℕ → ℕ → Bool) (g : ℕ → ℕ) (total : (i j : ℕ) → (ge i j ≡ true) ⊎ (ge j i ≡ true)) (transitive : (i j k : ℕ) → ge i j ≡ true → ge j k ≡ true → ge i k ≡ true) (passes : ℕ → Bool) where
  abbrev wins : ℕ → ℕ → Bool
  wins i h = ge i h && (not (ge h i) || ltb (g i) (g h))

  -- at ranks at least as high as j, and where they rank equal it has no greater number
  abbrev Beats : ℕ → ℕ → Type 0
  Beats at j = (ge at j ≡ true) × (ge j at ≡ true → g at ≤ g j)

  itself : (i : ℕ) → Beats i i
  itself i = (⊎_elim (λ e. e) (λ e. e) (total i i), (λ _. omega arith))

  -- the winner beats what the one that it wins over beats
  winner : (i h j : ℕ) → wins i h ≡ true → Beats h j → Beats i j
  winner i h j won beats =
      let parts = and_parts (ge i h) (not (ge h i) || ltb (g i) (g h)) won in (
        transitive i h j parts.0 beats.0,
        (λ back.
            ⊎_elim
            (λ strict. absurd (true≢false (sym (transitive h j i beats.0 back) ∙ not-true (ge h i) strict)))
            (λ smaller. omega (arith, ltb-true (g i) (g h) smaller, beats.1 (transitive j i h back parts.0)))
            (or_cases (not (ge h i)) (ltb (g i) (g h)) parts.1)),
      )

  loser : (i h : ℕ) → wins i h ≡ false → Beats h i
  loser i h lost =
      ⊎_elim
      (λ (lower : ge i h ≡ false). (⊎_elim (λ e. absurd (true≢false (sym e ∙ lower))) (λ e. e) (total i h), (λ e. absurd (true≢false (sym e ∙ lower)))))
      (λ tied.
      let parts = or_parts (not (ge h i)) (ltb (g i) (g h)) tied in
      (not-false (ge h i) parts.0, (λ _. ltb-false (g i) (g h) parts.1)))
      (and_cases (ge i h) (not (ge h i) || ltb (g i) (g h)) lost)

  -- one place more, where the best of those before is held
  step : (i at j : ℕ) (held : Option ℕ) → best wins i passes ≡ held → prefer wins i held ≡ Some at → ((h : ℕ) → best wins i passes ≡ Some h → j < i → Beats h j) → j < suc i → passes j ≡ true → Beats at j
  step i at j None was is before below yes_j =
      let here : at ≡ i = cc in
      subst (λ x. Beats x j) (sym here)
      (⊎_elim (λ (e : j ≡ i). subst (λ y. Beats i y) (sym e) (itself i))
      (λ other. absurd (best_none wins passes i was j (omega arith) yes_j))
      (cases_eq j i))
  step i at j (Some h) was is before below yes_j =
      ⊎_elim
      (λ (won : wins i h ≡ true).
      let new = sym (ap (λ t. cond t (Some i) (Some h)) won) ∙ is in
      let here : at ≡ i = cc in
      subst (λ x. Beats x j) (sym here)
      (⊎_elim (λ (e : j ≡ i). subst (λ y. Beats i y) (sym e) (itself i)) (λ other. winner i h j won (before h was (omega arith))) (cases_eq j i)))
      (λ (lost : wins i h ≡ false).
      let old = sym (ap (λ t. cond t (Some i) (Some h)) lost) ∙ is in
      let here : at ≡ h = cc in
      subst (λ x. Beats x j) (sym here)
      (⊎_elim (λ (e : j ≡ i). subst (λ y. Beats h y) (sym e) (loser i h lost)) (λ other. before h was (omega arith)) (cases_eq j i)))
      (cases_Bool (wins i h))

  pub best_beats : (n at : ℕ) → best wins n passes ≡ Some at → (j : ℕ) → j < n → passes j ≡ true → Beats at j
  best_beats zero at is j below yes_j = absurd (omega arith)
  best_beats (suc i) at is j below yes_j =
      ⊎_elim
      (λ (yes_i : passes i ≡ true).
      step i at j (best wins i passes) refl (sym (ap (λ t. cond t (prefer wins i (best wins i passes)) (best wins i passes)) yes_i) ∙ is)
      (λ h was below'. best_beats i h was j below' yes_j) below yes_j)
      (λ (no_i : passes i ≡ false).
      best_beats i at (sym (ap (λ t. cond t (prefer wins i (best wins i passes)) (best wins i passes)) no_i) ∙ is) j
      (let other : j ≡ i → ⊥ = λ here. true≢false (sym yes_j ∙ ap passes here ∙ no_i) in omega arith) yes_j)
      (cases_Bool (passes i))
