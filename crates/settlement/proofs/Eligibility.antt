-- The computed test of a line says when it is eligible. Assumes nothing.
use Rattle.std.proofs.Common.{◌≡◌, ℕ, true, false, not, ◌&&◌, ◌||◌, eqb, List, get_or, Some, None, Option, sym, refl, ap, ◌∙◌, subst, inl, inr, ⊎_elim}
use Rattle.std.proofs.lemmas.Bool.{or_cases, or_left, or_right, and_parts, and_from, eqb-true, eq-eqb, not-true, not_from_false, cases_Bool, false≢true, true≢false}
use Rattle.terms.specs.declared.Kind.{Kind}
use Rattle.terms.specs.declared.Kind.TheVariants.{Denying, Plain, Delegatable}
use Rattle.charts.specs.declared.chart.Line.{Line}
use Rattle.charts.specs.declared.chart.Sign.{Sign}
use Rattle.charts.specs.Chains.{Leads}
use Rattle.charts.specs.Reaching.{between_accounts}
use Rattle.charts.specs.Views.{is_delegatable}
use Rattle.charts.proofs.Shortest.{leads_from, leads_between}
use Rattle.settlement.specs.Picking.{overridden, may_pass, eligible}
use Rattle.settlement.specs.Settled.{Picks, Eligible}
use Rattle.settlement.proofs.Overriding.{overridden_word}

kind_delegatable : (k : Kind) → is_delegatable k ≡ true → k ≡ Delegatable
kind_delegatable Denying e = absurd (false≢true e)
kind_delegatable Plain e = absurd (false≢true e)
kind_delegatable Delegatable e = refl

module _ (lines : List (Option Line)) (signs : ℕ → Sign) (owner : ℕ) where
  passes_word : (picks : Picks) (u : ℕ) (m : Option ℕ) → picks u ≡ m → may_pass signs m ≡ true → (at : ℕ) × (picks u ≡ Some at) × ((signs at).kind ≡ Delegatable)
  passes_word picks u None is e = absurd (false≢true e)
  passes_word picks u (Some at) is e = (at, is, kind_delegatable (signs at).kind e)

  -- computed, and then in words
  pub eligible_word : (picks : Picks) (a at : ℕ) (o : Option Line) → get_or lines at None ≡ o → eligible lines signs owner picks a o ≡ true → Eligible lines signs owner picks a at
  eligible_word picks a at None is e = absurd (false≢true e)
  eligible_word picks a at (Some l) is e =
      let first = and_parts (between_accounts l) _ e in
      let second = and_parts (eqb l.to a) _ first.1 in
      let third = and_parts (not (overridden lines l)) (eqb l.from owner || may_pass signs (picks l.from)) second.1 in
      record {
        from = l.from;
        leads = subst (λ x. Leads lines at l.from x) (eqb-true l.to a second.0) (leads_from lines at l is first.0);
        not_overridden = λ o. true≢false (sym ((overridden_word lines at l is first.0).1 o) ∙ not-true (overridden lines l) third.0);
        grantor_passes =
            ⊎_elim (λ own. inl (eqb-true l.from owner own))
            (λ passes. inr (passes_word picks l.from (picks l.from) refl passes))
            (or_cases (eqb l.from owner) (may_pass signs (picks l.from)) third.1);
      }

  pub eligible_computed : (picks : Picks) (a at : ℕ) → Eligible lines signs owner picks a at → eligible lines signs owner picks a (get_or lines at None) ≡ true
  eligible_computed picks a at e =
      let l : Line = record { from = e.from; to = a } in
      let is = e.leads.line in
      let both = leads_between e.leads in
      let clear : overridden lines l ≡ false = ⊎_elim (λ o. absurd (e.not_overridden ((overridden_word lines at l is both).0 o))) (λ n. n) (cases_Bool (overridden lines l)) in
      let passes : (eqb e.from owner || may_pass signs (picks e.from)) ≡ true
      = ⊎_elim (λ (own : e.from ≡ owner). or_left (eqb e.from owner) _ (eq-eqb e.from owner own))
      (λ p. or_right (eqb e.from owner) _ (ap (may_pass signs) p.1 ∙ ap is_delegatable p.2))
      e.grantor_passes in
      ap (eligible lines signs owner picks a) is
      ∙ and_from (between_accounts l) _ both (and_from (eqb a a) _ (eq-eqb a a refl) (and_from (not (overridden lines l)) _ (not_from_false (overridden lines l) clear) passes))

  -- the test looks at the picks of where lines to the account come from, and no further
  pub eligible_local : (picks picks' : Picks) (a : ℕ) (o : Option Line) → ((l : Line) → o ≡ Some l → between_accounts l ≡ true → l.to ≡ a → picks l.from ≡ picks' l.from) → eligible lines signs owner picks a o ≡ eligible lines signs owner picks' a o
  eligible_local picks picks' a None same = refl
  eligible_local picks picks' a (Some l) same =
      ⊎_elim
      (λ (accounts : between_accounts l ≡ true).
      ⊎_elim
      (λ (here : eqb l.to a ≡ true). ap (λ m. between_accounts l && (eqb l.to a && (not (overridden lines l) && (eqb l.from owner || may_pass signs m)))) (same l refl accounts (eqb-true l.to a here)))
      (λ (other : eqb l.to a ≡ false).
      ap (λ t. between_accounts l && (t && (not (overridden lines l) && (eqb l.from owner || may_pass signs (picks l.from))))) other
      ∙ sym (ap (λ t. between_accounts l && (t && (not (overridden lines l) && (eqb l.from owner || may_pass signs (picks' l.from))))) other))
      (cases_Bool (eqb l.to a)))
      (λ (outside : between_accounts l ≡ false).
      ap (λ t. t && (eqb l.to a && (not (overridden lines l) && (eqb l.from owner || may_pass signs (picks l.from))))) outside
      ∙ sym (ap (λ t. t && (eqb l.to a && (not (overridden lines l) && (eqb l.from owner || may_pass signs (picks' l.from))))) outside))
      (cases_Bool (between_accounts l))
