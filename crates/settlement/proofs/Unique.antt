-- On a chart without circles the computed picks are a settled list, and no other is. Assumes nothing.
use Rattle.std.proofs.Common.{◌≡◌, ℕ, zero, suc, ◌<◌, ◌≤◌, Bool, true, cond, eqb, ◌⊎◌, List, length, get_or, Some, None, Option, sym, refl, ap, ◌∙◌, subst, inl, inr, ⊎_elim, arith}
use Rattle.std.proofs.lemmas.Bool.{eq-eqb, ne_eqb, cases_eq}
use Rattle.rulings.specs.Ranking.{Ranking, Lawful}
use Rattle.charts.specs.declared.chart.Line.{Line}
use Rattle.charts.specs.declared.chart.Sign.{Sign}
use Rattle.charts.specs.Chains.{Leads, NoCircle}
use Rattle.charts.proofs.Found.{leads_within}
use Rattle.charts.proofs.Shortest.{leads_from}
use Rattle.settlement.specs.Picking.{eligible, better, best, repicked, rounds, settled}
use Rattle.settlement.specs.Settled.{Picks, Eligible, Settled, OneEach, claim_at, from_of}
use Rattle.settlement.proofs.Bests.{best_some, best_none, best_beats}
use Rattle.settlement.proofs.Eligibility.{eligible_word, eligible_computed, eligible_local}
use Rattle.settlement.proofs.Ranks.{rank, rank_within, rank_rises}
use Rattle.settlement.proofs.Rounds.{best_same, repicked_same}

module _ (lines : List (Option Line)) (signs : ℕ → Sign) (owner : ℕ) (R : Ranking) (p : ℕ) (no_circle : NoCircle lines) where
  -- picks that agree on accounts of lower rank give the same pick
  repicked_local : (picks picks' : Picks) (a : ℕ) → ((u : ℕ) → rank lines no_circle u < rank lines no_circle a → picks u ≡ picks' u) → repicked lines signs owner R p picks a ≡ repicked lines signs owner R p picks' a
  repicked_local picks picks' a same =
      ap (λ o. cond (eqb a owner) None o)
      (best_same (better lines signs R p) (length lines) (λ at. eligible lines signs owner picks a (get_or lines at None)) (λ at. eligible lines signs owner picks' a (get_or lines at None))
      (λ at. eligible_local lines signs owner picks picks' a (get_or lines at None)
      (λ l is accounts to. same l.from (rank_rises lines no_circle at l.from a (subst (λ x. Leads lines at l.from x) to (leads_from lines at l is accounts))))))

  -- after more rounds than its rank an account's pick stays
  stable : (k a n m : ℕ) → rank lines no_circle a < k → rank lines no_circle a < n → rank lines no_circle a < m → rounds lines signs owner R p n a ≡ rounds lines signs owner R p m a
  stable zero a n m low more more' = absurd (omega arith)
  stable (suc k) a zero m low more more' = absurd (omega arith)
  stable (suc k) a (suc n) zero low more more' = absurd (omega arith)
  stable (suc k) a (suc n) (suc m) low more more' =
      repicked_local (rounds lines signs owner R p n) (rounds lines signs owner R p m) a
      (λ u lower. stable k u n m (omega arith) (omega arith) (omega arith))

  pub fixed : (a : ℕ) → settled lines signs owner R p a ≡ repicked lines signs owner R p (settled lines signs owner R p) a
  fixed a =
      repicked_local (rounds lines signs owner R p (length lines)) (settled lines signs owner R p) a
      (λ u lower. stable (suc (length lines)) u (length lines) (suc (length lines)) (omega (arith, rank_within lines no_circle a)) (omega (arith, rank_within lines no_circle a)) (omega (arith, rank_within lines no_circle a)))

  module _ (lawful : Lawful R) (known : p < R.known) where
    abbrev ge : ℕ → ℕ → Bool
    ge i j = R.ranks p (claim_at lines signs i) (claim_at lines signs j)

    abbrev grantor : ℕ → ℕ
    grantor i = (claim_at lines signs i).grantor

    ge_total : (i j : ℕ) → (ge i j ≡ true) ⊎ (ge j i ≡ true)
    ge_total i j = lawful.total p (claim_at lines signs i) (claim_at lines signs j) known

    ge_transitive : (i j k : ℕ) → ge i j ≡ true → ge j k ≡ true → ge i k ≡ true
    ge_transitive i j k = lawful.transitive p (claim_at lines signs i) (claim_at lines signs j) (claim_at lines signs k) known

    -- picks that a round leaves as they are
    module _ (picks : Picks) (stays : (a : ℕ) → picks a ≡ repicked lines signs owner R p picks a) where
      abbrev passes : ℕ → ℕ → Bool
      passes a at = eligible lines signs owner picks a (get_or lines at None)

      for_owner : picks owner ≡ None
      for_owner = stays owner ∙ ap (λ t. cond t None (best (better lines signs R p) (length lines) (passes owner))) (eq-eqb owner owner refl)

      for_another : (a : ℕ) → (a ≡ owner → ⊥) → picks a ≡ best (better lines signs R p) (length lines) (passes a)
      for_another a other = stays a ∙ ap (λ t. cond t None (best (better lines signs R p) (length lines) (passes a))) (ne_eqb a owner other)

      not_owner : (a at : ℕ) → picks a ≡ Some at → a ≡ owner → ⊥
      not_owner a at is own = let none = sym for_owner ∙ ap picks (sym own) ∙ is in cc

      best_is : (a at : ℕ) → picks a ≡ Some at → best (better lines signs R p) (length lines) (passes a) ≡ Some at
      best_is a at is = sym (for_another a (not_owner a at is)) ∙ is

      beats : (a at other : ℕ) → picks a ≡ Some at → Eligible lines signs owner picks a other → (ge at other ≡ true) × (ge other at ≡ true → grantor at ≤ grantor other)
      beats a at other is e =
          best_beats ge grantor ge_total ge_transitive (passes a) (length lines) at (best_is a at is) other (leads_within lines other e.from a e.leads) (eligible_computed lines signs owner picks a other e)

      pub stays_settled : Settled lines signs owner R p picks
      stays_settled = record {
        owner_none = for_owner;
        eligible = λ a at is. eligible_word lines signs owner picks a at (get_or lines at None) refl (best_some (better lines signs R p) (passes a) (length lines) at (best_is a at is)).1;
        highest = λ a at other is e. (beats a at other is e).0;
        smallest = λ a at other is e. (beats a at other is e).1;
        none_left_out = λ a other none at e. best_none (better lines signs R p) (passes a) (length lines) (sym (for_another a other) ∙ none) at (leads_within lines at e.from a e.leads) (eligible_computed lines signs owner picks a at e);
      }

    pub settled_settled : Settled lines signs owner R p (settled lines signs owner R p)
    settled_settled = stays_settled (settled lines signs owner R p) fixed

    -- two settled lists agree
    module _ (one_each : OneEach lines) where
      -- where they agree below, a line is eligible by both
      transfer : (picks picks' : Picks) (a at : ℕ) → ((u : ℕ) → rank lines no_circle u < rank lines no_circle a → picks u ≡ picks' u) → Eligible lines signs owner picks a at → Eligible lines signs owner picks' a at
      transfer picks picks' a at same e = record {
        from = e.from;
        leads = e.leads;
        not_overridden = e.not_overridden;
        grantor_passes = ⊎_elim inl (λ q. inr (q.0, sym (same e.from (rank_rises lines no_circle at e.from a e.leads)) ∙ q.1, q.2)) e.grantor_passes;
      }

      same_line : (a i j : ℕ) → (Leads lines i (grantor i) a) → (Leads lines j (grantor j) a) → grantor i ≡ grantor j → i ≡ j
      same_line a i j first second same = one_each (grantor j) a i j (subst (λ x. Leads lines i x a) same first) second

      own_leads : (picks : Picks) (a i : ℕ) → Eligible lines signs owner picks a i → Leads lines i (grantor i) a
      own_leads picks a i e = subst (λ x. Leads lines i x a) (sym (ap from_of e.leads.line)) e.leads

      agree : (one other : Picks) → Settled lines signs owner R p one → Settled lines signs owner R p other → (a : ℕ) → ((u : ℕ) → rank lines no_circle u < rank lines no_circle a → one u ≡ other u) → (x y : Option ℕ) → one a ≡ x → other a ≡ y → x ≡ y
      agree one other s t a below None None is is' = refl
      agree one other s t a below (Some i) None is is' =
          ⊎_elim (λ (own : a ≡ owner). let none = sym s.owner_none ∙ ap one (sym own) ∙ is in absurd cc)
          (λ not_own. absurd (t.none_left_out a not_own is' i (transfer one other a i below (s.eligible a i is))))
          (cases_eq a owner)
      agree one other s t a below None (Some j) is is' =
          ⊎_elim (λ (own : a ≡ owner). let none = sym t.owner_none ∙ ap other (sym own) ∙ is' in absurd cc)
          (λ not_own. absurd (s.none_left_out a not_own is j (transfer other one a j (λ u lower. sym (below u lower)) (t.eligible a j is'))))
          (cases_eq a owner)
      agree one other s t a below (Some i) (Some j) is is' =
          let by_one = s.eligible a i is in
          let by_other = t.eligible a j is' in
          let j_one = transfer other one a j (λ u lower. sym (below u lower)) by_other in
          let i_other = transfer one other a i below by_one in
          let i_high = s.highest a i j is j_one in
          let j_high = t.highest a j i is' i_other in
          let low = s.smallest a i j is j_one j_high in
          let low' = t.smallest a j i is' i_other i_high in
          ap Some (same_line a i j (own_leads one a i by_one) (own_leads other a j by_other) (omega arith))

      same_below : (one other : Picks) → Settled lines signs owner R p one → Settled lines signs owner R p other → (k a : ℕ) → rank lines no_circle a < k → one a ≡ other a
      same_below one other s t zero a low = absurd (omega arith)
      same_below one other s t (suc k) a low = agree one other s t a (λ u lower. same_below one other s t k u (omega arith)) (one a) (other a) refl refl

      pub one_settled : (one other : Picks) → Settled lines signs owner R p one → Settled lines signs owner R p other → (a : ℕ) → one a ≡ other a
      one_settled one other s t a = same_below one other s t (suc (rank lines no_circle a)) a (omega arith)

-- picks that are the computed ones
module _ (lines : List (Option Line)) (signs : ℕ → Sign) (owner : ℕ) (R : Ranking) (lawful : Lawful R) (p : ℕ) (picks : Picks) (computed : (a : ℕ) → picks a ≡ settled lines signs owner R p a) where
  pub are_settled : NoCircle lines → p < R.known → Settled lines signs owner R p picks
  are_settled no_circle known =
      stays_settled lines signs owner R p no_circle lawful known picks
      (λ a. computed a ∙ fixed lines signs owner R p no_circle a ∙ repicked_same lines signs owner R p (settled lines signs owner R p) picks (λ u. sym (computed u)) a)

  pub are_the_only : NoCircle lines → OneEach lines → p < R.known → (other : Picks) → Settled lines signs owner R p other → (a : ℕ) → other a ≡ picks a
  are_the_only no_circle one_each known other s = one_settled lines signs owner R p no_circle lawful known one_each other picks s (are_settled no_circle known)
