-- Two signed charts that have the same lines to some accounts, and to all above them, settle these accounts alike.
-- Assumes nothing.
use Rattle.std.proofs.Common.{◌≡◌, ℕ, zero, suc, ◌<◌, ◌⊎◌, List, get_or, Some, None, Option, sym, refl, ap, ◌∙◌, subst, inl, inr, ⊎_elim, arith}
use Rattle.std.proofs.lemmas.Bool.{cases_eq}
use Rattle.terms.specs.declared.Claim.{Claim}
use Rattle.rulings.specs.Ranking.{Ranking, Lawful}
use Rattle.charts.specs.declared.chart.Line.{Line}
use Rattle.charts.specs.declared.chart.Sign.{Sign}
use Rattle.charts.specs.Chains.{Leads, Chain, NoCircle}
use Rattle.charts.specs.Chains.Chain.{one, on}
use Rattle.settlement.specs.Picking.{settled}
use Rattle.settlement.specs.Settled.{Overridden, Picks, Passes, Eligible, Settled, OneEach, claim_at, from_of}
use Rattle.settlement.proofs.Ranks.{rank, rank_rises}
use Rattle.settlement.proofs.Unique.{settled_settled}

-- the two charts have the same lines, with the same signs, to the accounts that are in, and where these lines
-- come from is in too
pub record Alike (lines lines' : List (Option Line)) (signs signs' : ℕ → Sign) (In : ℕ → Type 0) : Type 0 where
  pub up : (a at u : ℕ) → In a → Leads lines at u a → In u
  pub there : (a at u : ℕ) → In a → Leads lines at u a → (at' : ℕ) × Leads lines' at' u a × (signs at ≡ signs' at')
  pub back : (a at' u : ℕ) → In a → Leads lines' at' u a → (at : ℕ) × Leads lines at u a × (signs at ≡ signs' at')

-- neither has a pick for the account, or both pick a line from the same account with the same sign
abbrev pub PickedAlike : List (Option Line) → List (Option Line) → (ℕ → Sign) → (ℕ → Sign) → Picks → Picks → ℕ → Type 0
PickedAlike lines lines' signs signs' picks picks' a =
    ((picks a ≡ None) × (picks' a ≡ None))
    ⊎ ((i : ℕ) × (j : ℕ) × (u : ℕ) × (picks a ≡ Some i) × (picks' a ≡ Some j) × Leads lines i u a × Leads lines' j u a × (signs i ≡ signs' j))

abbrev to_of : Option Line → ℕ
to_of None = 0
to_of (Some l) = l.to

-- one way; the other way is the same with the charts swapped
module _ {lines lines' : List (Option Line)} {signs signs' : ℕ → Sign} {In : ℕ → Type 0} (alike : Alike lines lines' signs signs' In) where
  pub swapped : Alike lines' lines signs' signs In
  swapped = record {
    up = λ a at u within leads. let f = alike.back a at u within leads in alike.up a f.0 u within f.1;
    there = λ a at u within leads. let f = alike.back a at u within leads in (f.0, f.1, sym f.2);
    back = λ a at u within leads. let f = alike.there a at u within leads in (f.0, f.1, sym f.2);
  }

  pub chain_there : {a b : ℕ} → In b → Chain lines a b → Chain lines' a b × In a
  chain_there {a} {b} within (one at leads) = let f = alike.there b at a within leads in (one f.0 f.1, alike.up b at a within leads)
  chain_there {a} {b} within (on {c = c} at leads rest) =
      let r = chain_there within rest in
      let f = alike.there c at a r.1 leads in
      (on f.0 f.1 r.0, alike.up c at a r.1 leads)

  -- where a line is overridden, so is the one like it
  overridden_there : (a at at' u : ℕ) → In a → Leads lines at u a → Leads lines' at' u a → Overridden lines at → Overridden lines' at'
  overridden_there a at at' u within leads leads' o =
      let same = sym o.leads.line ∙ leads.line in
      let from_is : o.from ≡ u = ap from_of same in
      let to_is : o.account ≡ a = ap to_of same in
      let f = alike.there a o.over o.higher within (subst (λ x. Leads lines o.over o.higher x) to_is o.over_leads) in
      record {
        from = u;
        account = a;
        leads = leads';
        over = f.0;
        higher = o.higher;
        over_leads = f.1;
        above = (chain_there (alike.up a at u within leads) (subst (λ x. Chain lines o.higher x) from_is o.above)).0;
      }

  claim_there : (a at at' u : ℕ) → Leads lines at u a → Leads lines' at' u a → signs at ≡ signs' at' → claim_at lines signs at ≡ claim_at lines' signs' at'
  claim_there a at at' u leads leads' same =
      ap {B = Claim} (λ s. record { kind = s.kind; grantor = from_of (get_or lines at None); serial = s.serial }) same
      ∙ ap {B = Claim} (λ g. record { kind = (signs' at').kind; grantor = g; serial = (signs' at').serial }) (ap from_of leads.line ∙ sym (ap from_of leads'.line))

-- and back
module _ {lines lines' : List (Option Line)} {signs signs' : ℕ → Sign} {In : ℕ → Type 0} (alike : Alike lines lines' signs signs' In) where
  pub chain_back : {a b : ℕ} → In b → Chain lines' a b → Chain lines a b × In a
  chain_back = chain_there (swapped alike)

  -- where the two pick alike for all that lines to an account come from
  module _ (owner : ℕ) (picks picks' : Picks) (a : ℕ) (within : In a) (below : (at u : ℕ) → Leads lines at u a → PickedAlike lines lines' signs signs' picks picks' u) where
    passes_there : (u : ℕ) → PickedAlike lines lines' signs signs' picks picks' u → Passes signs owner picks u → Passes signs' owner picks' u
    passes_there u (inl none) (inl own) = inl own
    passes_there u (inl none) (inr picked) = let some = sym none.0 ∙ picked.1 in absurd cc
    passes_there u (inr both) (inl own) = inl own
    passes_there u (inr both) (inr picked) =
        let some = sym both.3 ∙ picked.1 in
        let same : both.0 ≡ picked.0 = cc in
        inr (both.1, both.4, ap (λ s. s.kind) (sym both.7) ∙ ap (λ i. (signs i).kind) same ∙ picked.2)

    -- the line like an eligible one is eligible
    eligible_there : (at at' : ℕ) (e : Eligible lines signs owner picks a at) → Leads lines' at' e.from a → Eligible lines' signs' owner picks' a at'
    eligible_there at at' e leads' = record {
      from = e.from;
      leads = leads';
      not_overridden = λ o. e.not_overridden (overridden_there (swapped alike) a at' at e.from within leads' e.leads o);
      grantor_passes = passes_there e.from (below at e.from e.leads) e.grantor_passes;
    }

    -- who has a pick in the one chart has one in the other
    picked_there : (R : Ranking) (p i : ℕ) → Settled lines signs owner R p picks → Settled lines' signs' owner R p picks' → picks a ≡ Some i → picks' a ≡ None → ⊥
    picked_there R p i s t is none =
        ⊎_elim (λ (own : a ≡ owner). let clash = sym s.owner_none ∙ ap picks (sym own) ∙ is in absurd cc)
        (λ other.
        let e = s.eligible a i is in
        let f = alike.there a i e.from within e.leads in
        t.none_left_out a other none f.0 (eligible_there i f.0 e f.1))
        (cases_eq a owner)

picked_swapped : (lines lines' : List (Option Line)) (signs signs' : ℕ → Sign) (picks picks' : Picks) (a : ℕ) → PickedAlike lines lines' signs signs' picks picks' a → PickedAlike lines' lines signs' signs picks' picks a
picked_swapped lines lines' signs signs' picks picks' a (inl none) = inl (none.1, none.0)
picked_swapped lines lines' signs signs' picks picks' a (inr (i, j, u, is, is', leads, leads', same)) = inr (j, i, u, is', is, leads', leads, sym same)

module _ {lines lines' : List (Option Line)} {signs signs' : ℕ → Sign} {In : ℕ → Type 0} (alike : Alike lines lines' signs signs' In) (no_circle : NoCircle lines) (one_each : OneEach lines) (owner : ℕ) (R : Ranking) (p : ℕ) where
  -- two settled lists, one of each chart
  module _ (picks picks' : Picks) (s : Settled lines signs owner R p picks) (t : Settled lines' signs' owner R p picks') where
    module _ (a : ℕ) (within : In a) (below : (at u : ℕ) → Leads lines at u a → PickedAlike lines lines' signs signs' picks picks' u) where
      below' : (at' u : ℕ) → Leads lines' at' u a → PickedAlike lines' lines signs' signs picks' picks u
      below' at' u leads' = let f = alike.back a at' u within leads' in picked_swapped lines lines' signs signs' picks picks' u (below f.0 u f.1)

      both_pick : (i j : ℕ) → picks a ≡ Some i → picks' a ≡ Some j → PickedAlike lines lines' signs signs' picks picks' a
      both_pick i j is is' =
          let e = s.eligible a i is in
          let d = t.eligible a j is' in
          let f = alike.there a i e.from within e.leads in
          let g = alike.back a j d.from within d.leads in
          let here = eligible_there (swapped alike) owner picks' picks a within below' j g.0 d g.1 in
          let there = eligible_there alike owner picks picks' a within below i f.0 e f.1 in
          let i_claim : claim_at lines signs i ≡ claim_at lines' signs' f.0 = claim_there alike a i f.0 e.from e.leads f.1 f.2 in
          let j_claim : claim_at lines signs g.0 ≡ claim_at lines' signs' j = claim_there alike a g.0 j d.from g.1 d.leads g.2 in
          let i_high = s.highest a i g.0 is here in
          let j_high = t.highest a j f.0 is' there in
          let low = s.smallest a i g.0 is here (ap (R.ranks p (claim_at lines signs g.0)) i_claim ∙ ap (λ c. R.ranks p c (claim_at lines' signs' f.0)) j_claim ∙ j_high) in
          let low' = t.smallest a j f.0 is' there (ap (R.ranks p (claim_at lines' signs' f.0)) (sym j_claim) ∙ ap (λ c. R.ranks p c (claim_at lines signs g.0)) (sym i_claim) ∙ i_high) in
          let same_from : d.from ≡ e.from
          = omega (arith, low, low', ap from_of e.leads.line, ap from_of d.leads.line, ap from_of f.1.line, ap from_of g.1.line) in
          let i_leads = subst (λ x. Leads lines i x a) (sym same_from) e.leads in
          inr (i, j, d.from, is, is', i_leads, d.leads, ap signs (one_each d.from a i g.0 i_leads g.1) ∙ g.2)

      alike_at : (x y : Option ℕ) → picks a ≡ x → picks' a ≡ y → PickedAlike lines lines' signs signs' picks picks' a
      alike_at None None is is' = inl (is, is')
      alike_at (Some i) None is is' = absurd (picked_there alike owner picks picks' a within below R p i s t is is')
      alike_at None (Some j) is is' = absurd (picked_there (swapped alike) owner picks' picks a within below' R p j t s is' is)
      alike_at (Some i) (Some j) is is' = both_pick i j is is'

    alike_below : (k a : ℕ) → In a → rank lines no_circle a < k → PickedAlike lines lines' signs signs' picks picks' a
    alike_below zero a within low = absurd (omega arith)
    alike_below (suc k) a within low =
        alike_at a within (λ at u leads. alike_below k u (alike.up a at u within leads) (omega (arith, rank_rises lines no_circle at u a leads))) (picks a) (picks' a) refl refl

    pub picked_alike : (a : ℕ) → In a → PickedAlike lines lines' signs signs' picks picks' a
    picked_alike a within = alike_below (suc (rank lines no_circle a)) a within (omega arith)

  -- the computed ones
  pub settled_alike : NoCircle lines' → Lawful R → p < R.known → (a : ℕ) → In a → PickedAlike lines lines' signs signs' (settled lines signs owner R p) (settled lines' signs' owner R p) a
  settled_alike no_circle' lawful known =
      picked_alike (settled lines signs owner R p) (settled lines' signs' owner R p)
      (settled_settled lines signs owner R p no_circle lawful known)
      (settled_settled lines' signs' owner R p no_circle' lawful known)
