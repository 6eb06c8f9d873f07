-- Sound grants are consistent; a withdrawal leaves the largest consistent rest, and a grant is refused exactly where
-- it would break consistency. Assumes nothing.
use Rattle.std.proofs.Common.{◌≡◌, ℕ, zero, suc, ◌<◌, Bool, true, false, not, ◌||◌, eqb, ltb, ◌⊎◌, List, [], ◌∷◌, ◌++◌, length, is_some, Some, Option, sym, ap, ◌∙◌, subst, inl, inr, ⊎_elim, arith}
use Rattle.std.proofs.lemmas.Bool.{or_cases, or_parts, or_left, or_right, and_parts, and_from, eqb-true, eqb-false, eq-eqb, ltb-true, both_ways}
use Rattle.table.specs.Used.{first}
use Rattle.terms.specs.declared.Kind.TheVariants.{Delegatable}
use Rattle.charts.specs.declared.chart.Line.{Line}
use Rattle.charts.specs.declared.views.Mark.{Mark}
use Rattle.charts.specs.Chains.{Leads, Chain, NoCircle}
use Rattle.charts.specs.Chains.Chain.{one, on}
use Rattle.charts.specs.Reaching.{above}
use Rattle.charts.specs.Views.{is_delegatable}
use Rattle.charts.proofs.Following.{snoc}
use Rattle.charts.proofs.Shortest.{above_decides}
use Rattle.settlement.proofs.Ranks.{rank, rank_rises}
use Rattle.model.specs.Consistent.{Sound, Entitled, Consistent, Part, LargestRest}
use Rattle.model.specs.Delegation.{lines_of, signs_of, passing_of, between, passes_to, entitled, rooted, unless}
use Rattle.model.proofs.Marked.{origin, at_push, at_last, at_push_cases, kept_from, kept_at, first_at, first_none, has_at, at_has, leads_mark, mark_leads, line_at, sign_at, passing_leads, leads_passing, chain_within, chain_join, lines_push, lines_kept, rooted_part, some_there, none_there}
use Rattle.model.proofs.Sounds.{sound_granted, sound_withdrawn}

-- the last line of a chain
last_line : {lines : List (Option Line)} {a b : ℕ} → Chain lines a b → (at : ℕ) × (from : ℕ) × Leads lines at from b
last_line {lines} {a} {b} (one at leads) = (at, a, leads)
last_line {lines} {a} {b} (on at leads rest) = last_line rest

pub sound_consistent : (owner : ℕ) (ms : List Mark) → Sound owner ms → Consistent owner ms
sound_consistent owner ms sound = record {
  entitled = λ at from to leads. ⊎_elim inl (λ chain. inr (last_line chain)) (sound.rooted at from to leads);
  one_kind = λ i j from to first second. ap (λ k. (signs_of ms k).kind) (sound.one_each from to i j first second);
  strict = record { irreflexive = sound.no_circle; transitive = λ a b c first second. chain_join first second };
}

-- in a consistent part of grants without circles the entitled accounts are reached from the owner
module _ (owner : ℕ) (left other : List Mark) (no_circle : NoCircle (lines_of left)) (part : Part other left) (consistent : Consistent owner other) where
  -- a line of the part is a line of the whole, of the same kind
  leads_there : (i u v : ℕ) → Leads (lines_of other) i u v → (j : ℕ) × Leads (lines_of left) j u v × ((signs_of other i).kind ≡ (signs_of left j).kind)
  leads_there i u v leads =
      let f = leads_mark other i u v leads in
      let m = f.0 in
      let there = has_at left m (part m (at_has other i m f.1)) in
      let j = there.0 in (
        j,
        record {
          line = line_at left j m there.1 ∙ sym (line_at other i m f.1) ∙ leads.line;
          from_account = leads.from_account;
          to_account = leads.to_account;
        },
        ap (λ s. s.kind) (sign_at other i m f.1 ∙ sym (sign_at left j m there.1)),
      )

  reached_below : (k a : ℕ) → rank (lines_of left) no_circle a < k → Entitled owner other a → (a ≡ owner) ⊎ Chain (passing_of left) owner a
  reached_below zero a low may = absurd (omega arith)
  reached_below (suc k) a low (inl is) = inl is
  reached_below (suc k) a low (inr (at, u, leads)) =
      let passes = passing_leads other at u a leads in
      let f = leads_there at u a passes.0 in
      let last = leads_passing left f.0 u a f.1 (sym f.2 ∙ passes.1) in
      let up = reached_below k u (omega (arith, rank_rises (lines_of left) no_circle f.0 u a f.1)) (consistent.entitled at u a passes.0) in
      inr (⊎_elim (λ (here : u ≡ owner). subst (λ x. Chain (passing_of left) x a) here (one f.0 last)) (λ chain. snoc f.0 chain last) up)

  is_rooted : (a : ℕ) → Entitled owner other a → rooted owner left a ≡ true
  is_rooted a may =
      ⊎_elim (λ (is : a ≡ owner). or_left (eqb a owner) (above (passing_of left) owner a) (eq-eqb a owner is))
      (λ chain. or_right (eqb a owner) (above (passing_of left) owner a) ((above_decides (passing_of left) owner a).1 chain))
      (reached_below (suc (rank (lines_of left) no_circle a)) a (omega arith) may)

pub largest_rest : (owner c a : ℕ) (ms : List Mark) → Sound owner ms → LargestRest owner (unless c a ms) (rooted_part owner (unless c a ms))
largest_rest owner c a ms sound =
    let other_one : Mark → Bool = λ m. not (between c a m) in
    let left = unless c a ms in
    let stays : Mark → Bool = λ m. rooted owner left m.from in
    let no_circle : NoCircle (lines_of left) = λ x chain. sound.no_circle x (chain_within (λ i u v leads. (origin other_one ms i, lines_kept other_one ms i u v leads)) chain) in
    record {
      part = λ m has. let there = has_at (rooted_part owner left) m has in at_has left (origin stays left there.0) m (kept_from stays left there.0 m there.1).0;
      consistent = sound_consistent owner (rooted_part owner left) (sound_withdrawn owner c a ms sound);
      largest = λ other part consistent m has.
          let here = has_at other m has in
          let there = has_at left m (part m has) in
          let before = (kept_from other_one ms there.0 m there.1).0 in
          let ends = and_parts (ltb m.from 512) (ltb m.to 512) (sound.between (origin other_one ms there.0) (record { from = m.from; to = m.to }) (line_at ms (origin other_one ms there.0) m before)) in
          let leads = mark_leads other here.0 m here.1 (ltb-true m.from 512 ends.0) (ltb-true m.to 512 ends.1) in
          let may = consistent.entitled here.0 m.from m.to leads in
          let kept = kept_at stays left there.0 m there.1 (is_rooted owner left other no_circle part consistent m.from may) in
          at_has (rooted_part owner left) kept.0 m kept.1;
    }

-- the tests of the rows that refuse a grant for the sake of consistency
module _ (owner : ℕ) (ms : List Mark) (m : Mark) (sound : Sound owner ms) (from : m.from < 512) (to : m.to < 512) where
  abbrev more : List Mark
  more = ms ++ m ∷ []

  new_leads : Leads (lines_of more) (length ms) m.from m.to
  new_leads = mark_leads more (length ms) m (at_last ms m) from to

  not_itself : Consistent owner more → m.to ≡ m.from → ⊥
  not_itself consistent same =
      consistent.strict.irreflexive m.from (subst (λ x. Chain (lines_of more) m.from x) same (one (length ms) new_leads))

  -- only an entitled account grants
  breaks_entitled : entitled owner ms m.from ≡ false → Consistent owner more → ⊥
  breaks_entitled may_not consistent =
      let parts = or_parts (eqb m.from owner) (is_some (first (passes_to m.from) ms)) may_not in
      ⊎_elim (eqb-false m.from owner parts.0)
      (λ (line : (at : ℕ) × (u : ℕ) × Leads (passing_of more) at u m.from).
      let at = line.0 in
      let passes = passing_leads more at line.1 m.from line.2 in
      let f = leads_mark more at line.1 m.from passes.0 in
      let h = f.0 in
      let kind : h.kind ≡ Delegatable = ap (λ s. s.kind) (sym (sign_at more at h f.1)) ∙ passes.1 in
      ⊎_elim
      (λ old.
      both_ways (passes_to m.from h) (first_none (passes_to m.from) ms at h (none_there (first (passes_to m.from) ms) parts.1) old)
      (and_from (eqb h.to m.from) (is_delegatable h.kind) (eq-eqb h.to m.from f.3) (ap is_delegatable kind)))
      (λ (last : (at ≡ length ms) × (h ≡ m)). not_itself consistent (ap (λ x. x.to) (sym last.1) ∙ f.3))
      (at_push_cases ms m at h f.1))
      (consistent.entitled (length ms) m.from m.to new_leads)

  -- no grantor has two grants of differing kind to one account
  breaks_kind : is_some (first (between m.from m.to) ms) ≡ true → ((at : ℕ) → Leads (lines_of ms) at m.from m.to → (signs_of ms at).kind ≡ m.kind → ⊥) → Consistent owner more → ⊥
  breaks_kind stands new consistent =
      let some = some_there (first (between m.from m.to) ms) stands in
      let h = some.0 in
      let f = first_at (between m.from m.to) ms h some.1 in
      let at = f.0 in
      let ends = and_parts (eqb h.from m.from) (eqb h.to m.to) f.2 in
      let leads : Leads (lines_of ms) at m.from m.to = record {
        line = line_at ms at h f.1 ∙ ap {B = Option Line} (λ x. Some (record { from = x; to = h.to })) (eqb-true h.from m.from ends.0) ∙ ap {B = Option Line} (λ x. Some (record { from = m.from; to = x })) (eqb-true h.to m.to ends.1);
        from_account = from;
        to_account = to;
      } in
      let same = consistent.one_kind at (length ms) m.from m.to (lines_push ms m at m.from m.to leads) new_leads in
      new at leads (ap (λ s. s.kind) (sign_at ms at h f.1 ∙ sym (sign_at more at h (at_push ms m at h f.1))) ∙ same ∙ ap (λ s. s.kind) (sign_at more (length ms) m (at_last ms m)))

  -- no account is above itself
  breaks_order : (eqb m.to m.from || above (lines_of ms) m.to m.from) ≡ true → Consistent owner more → ⊥
  breaks_order circle consistent =
      ⊎_elim (λ same. not_itself consistent (eqb-true m.to m.from same))
      (λ higher.
      let old = (above_decides (lines_of ms) m.to m.from).0 higher in
      let chain : Chain (lines_of more) m.to m.from = chain_within (λ i u v leads. (i, lines_push ms m i u v leads)) old in
      consistent.strict.irreflexive m.to (snoc (length ms) chain new_leads))
      (or_cases (eqb m.to m.from) (above (lines_of ms) m.to m.from) circle)

  pub breaks : entitled owner ms m.from ≡ false ⊎ ((is_some (first (between m.from m.to) ms) ≡ true) ⊎ ((eqb m.to m.from || above (lines_of ms) m.to m.from) ≡ true)) →
      ((at : ℕ) → Leads (lines_of ms) at m.from m.to → (signs_of ms at).kind ≡ m.kind → ⊥) →
      Consistent owner (ms ++ m ∷ []) → ⊥
  breaks (inl may_not) new consistent = breaks_entitled may_not consistent
  breaks (inr (inl stands)) new consistent = breaks_kind stands new consistent
  breaks (inr (inr circle)) new consistent = breaks_order circle consistent

  pub keeps : entitled owner ms m.from ≡ true → is_some (first (between m.from m.to) ms) ≡ false → (eqb m.to m.from || above (lines_of ms) m.to m.from) ≡ false →
      Consistent owner (ms ++ m ∷ [])
  keeps may absent free =
      let parts = or_parts (eqb m.to m.from) (above (lines_of ms) m.to m.from) free in
      sound_consistent owner (ms ++ m ∷ [])
      (sound_granted owner ms m sound from to may (none_there (first (between m.from m.to) ms) absent) (eqb-false m.to m.from parts.0) parts.1)
