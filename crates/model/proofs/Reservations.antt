-- No draft reserves more than 1,024 cells, after any history; so none has more grants. Assumes nothing.
use Rattle.std.proofs.Common.{◌≡◌, ℕ, ◌+◌, ◌≤◌, true, false, cond, not, eqb, ltb, List, [], ◌∷◌, Some, None, count_by, refl, subst, arith}
use Rattle.std.specs.List.{AllByRecursion}
use Rattle.std.proofs.ByRecursion.{All-push, all_kept_by}
use Rattle.std.proofs.lemmas.Bool.{ltb-false, or_parts}
use Rattle.table.specs.Used.{first, replaced}
use Rattle.rulings.specs.Ranking.{Ranking}
use Rattle.model.specs.declared.records.DraftRecord.{DraftRecord}
use Rattle.model.specs.Calls.{Call}
use Rattle.model.specs.Calls.Call.{opening, closing, granting, withdrawing, policing, requesting, listing}
use Rattle.model.specs.Grants.{is_on_draft}
use Rattle.model.specs.History.{History, after, outcome, Reached}
use Rattle.model.specs.Keys.{by_draft}
use Rattle.model.specs.Law.{Orderly}
use Rattle.model.specs.Meaning.{left, with_serial, with_policy}
use Rattle.model.specs.Refusals.{refusal, refusal_table}
use Rattle.model.specs.State.{State, empty, draft_of}
use Rattle.model.proofs.DraftsOf.{found_draft}
use Rattle.model.proofs.Invariant.{next_keeps, all_found, none_on, count_none, reached_orderly}
use Rattle.model.proofs.Obeyed.{none_holds}

abbrev Small : List DraftRecord → Type 0
Small xs = AllByRecursion (λ x. x.cells ≤ 1024) xs

-- a record in the place of one that reserves as much
small_replaced : (d : ℕ) (x y : DraftRecord) → y.cells ≡ x.cells → (xs : List DraftRecord) → first (by_draft d) xs ≡ Some x → Small xs → Small (replaced (by_draft d) y xs)
small_replaced d x y same [] found small = tt
small_replaced d x y same (z ∷ zs) found small =
    elim (eqb z.draft d) as (λ b. cond b (Some z) (first (by_draft d) zs) ≡ Some x → Small (cond b (y ∷ zs) (z ∷ replaced (by_draft d) y zs))) [
      | true ↦ λ e.
          let here : z ≡ x = cc in
          let less : x.cells ≤ 1024 = subst (λ (w : DraftRecord). w.cells ≤ 1024) here small.0 in
          (omega (arith, same, less), small.1)
      | false ↦ λ e. (small.0, small_replaced d x y same zs e small.1)
    ] found

-- an obeyed call
small_left : (R : Ranking) (s : State) (c : Call) → Small s.drafts → refusal R s c ≡ None → Small (left s c).drafts
small_left R s (opening d o p c) small none =
    let rows = none_holds (refusal_table R s (opening d o p c)) none in
    let parts = or_parts (eqb c 0) (ltb 1024 c) rows.1.1.1.1.0 in
    All-push (λ x. x.cells ≤ 1024) s.drafts (record { draft = d; owner = o; policy = p; cells = c; last = 0 }) small (ltb-false 1024 c parts.1)
small_left R s (closing d a) small none = all_kept_by (λ x. not (by_draft d x)) (λ x. x.cells ≤ 1024) s.drafts small
small_left R s (granting d r c a k) small none =
    elim (draft_of d s) as (λ o. draft_of d s ≡ o → Small (with_serial d o s.drafts)) [
      | None ↦ λ found. small
      | Some x ↦ λ found. small_replaced d x (record { draft = x.draft; owner = x.owner; policy = x.policy; cells = x.cells; last = x.last + 1 }) refl s.drafts found small
    ] refl
small_left R s (withdrawing d r c a) small none = small
small_left R s (policing d a p) small none =
    elim (draft_of d s) as (λ o. draft_of d s ≡ o → Small (with_policy d p o s.drafts)) [
      | None ↦ λ found. small
      | Some x ↦ λ found. small_replaced d x (record { draft = x.draft; owner = x.owner; policy = p; cells = x.cells; last = x.last }) refl s.drafts found small
    ] refl
small_left R s (requesting d r a) small none = small
small_left R s (listing d r b) small none = small

small_after : (s : State) (h : History) → Small s.drafts → Small (outcome s h).drafts
small_after s [] small = small
small_after s (m ∷ h) small =
    small_after (after s m) h (next_keeps (λ t. Small t.drafts) m.ranking s m.call small (small_left m.ranking s m.call small))

-- no draft has more than 1,024 grants, open or not
pub few_on_draft : (s : State) → Reached s → (d : ℕ) → count_by (is_on_draft d) s.grants ≤ 1024
few_on_draft s reached d =
    let orderly : Orderly s = reached_orderly s reached in
    let small : Small s.drafts = subst (λ (t : State). Small t.drafts) reached.1 (small_after (empty s.places s.cells) reached.0 tt) in
    elim (draft_of d s) as (λ o. draft_of d s ≡ o → count_by (is_on_draft d) s.grants ≤ 1024) [
      | None ↦ λ absent. omega (arith, count_none d s.grants (none_on d s.drafts s.grants absent orderly.on_open))
      | Some x ↦ λ found.
          let within = all_found (by_draft d) (λ y. count_by (is_on_draft y.draft) s.grants ≤ y.cells) x s.drafts orderly.within found in
          let own : count_by (is_on_draft d) s.grants ≤ x.cells = rw (found_draft d s.drafts x found) at within in
          omega (arith, own, all_found (by_draft d) (λ y. y.cells ≤ 1024) x s.drafts small found)
    ] refl
