-- The last serial given on an open draft is the number of grants obeyed on it since it was opened. Assumes nothing.
use Rattle.std.proofs.Common.{◌≡◌, ℕ, ◌+◌, Bool, true, false, cond, not, eqb, List, [], ◌∷◌, ◌++◌, Some, None, filter, Option, sym, refl, ap, ◌∙◌, subst, arith}
use Rattle.std.proofs.lemmas.Bool.{eqb-true, eqb-false}
use Rattle.table.specs.Used.{first, replaced}
use Rattle.rulings.specs.Ranking.{Ranking}
use Rattle.model.specs.declared.records.DraftRecord.{DraftRecord}
use Rattle.model.specs.Calls.{Call, Reply}
use Rattle.model.specs.Calls.Call.{opening, closing, granting, withdrawing, policing, requesting, listing}
use Rattle.model.specs.Calls.Reply.{refused}
use Rattle.model.specs.History.{History, reply_to, after, outcome}
use Rattle.model.specs.Keys.{by_draft}
use Rattle.model.specs.Law.{tally, obeyed_grants}
use Rattle.model.specs.Meaning.{told, left, reply, next, with_serial, with_policy}
use Rattle.model.specs.Refusals.{refusal}
use Rattle.model.specs.State.{State, draft_of}
use Rattle.model.proofs.DraftsOf.{opened_own, opened_other, closed_own, closed_other, changed_own, changed_other}
use Rattle.model.proofs.Obeyed.{opening_new}

module _ (d : ℕ) where
  -- where draft d is among these, n is the last serial given on it
  abbrev pub Counts : ℕ → List DraftRecord → Type 0
  Counts n drafts = (x : DraftRecord) → first (by_draft d) drafts ≡ Some x → x.last ≡ n

  -- what is found by the number e is found by d where they are the same
  by_same : (e : ℕ) → e ≡ d → (drafts : List DraftRecord) (o : Option DraftRecord) → first (by_draft e) drafts ≡ o → first (by_draft d) drafts ≡ o
  by_same e same drafts o found = ap (λ k. first (by_draft k) drafts) (sym same) ∙ found

  opened_counts : (y : DraftRecord) (drafts : List DraftRecord) (n : ℕ) → first (by_draft y.draft) drafts ≡ None → Counts n drafts → Counts (cond (eqb y.draft d) y.last n) (drafts ++ y ∷ [])
  opened_counts y drafts n new was x found =
      elim (eqb y.draft d) as (λ b. eqb y.draft d ≡ b → x.last ≡ cond b y.last n) [
        | true ↦ λ t. let own = by_same y.draft (eqb-true y.draft d t) (drafts ++ y ∷ []) (Some y) (opened_own y drafts new) in cc
        | false ↦ λ t. was x (sym (opened_other d y drafts (eqb-false y.draft d t)) ∙ found)
      ] refl

  closed_counts : (e : ℕ) (drafts : List DraftRecord) (n : ℕ) → Counts n drafts → Counts n (filter (λ x. not (by_draft e x)) drafts)
  closed_counts e drafts n was x found =
      elim (eqb e d) as (λ b. eqb e d ≡ b → x.last ≡ n) [
        | true ↦ λ t.
            let own = by_same e (eqb-true e d t) (filter (λ x. not (by_draft e x)) drafts) None (closed_own e drafts) in
            let z : ◌≡◌ {A = ℕ} 0 1 = cc in
            absurd (omega arith)
        | false ↦ λ t. was x (sym (closed_other e d (λ same. eqb-false e d t (sym same)) drafts) ∙ found)
      ] refl

  changed_counts : (e : ℕ) (y z : DraftRecord) (drafts : List DraftRecord) (n m : ℕ) → first (by_draft e) drafts ≡ Some y → z.draft ≡ y.draft → (y.last ≡ n → z.last ≡ m) → Counts n drafts → Counts (cond (eqb e d) m n) (replaced (by_draft e) z drafts)
  changed_counts e y z drafts n m there same more was x found =
      elim (eqb e d) as (λ b. eqb e d ≡ b → x.last ≡ cond b m n) [
        | true ↦ λ t.
            let own = by_same e (eqb-true e d t) (replaced (by_draft e) z drafts) (Some z) (changed_own e y z drafts there same) in
            let now = more (was y (by_same e (eqb-true e d t) drafts (Some y) there)) in
            cc
        | false ↦ λ t. was x (sym (changed_other e d y z drafts (λ here. eqb-false e d t (sym here)) there same) ∙ found)
      ] refl

  serial_counts : (e : ℕ) (drafts : List DraftRecord) (n : ℕ) (o : Option DraftRecord) → first (by_draft e) drafts ≡ o → Counts n drafts → Counts (cond (eqb e d) (n + 1) n) (with_serial e o drafts)
  serial_counts e drafts n None there was x found =
      elim (eqb e d) as (λ b. eqb e d ≡ b → x.last ≡ cond b (n + 1) n) [
        | true ↦ λ t.
            let own = by_same e (eqb-true e d t) drafts None there in
            let z : ◌≡◌ {A = ℕ} 0 1 = cc in
            absurd (omega arith)
        | false ↦ λ t. was x found
      ] refl
  serial_counts e drafts n (Some y) there was x found =
      changed_counts e y (record { draft = y.draft; owner = y.owner; policy = y.policy; cells = y.cells; last = y.last + 1 }) drafts n (n + 1) there refl (λ here. ap (λ k. k + 1) here) was x found

  either : (b : Bool) (n : ℕ) → cond b n n ≡ n
  either true n = refl
  either false n = refl

  policy_counts : (e p : ℕ) (drafts : List DraftRecord) (n : ℕ) (o : Option DraftRecord) → first (by_draft e) drafts ≡ o → Counts n drafts → Counts n (with_policy e p o drafts)
  policy_counts e p drafts n None there was x found = was x found
  policy_counts e p drafts n (Some y) there was x found =
      changed_counts e y (record { draft = y.draft; owner = y.owner; policy = p; cells = y.cells; last = y.last }) drafts n n there refl (λ here. here) was x found
      ∙ either (eqb e d) n

  left_counts : (R : Ranking) (s : State) (c : Call) → refusal R s c ≡ None → (n : ℕ) → Counts n s.drafts → Counts (tally d c (told R s c) n) (left s c).drafts
  left_counts R s (opening e o p c) none n was = opened_counts (record { draft = e; owner = o; policy = p; cells = c; last = 0 }) s.drafts n (opening_new R s e o p c none) was
  left_counts R s (closing e a) none n was = closed_counts e s.drafts n was
  left_counts R s (granting e r c a k) none n was = serial_counts e s.drafts n (draft_of e s) refl was
  left_counts R s (withdrawing e r c a) none n was = was
  left_counts R s (policing e a p) none n was = policy_counts e p s.drafts n (draft_of e s) refl was
  left_counts R s (requesting e r a) none n was = was
  left_counts R s (listing e r b) none n was = was

  refused_counts : (c : Call) (k n : ℕ) → n ≡ tally d c (refused k) n
  refused_counts (opening e o p c) k n = refl
  refused_counts (closing e a) k n = refl
  refused_counts (granting e r c a l) k n = refl
  refused_counts (withdrawing e r c a) k n = refl
  refused_counts (policing e a p) k n = refl
  refused_counts (requesting e r a) k n = refl
  refused_counts (listing e r b) k n = refl

  next_counts : (R : Ranking) (s : State) (c : Call) (n : ℕ) → Counts n s.drafts → Counts (tally d c (reply R s c) n) (next R s c).drafts
  next_counts R s c n was =
      elim (refusal R s c) as (λ o. refusal R s c ≡ o → Counts (tally d c (elim o as (λ _. Reply) [ Some k ↦ refused k | None ↦ told R s c ]) n) (elim o as (λ _. State) [ Some k ↦ s | None ↦ left s c ]).drafts) [
        | Some k ↦ λ case. subst (λ m. Counts m s.drafts) (refused_counts c k n) was
        | None ↦ λ case. left_counts R s c case n was
      ] refl

  pub serials_counted : (s : State) (h : History) (n : ℕ) → Counts n s.drafts → Counts (obeyed_grants d n s h) (outcome s h).drafts
  serials_counted s [] n was = was
  serials_counted s (m ∷ h) n was = serials_counted (after s m) h (tally d m.call (reply_to s m) n) (next_counts m.ranking s m.call n was)

pub empty_counts : (d : ℕ) → Counts d 0 []
empty_counts d x found = let z : ◌≡◌ {A = ℕ} 0 1 = cc in absurd (omega arith)
