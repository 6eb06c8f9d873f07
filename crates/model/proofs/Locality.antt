-- One more grant or withdrawal changes the answers for the account that it names and for those below alone.
-- Assumes nothing.
use Rattle.std.proofs.Common.{◌≡◌, ℕ, ◌+◌, ◌<◌, true, false, cond, not, eqb, ltb, leb, ◌⊎◌, List, [], ◌∷◌, ◌++◌, get_or, is_some, Some, None, Option, sym, refl, ap, ◌∙◌, subst, inl, inr, ⊎_elim, arith}
use Rattle.std.proofs.lemmas.Bool.{true≢false, eqb-false, eq-eqb, ne_eqb, leb-false, ltb-false, not-false, not_from_false, and_right, and_left, and_from, or_left, or_right, or_parts, cases_eq, cases_Bool}
use Rattle.table.specs.Used.{first, replaced}
use Rattle.charts.specs.declared.views.Mark.{Mark}
use Rattle.charts.specs.Chains.{Leads, Chain, NoCircle}
use Rattle.charts.specs.Chains.Chain.{one, on}
use Rattle.charts.specs.Reaching.{above}
use Rattle.charts.proofs.Following.{snoc}
use Rattle.charts.proofs.Shortest.{above_decides}
use Rattle.rulings.specs.Ranking.{Ranking, Lawful}
use Rattle.settlement.specs.Picking.{settled}
use Rattle.settlement.specs.Settled.{from_of}
use Rattle.settlement.proofs.Alike.{Alike, settled_alike}
use Rattle.model.specs.declared.answers.Decision.TheVariants.{Permitted}
use Rattle.model.specs.declared.records.DraftRecord.{DraftRecord}
use Rattle.model.specs.declared.records.GrantRecord.{GrantRecord}
use Rattle.model.specs.Calls.{Call, Reply}
use Rattle.model.specs.Calls.Call.{opening, closing, granting, withdrawing, policing, requesting, listing}
use Rattle.model.specs.Calls.Reply.{refused, decided}
use Rattle.model.specs.Consistent.{Sound}
use Rattle.model.specs.Delegation.{At, lines_of, signs_of, passing_of, between, entitled, rooted, unless}
use Rattle.model.specs.Grants.{of_right, on_right, mark_of, key_of, without, still_rooted}
use Rattle.model.specs.Keys.{by_draft}
use Rattle.model.specs.Law.{SoundThroughout, Names, IsChange, ChangesLocally}
use Rattle.model.specs.Meaning.{kind_of, next_serial, left_standing, asked, with_serial, left, reply, next}
use Rattle.model.specs.Refusals.{refusal, refusal_table, draft_policy_unknown, not_entitled}
use Rattle.model.specs.Sheets.{Answer, by_kind, by_pick, by_picks, answer}
use Rattle.model.specs.State.{State, draft_of, is_open}
use Rattle.model.proofs.DraftsOf.{changed_own, changed_other}
use Rattle.model.proofs.Marked.{at_push, at_push_cases, kept_from, kept_at, leads_mark, mark_leads, sign_at, passing_leads, leads_passing, lines_push, rooted_part, none_there}
use Rattle.model.proofs.Obeyed.{none_holds}
use Rattle.model.proofs.Rights.{right_pushed, right_pushed_other, right_withdrawn, right_withdrawn_other, key_marked}
use Rattle.model.proofs.Sounds.{sound_granted, sound_withdrawn}

-- neither account b nor below it
abbrev Untouched : List Mark → ℕ → ℕ → Type 0
Untouched ms b a = (a ≡ b → ⊥) × (Chain (lines_of ms) b a → ⊥)

untouched_up : (ms : List Mark) (b a at u : ℕ) → Untouched ms b a → Leads (lines_of ms) at u a → Untouched ms b u
untouched_up ms b a at u apart leads = (
  (λ (e : u ≡ b). apart.1 (one at (subst (λ x. Leads (lines_of ms) at x a) e leads))),
  (λ chain. apart.1 (snoc at chain leads)),
)

-- the line of a mark at a place, by the accounts
lead_by : (ms : List Mark) (i : ℕ) (m : Mark) (u a : ℕ) → At ms i m → m.from ≡ u → m.to ≡ a → u < 512 → a < 512 → Leads (lines_of ms) i u a
lead_by ms i m u a is from to u_account a_account =
    subst (λ x. Leads (lines_of ms) i u x) to
    (subst (λ x. Leads (lines_of ms) i x m.to) from
    (mark_leads ms i m is (omega arith) (omega arith)))

-- what picked lines alike decide
module _ (ms ms' : List Mark) (a : ℕ) where
  pick_alike : (o o' : Option ℕ) →
      ((o ≡ None) × (o' ≡ None))
      ⊎ ((i : ℕ) × (j : ℕ) × (u : ℕ) × (o ≡ Some i) × (o' ≡ Some j) × Leads (lines_of ms) i u a × Leads (lines_of ms') j u a × (signs_of ms i ≡ signs_of ms' j)) →
      by_pick ms o ≡ by_pick ms' o'
  pick_alike o o' (inl none) = ap (by_pick ms) none.0 ∙ sym (ap (by_pick ms') none.1)
  pick_alike o o' (inr (i, j, u, is, is', leads, leads', same)) =
      ap (by_pick ms) is
      ∙ ap (λ s. by_kind s.kind (from_of (get_or (lines_of ms) i None))) same
      ∙ ap (λ l. by_kind (signs_of ms' j).kind (from_of l)) (leads.line ∙ sym leads'.line)
      ∙ sym (ap (by_pick ms') is')

module _ (R : Ranking) (lawful : Lawful R) (x : DraftRecord) (known : x.policy < R.known) (ms ms' : List Mark) (sound : Sound x.owner ms) (no_circle' : NoCircle (lines_of ms')) where
  answers_alike : {In : ℕ → Type 0} → Alike (lines_of ms) (lines_of ms') (signs_of ms) (signs_of ms') In → (a : ℕ) → In a → answer R x ms a ≡ answer R x ms' a
  answers_alike alike a within =
      let picks = settled (lines_of ms) (signs_of ms) x.owner R x.policy in
      let picks' = settled (lines_of ms') (signs_of ms') x.owner R x.policy in
      ap {B = Answer} (λ o. cond (eqb a x.owner) (Permitted, Some a) o)
      (pick_alike ms ms' a (picks a) (picks' a) (settled_alike alike sound.no_circle sound.one_each x.owner R x.policy no_circle' lawful known a within))

-- one mark more
granted_alike : (ms : List Mark) (m : Mark) → Alike (lines_of ms) (lines_of (ms ++ m ∷ [])) (signs_of ms) (signs_of (ms ++ m ∷ [])) (Untouched ms m.to)
granted_alike ms m = record {
  up = λ a at u apart leads. untouched_up ms m.to a at u apart leads;
  there = λ a at u apart leads.
      let k = leads_mark ms at u a leads in
      (at, lines_push ms m at u a leads, sign_at ms at k.0 k.1 ∙ sym (sign_at (ms ++ m ∷ []) at k.0 (at_push ms m at k.0 k.1)));
  back = λ a at u apart leads.
      let k = leads_mark (ms ++ m ∷ []) at u a leads in
      ⊎_elim
      (λ is. (at, lead_by ms at k.0 u a is k.2 k.3 leads.from_account leads.to_account, sign_at ms at k.0 is ∙ sym (sign_at (ms ++ m ∷ []) at k.0 k.1)))
      (λ last. absurd (apart.0 (sym k.3 ∙ ap (λ y. y.to) last.1)))
      (at_push_cases ms m at k.0 k.1);
}

-- a mark taken out, and those that fall with it
module _ (owner c b : ℕ) (ms : List Mark) (sound : Sound owner ms) where
  abbrev rest : List Mark
  rest = unless c b ms

  -- a mark to an untouched account is not the one taken out
  stays : (a at u : ℕ) → Untouched ms b a → Leads (lines_of ms) at u a → (k : Mark) × (i : ℕ) × At ms at k × At rest i k × (k.from ≡ u) × (k.to ≡ a)
  stays a at u apart leads =
      let k = leads_mark ms at u a leads in
      let other : between c b k.0 ≡ false = and_right (eqb k.0.from c) (eqb k.0.to b) (ne_eqb k.0.to b (λ e. apart.0 (sym k.3 ∙ e))) in
      let f = kept_at (λ m. not (between c b m)) ms at k.0 k.1 (not_from_false (between c b k.0) other) in
      (k.0, f.0, k.1, f.1, k.2, k.3)

  passing_stays : (a at u : ℕ) → Untouched ms b a → Leads (passing_of ms) at u a → (i : ℕ) × Leads (passing_of rest) i u a
  passing_stays a at u apart passing =
      let p = passing_leads ms at u a passing in
      let k = stays a at u apart p.0 in
      let leads = lead_by rest k.1 k.0 u a k.3 k.4 k.5 p.0.from_account p.0.to_account in
      (k.1, leads_passing rest k.1 u a leads (ap (λ s. s.kind) (sign_at rest k.1 k.0 k.3 ∙ sym (sign_at ms at k.0 k.2)) ∙ p.1))

  chain_stays : {u a : ℕ} → Untouched ms b a → Chain (passing_of ms) u a → Chain (passing_of rest) u a × Untouched ms b u
  chain_stays {u} {a} apart (one at leads) =
      let f = passing_stays a at u apart leads in
      (one f.0 f.1, untouched_up ms b a at u apart (passing_leads ms at u a leads).0)
  chain_stays {u} {a} apart (on {c = v} at leads chain) =
      let r = chain_stays apart chain in
      let f = passing_stays v at u r.1 leads in
      (on f.0 f.1 r.0, untouched_up ms b v at u r.1 (passing_leads ms at u v leads).0)

  still_rooted_from : (a at u : ℕ) → Untouched ms b a → Leads (lines_of ms) at u a → rooted owner rest u ≡ true
  still_rooted_from a at u apart leads =
      ⊎_elim (λ (own : u ≡ owner). or_left (eqb u owner) (above (passing_of rest) owner u) (eq-eqb u owner own))
      (λ chain. or_right (eqb u owner) (above (passing_of rest) owner u) ((above_decides (passing_of rest) owner u).1 (chain_stays (untouched_up ms b a at u apart leads) chain).0))
      (sound.rooted at u a leads)

  withdrawn_alike : Alike (lines_of ms) (lines_of (rooted_part owner rest)) (signs_of ms) (signs_of (rooted_part owner rest)) (Untouched ms b)
  withdrawn_alike = record {
    up = λ a at u apart leads. untouched_up ms b a at u apart leads;
    there = λ a at u apart leads.
        let k = stays a at u apart leads in
        let f = kept_at (λ m. rooted owner rest m.from) rest k.1 k.0 k.3 (ap (rooted owner rest) k.4 ∙ still_rooted_from a at u apart leads) in (
          f.0,
          lead_by (rooted_part owner rest) f.0 k.0 u a f.1 k.4 k.5 leads.from_account leads.to_account,
          sign_at ms at k.0 k.2 ∙ sym (sign_at (rooted_part owner rest) f.0 k.0 f.1),
        );
    back = λ a at u apart leads.
        let k = leads_mark (rooted_part owner rest) at u a leads in
        let f = kept_from (λ m. rooted owner rest m.from) rest at k.0 k.1 in
        let g = kept_from (λ m. not (between c b m)) ms _ k.0 f.0 in (
          _,
          lead_by ms _ k.0 u a g.0 k.2 k.3 leads.from_account leads.to_account,
          sign_at ms _ k.0 g.0 ∙ sym (sign_at (rooted_part owner rest) at k.0 k.1),
        );
  }

-- both absent, or two records with the same owner and policy
abbrev SameDraft : Option DraftRecord → Option DraftRecord → Type 0
SameDraft o o' =
    ((o ≡ None) × (o' ≡ None))
    ⊎ ((x : DraftRecord) × (y : DraftRecord) × (o ≡ Some x) × (o' ≡ Some y) × (y.owner ≡ x.owner) × (y.policy ≡ x.policy))

same_draft : (o o' : Option DraftRecord) → o' ≡ o → SameDraft o o'
same_draft None o' is = inl (refl, is)
same_draft (Some x) o' is = inr (x, x, refl, is, refl, refl)

abbrev replied : Option ℕ → Answer → Reply
replied o t = elim o as (λ _. Reply) [ Some n ↦ refused n | None ↦ decided t ]

replied_same : (o : Option ℕ) (t t' : Answer) → (o ≡ None → t ≡ t') → replied o t ≡ replied o t'
replied_same (Some n) t t' same = refl
replied_same None t t' same = ap decided (same refl)

-- a request looks at the draft's owner and policy, and at the grants of its right
module _ (R : Ranking) (s s' : State) (d r a : ℕ) where
  -- the refusal of a request, by the record of its draft
  abbrev refused_by : Option DraftRecord → Option ℕ
  refused_by o = cond (ltb 511 a) (Some 1) (cond (ltb 7 r) (Some 2) (cond (draft_policy_unknown R o) (Some 4) (cond (not (is_some o)) (Some 6) None)))

  same_reply : SameDraft (draft_of d s) (draft_of d s') →
      ((x : DraftRecord) → draft_of d s ≡ Some x → x.policy < R.known → answer R x (of_right d r s.grants) a ≡ answer R x (of_right d r s'.grants) a) →
      reply R s (requesting d r a) ≡ reply R s' (requesting d r a)
  same_reply (inl none) same =
      ap (λ o. replied (refused_by o) (asked R s.grants d r a o)) none.0
      ∙ replied_same (refused_by None) _ _ (λ _. refl)
      ∙ sym (ap (λ o. replied (refused_by o) (asked R s'.grants d r a o)) none.1)
  same_reply (inr (x, y, is, is', owner, policy)) same =
      ap (λ o. replied (refused_by o) (asked R s.grants d r a o)) is
      ∙ replied_same (refused_by (Some x)) (answer R x (of_right d r s.grants) a) (answer R y (of_right d r s'.grants) a)
      (λ none.
      let rows = none_holds (refusal_table R s (requesting d r a)) (ap refused_by is ∙ none) in
      let known = leb-false R.known x.policy (sym (ap (draft_policy_unknown R) is) ∙ rows.1.1.1.0) in
      let marks' = of_right d r s'.grants in
      same x is known
      ∙ ap (λ o. by_picks o marks' (settled (lines_of marks') (signs_of marks') o R x.policy) a) (sym owner)
      ∙ ap (λ p. by_picks y.owner marks' (settled (lines_of marks') (signs_of marks') y.owner R p) a) (sym policy))
      ∙ ap (λ p. replied (cond (ltb 511 a) (Some 1) (cond (ltb 7 r) (Some 2) (cond (leb R.known p) (Some 4) None))) (answer R y (of_right d r s'.grants) a)) (sym policy)
      ∙ sym (ap (λ o. replied (refused_by o) (asked R s'.grants d r a o)) is')

-- a call leaves all as it was, or is obeyed
next_cases : (Q : Ranking) (s : State) (c : Call) → (s ≡ next Q s c) ⊎ ((refusal Q s c ≡ None) × (left s c ≡ next Q s c))
next_cases Q s c =
    elim (refusal Q s c) as (λ o. (s ≡ elim o as (λ _. State) [ Some n ↦ s | None ↦ left s c ]) ⊎ ((o ≡ None) × (left s c ≡ elim o as (λ _. State) [ Some n ↦ s | None ↦ left s c ]))) [
      | Some n ↦ inl refl
      | None ↦ inr (refl, refl)
    ]

opened : (d : ℕ) (s : State) → not (is_open d s) ≡ false → (x : DraftRecord) × (draft_of d s ≡ Some x)
opened d s there =
    elim (draft_of d s) as (λ o. not (is_some o) ≡ false → (x : DraftRecord) × (o ≡ Some x)) [
      | Some x ↦ λ _. (x, refl)
      | None ↦ λ e. absurd (true≢false e)
    ] there

-- the account is touched, or it is not
touched_cases : (ms : List Mark) (b a : ℕ) → ((a ≡ b) ⊎ Chain (lines_of ms) b a) ⊎ Untouched ms b a
touched_cases ms b a =
    ⊎_elim (λ same. inl (inl same))
    (λ other.
    ⊎_elim (λ is. inl (inr ((above_decides (lines_of ms) b a).0 is)))
    (λ no_chain. inr (other, (λ chain. true≢false (sym ((above_decides (lines_of ms) b a).1 chain) ∙ no_chain))))
    (cases_Bool (above (lines_of ms) b a)))
    (cases_eq a b)

-- the reply to a request, before and after the change, or the account is touched
abbrev LocalAt : State → State → ℕ → Ranking → ℕ → ℕ → ℕ → Type 0
LocalAt s s' b R a d r =
    (reply R s (requesting d r a) ≡ reply R s' (requesting d r a))
    ⊎ ((a ≡ b) ⊎ Chain (lines_of (of_right d r s.grants)) b a)

module _ (Q : Ranking) (s : State) (sound : SoundThroughout s) (R : Ranking) (lawful : Lawful R) (a : ℕ) where
  -- a grant
  module _ (d r c b k : ℕ) (none : refusal Q s (granting d r c b k) ≡ None) where
    abbrev marks : List Mark
    marks = of_right d r s.grants

    abbrev given : GrantRecord
    given = record { draft = d; right = r; grantor = c; account = b; kind = kind_of k; serial = next_serial (draft_of d s) }

    abbrev granted_state : State
    granted_state = left s (granting d r c b k)

    granted_open : (x : DraftRecord) × (draft_of d s ≡ Some x)
    granted_open = opened d s (none_holds (refusal_table Q s (granting d r c b k)) none).1.1.1.1.1.0

    granted_sound : (x : DraftRecord) → draft_of d s ≡ Some x → Sound x.owner (marks ++ mark_of given ∷ [])
    granted_sound x is =
        let rows = none_holds (refusal_table Q s (granting d r c b k)) none in
        let accounts = or_parts (ltb 511 c) (ltb 511 b) rows.0 in
        let late = rows.1.1.1.1.1.1.1.1.1.1 in
        let apart = or_parts (eqb b c) (above (lines_of marks) b c) late.1.1.0 in
        sound_granted x.owner marks (mark_of given) (sound d r x is)
        (omega (arith, ltb-false 511 c accounts.0))
        (omega (arith, ltb-false 511 b accounts.1))
        (not-false (entitled x.owner marks c) (sym (ap (not_entitled marks c) is) ∙ late.0))
        (none_there (first (between c b) marks) (sym (key_marked d r c b s.grants) ∙ late.1.0))
        (eqb-false b c apart.0)
        apart.1

    granted_draft : (e : ℕ) → SameDraft (draft_of e s) (draft_of e granted_state)
    granted_draft e =
        let x = granted_open.0 in
        let is = granted_open.1 in
        let y : DraftRecord = record { draft = x.draft; owner = x.owner; policy = x.policy; cells = x.cells; last = x.last + 1 } in
        let changed : draft_of e granted_state ≡ first (by_draft e) (replaced (by_draft d) y s.drafts) = ap (λ o. first (by_draft e) (with_serial d o s.drafts)) is in
        ⊎_elim
        (λ (own : e ≡ d).
        inr (x, y, ap (λ n. draft_of n s) own ∙ is, changed ∙ ap (λ n. first (by_draft n) (replaced (by_draft d) y s.drafts)) own ∙ changed_own d x y s.drafts is refl, refl, refl))
        (λ other. same_draft (draft_of e s) (draft_of e granted_state) (changed ∙ changed_other d e x y s.drafts other is refl))
        (cases_eq e d)

    granted_here : LocalAt s granted_state b R a d r
    granted_here =
        ⊎_elim inr
        (λ (apart : Untouched marks b a).
        inl (same_reply R s granted_state d r a (granted_draft d)
        (λ x is known.
        answers_alike R lawful x known marks (marks ++ mark_of given ∷ []) (sound d r x is) (granted_sound x is).no_circle (granted_alike marks (mark_of given)) a apart
        ∙ ap (λ ms. answer R x ms a) (sym (right_pushed d r s.grants given (and_from (eqb d d) (eqb r r) (eq-eqb d d refl) (eq-eqb r r refl)))))))
        (touched_cases marks b a)

    granted_elsewhere : (e q : ℕ) → ((e ≡ d) × (q ≡ r) → ⊥) → reply R s (requesting e q a) ≡ reply R granted_state (requesting e q a)
    granted_elsewhere e q other =
        let elsewhere : on_right e q given ≡ false
        = ⊎_elim (λ (own : e ≡ d). and_right (eqb d e) (eqb r q) (ne_eqb r q (λ w. other (own, sym w))))
        (λ apart. and_left (eqb d e) (eqb r q) (ne_eqb d e (λ w. apart (sym w))))
        (cases_eq e d) in
        same_reply R s granted_state e q a (granted_draft e) (λ x is known. ap (λ ms. answer R x ms a) (sym (right_pushed_other e q s.grants given elsewhere)))

  -- a withdrawal
  module _ (d r c b : ℕ) (none : refusal Q s (withdrawing d r c b) ≡ None) where
    abbrev withdrawn_state : State
    withdrawn_state = left s (withdrawing d r c b)

    withdrawn_open : (x : DraftRecord) × (draft_of d s ≡ Some x)
    withdrawn_open = opened d s (none_holds (refusal_table Q s (withdrawing d r c b)) none).1.1.1.1.1.0

    withdrawn_right : (x : DraftRecord) → draft_of d s ≡ Some x → (e q : ℕ) → of_right e q withdrawn_state.grants ≡ of_right e q (still_rooted d r x.owner (without (key_of d r c b) s.grants))
    withdrawn_right x is e q = ap (λ o. of_right e q (left_standing s.grants d r c b o)) is

    withdrawn_here : LocalAt s withdrawn_state b R a d r
    withdrawn_here =
        let ms = of_right d r s.grants in
        ⊎_elim inr
        (λ (apart : Untouched ms b a).
        inl (same_reply R s withdrawn_state d r a (same_draft (draft_of d s) (draft_of d s) refl)
        (λ x is known.
        answers_alike R lawful x known ms (rooted_part x.owner (unless c b ms)) (sound d r x is) (sound_withdrawn x.owner c b ms (sound d r x is)).no_circle (withdrawn_alike x.owner c b ms (sound d r x is)) a apart
        ∙ ap (λ ms. answer R x ms a) (sym (withdrawn_right x is d r ∙ right_withdrawn d r c b x.owner s.grants)))))
        (touched_cases ms b a)

    withdrawn_elsewhere : (e q : ℕ) → ((e ≡ d) × (q ≡ r) → ⊥) → reply R s (requesting e q a) ≡ reply R withdrawn_state (requesting e q a)
    withdrawn_elsewhere e q other =
        let y = withdrawn_open.0 in
        same_reply R s withdrawn_state e q a (same_draft (draft_of e s) (draft_of e s) refl)
        (λ x is known. ap (λ ms. answer R x ms a) (sym (withdrawn_right y withdrawn_open.1 e q ∙ right_withdrawn_other d r c b y.owner e q other s.grants)))

-- where the request is on the draft and right of the change, and where it is not
module _ (s s' : State) (b : ℕ) (R : Ranking) (a d r : ℕ) where
  local_by : LocalAt s s' b R a d r → ((e q : ℕ) → ((e ≡ d) × (q ≡ r) → ⊥) → reply R s (requesting e q a) ≡ reply R s' (requesting e q a)) → (e q : ℕ) →
      (reply R s (requesting e q a) ≡ reply R s' (requesting e q a))
      ⊎ ((x : ℕ) × ((e ≡ d) × (q ≡ r) × (x ≡ b)) × ((a ≡ x) ⊎ Chain (lines_of (of_right e q s.grants)) x a))
  local_by here elsewhere e q =
      ⊎_elim
      (λ (own : e ≡ d).
      ⊎_elim
      (λ (same : q ≡ r).
      ⊎_elim inl (λ touched. inr (b, (own, same, refl), touched))
      (subst (λ z. LocalAt s s' b R a e z) (sym same) (subst (λ z. LocalAt s s' b R a z r) (sym own) here)))
      (λ (other : q ≡ r → ⊥). inl (elsewhere e q (λ both. other both.1)))
      (cases_eq q r))
      (λ (other : e ≡ d → ⊥). inl (elsewhere e q (λ both. other both.0)))
      (cases_eq e d)

local_for : (Q : Ranking) (s : State) → SoundThroughout s → (c : Call) → IsChange c → (R : Ranking) → Lawful R → (d r a : ℕ) →
    (reply R s (requesting d r a) ≡ reply R (next Q s c) (requesting d r a))
    ⊎ ((b : ℕ) × Names c d r b × ((a ≡ b) ⊎ Chain (lines_of (of_right d r s.grants)) b a))
local_for Q s sound (opening d o p c) change R lawful e q x = absurd change
local_for Q s sound (closing d a) change R lawful e q x = absurd change
local_for Q s sound (granting d r c b k) change R lawful e q x =
    ⊎_elim (λ same. inl (ap (λ t. reply R t (requesting e q x)) same))
    (λ obeyed.
    ⊎_elim (λ same. inl (same ∙ ap (λ t. reply R t (requesting e q x)) obeyed.1)) inr
    (local_by s (left s (granting d r c b k)) b R x d r (granted_here Q s sound R lawful x d r c b k obeyed.0) (granted_elsewhere Q s sound R lawful x d r c b k obeyed.0) e q))
    (next_cases Q s (granting d r c b k))
local_for Q s sound (withdrawing d r c b) change R lawful e q x =
    ⊎_elim (λ same. inl (ap (λ t. reply R t (requesting e q x)) same))
    (λ obeyed.
    ⊎_elim (λ same. inl (same ∙ ap (λ t. reply R t (requesting e q x)) obeyed.1)) inr
    (local_by s (left s (withdrawing d r c b)) b R x d r (withdrawn_here Q s sound R lawful x d r c b obeyed.0) (withdrawn_elsewhere Q s sound R lawful x d r c b obeyed.0) e q))
    (next_cases Q s (withdrawing d r c b))
local_for Q s sound (policing d a p) change R lawful e q x = absurd change
local_for Q s sound (requesting d r a) change R lawful e q x = absurd change
local_for Q s sound (listing d r b) change R lawful e q x = absurd change

pub changes_locally : (s : State) → SoundThroughout s → ChangesLocally s
changes_locally s sound m change R lawful d r a = local_for m.ranking s sound m.call change R lawful d r a
