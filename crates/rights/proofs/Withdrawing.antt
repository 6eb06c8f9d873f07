-- A withdrawal that no row refuses. Assumes nothing.
use Rattle.std.proofs.Common.{◌≡◌, ℕ, ◌+◌, ◌<◌, ◌≤◌, Bool, true, false, not, ◌&&◌, ◌||◌, cond, eqb, ltb, List, length, take, set, Some, None, Decides, filter, position, unwrap_or, sym, refl, ap, ◌∙◌, subst, ⊎_elim, arith}
use Rattle.std.proofs.lemmas.List.Elements.{filter_agree}
use Rattle.std.specs.List.{position_or_len}
use Rattle.std.proofs.lemmas.List.{take_all, length-take}
use Rattle.std.proofs.lemmas.List.Folds.{length-prefix_len}
use Rattle.std.proofs.lemmas.List.Sums.{fails_before_first, passes_at_first}
use Rattle.std.proofs.lemmas.Bool.{cases_Bool, cases_lt, and_cases, and_left, and_right, and_from, not_from_false}
use Rattle.charts.specs.declared.views.Mark.{Mark}
use Rattle.charts.specs.Chains.{Chain}
use Rattle.charts.specs.Reaching.{above}
use Rattle.charts.specs.Views.{passing}
use Rattle.rulings.specs.House.{house}
use Rattle.rulings.specs.Ranking.{Ranking}
use Rattle.model.specs.declared.records.DraftRecord.{DraftRecord}
use Rattle.model.specs.declared.records.GrantKey.{GrantKey}
use Rattle.model.specs.declared.records.GrantRecord.{GrantRecord}
use Rattle.model.specs.Delegation.{At, lines_of, signs_of, passing_of, between, rooted, unless}
use Rattle.model.specs.Grants.{on_right, of_right, key_of, without, still_rooted}
use Rattle.model.specs.Keys.{by_grant}
use Rattle.model.specs.Calls.Call.{withdrawing}
use Rattle.model.specs.Calls.Reply.{withdrawn}
use Rattle.model.specs.Meaning.{left_standing, reply, next}
use Rattle.model.specs.Promises.{LeavesLargestRest}
use Rattle.model.specs.Refusals.{refusal}
use Rattle.model.specs.State.{state, draft_of}
use Rattle.model.proofs.Kept.{kept_twice}
use Rattle.model.proofs.Obeyed.{obeyed_reply, obeyed_next}
use Rattle.model.proofs.Promised.{leaves_largest_rest}
use Rattle.model.proofs.Rights.{right_without}
use Rattle.model.proofs.States.{same_state}
use Rattle.model.proofs.Withdrawal.{place_decides, without_above}
use Rattle.table.specs.Used.{used, room}
use Rattle.rights.specs.declared.register.Register.{Register}
use Rattle.rights.specs.Contents.{contents}
use Rattle.rights.specs.Withdrawing.{stays_with}
use Rattle.rights.proofs.Firsts.{at_read, none_past}
use Rattle.rights.proofs.Registers.{sound_throughout}

-- the place of the first that passes, or else the end
module _ {X : Type 0} (p : X → Bool) (xs : List X) where
  place_or_end : unwrap_or (position p xs) (length xs) ≡ position_or_len p xs
  place_or_end =
      let n = position_or_len p xs in
      elim (ltb n (length xs)) as (λ b. ltb n (length xs) ≡ b → unwrap_or (cond b (Some n) None) (length xs) ≡ n) [
        | true ↦ λ _. refl
        | false ↦ λ past. grind (arith, past, length-prefix_len (λ x. not (p x)) xs, length-take n xs)
      ] refl

  fails_before : (k : ℕ) (x : X) → k < position_or_len p xs → At xs k x → p x ≡ false
  fails_before k x below there =
      ⊎_elim
      (λ (within : k < length xs). ap p (at_read xs k x x within there) ∙ fails_before_first p xs k x below)
      (λ past. absurd (none_past xs k x past there))
      (cases_lt k (length xs))

  passes_there : (x : X) → At xs (position_or_len p xs) x → p x ≡ true
  passes_there x there =
      let n = position_or_len p xs in
      ⊎_elim
      (λ (within : n < length xs). ap p (at_read xs n x x within there) ∙ passes_at_first p xs x within)
      (λ past. absurd (none_past xs n x past there))
      (cases_lt n (length xs))

-- the search without the line of the withdrawn grant
pub reached_without : (was : Register) (d r c a : ℕ) (x : DraftRecord) → draft_of d (contents was) ≡ Some x →
    (marks : List Mark) → marks ≡ of_right d r (used was.grants) → length marks ≤ 4096 → (at : ℕ) → at ≡ unwrap_or (position (between c a) marks) (length marks) →
    (b : Bool) (y : ℕ) → Decides b (Chain (passing (signs_of (take 4096 marks)) (set (lines_of (take 4096 marks)) at None)) x.owner y) →
    b ≡ above (passing_of (unless c a (of_right d r (used was.grants)))) x.owner y
reached_without was d r c a x found marks is few at place b y decides =
    let ms = of_right d r (used was.grants) in
    let first = place ∙ place_or_end (between c a) marks ∙ ap (position_or_len (between c a)) is in
    without_above x.owner c a at ms
    (place_decides x.owner c a at ms (sound_throughout was d r x found)
    (λ k m below. fails_before (between c a) ms k m (omega (arith, first)))
    (λ m there. passes_there (between c a) ms m (subst (λ k. At ms k m) first there)))
    b y
    (subst (λ (q : List Mark). Decides b (Chain (passing (signs_of q) (set (lines_of q) at None)) x.owner y)) (take_all 4096 marks few ∙ is) decides)

-- a grant of another draft or right has another key
other_key : (k : GrantKey) (g : GrantRecord) → on_right k.draft k.right g ≡ false → by_grant k g ≡ false
other_key k g off =
    ⊎_elim
    (λ draft. and_left (eqb g.draft k.draft) _ draft)
    (λ right. and_right (eqb g.draft k.draft) _ (and_left (eqb g.right k.right) _ right))
    (and_cases (eqb g.draft k.draft) (eqb g.right k.right) off)

same_rule : (k : GrantKey) (may : ℕ → Bool) (g : GrantRecord) → stays_with k may g ≡ (not (by_grant k g) && (not (on_right k.draft k.right g) || may g.grantor))
same_rule k may g =
    ⊎_elim
    (λ (here : on_right k.draft k.right g ≡ true).
    ap (λ t. not t || (not (by_grant k g) && may g.grantor)) here
    ∙ sym (ap (λ t. not (by_grant k g) && (not t || may g.grantor)) here))
    (λ (off : on_right k.draft k.right g ≡ false).
    ap (λ t. not t || (not (by_grant k g) && may g.grantor)) off
    ∙ sym (and_from (not (by_grant k g)) _ (not_from_false (by_grant k g) (other_key k g off)) (ap (λ t. not t || may g.grantor) off)))
    (cases_Bool (on_right k.draft k.right g))

-- what the rule keeps is what a withdrawal leaves
pub kept_rooted : (d r c a owner : ℕ) (grants : List GrantRecord) (may : ℕ → Bool) → ((b : ℕ) → may b ≡ rooted owner (unless c a (of_right d r grants)) b) →
    filter (stays_with (key_of d r c a) may) grants ≡ still_rooted d r owner (without (key_of d r c a) grants)
kept_rooted d r c a owner grants may is =
    let key = key_of d r c a in
    filter_agree (stays_with key may) (λ g. not (by_grant key g) && (not (on_right d r g) || rooted owner (of_right d r (without key grants)) g.grantor))
    (λ g.
    same_rule key may g
    ∙ ap (λ t. not (by_grant key g) && (not (on_right d r g) || t)) (is g.grantor ∙ ap (λ (ms : List Mark). rooted owner ms g.grantor) (sym (right_without d r c a grants))))
    grants
    ∙ sym (kept_twice (λ g. not (on_right d r g) || rooted owner (of_right d r (without key grants)) g.grantor) (λ g. not (by_grant key g)) grants)

module _ (was : Register) (d r c a : ℕ) (x : DraftRecord) (found : draft_of d (contents was) ≡ Some x)
    (none : (R : Ranking) → None ≡ refusal R (contents was) (withdrawing d r c a))
    (reached : ℕ → Bool) (is_reached : (b : ℕ) → reached b ≡ above (passing_of (unless c a (of_right d r (used was.grants)))) x.owner b)
    (grants : List GrantRecord) (kept : grants ≡ filter (stays_with (key_of d r c a) (λ b. eqb b x.owner || reached b)) (used was.grants)) where
  left_are : grants ≡ left_standing (used was.grants) d r c a (draft_of d (contents was))
  left_are =
      kept
      ∙ kept_rooted d r c a x.owner (used was.grants) (λ b. eqb b x.owner || reached b) (λ b. ap (λ t. eqb b x.owner || t) (is_reached b))
      ∙ ap (left_standing (used was.grants) d r c a) (sym found)

  pub withdrawal_left : (cells : ℕ) → cells ≡ room was.grants → (R : Ranking) → state (room was.drafts) cells (used was.drafts) grants ≡ next R (contents was) (withdrawing d r c a)
  withdrawal_left cells as_many R =
      same_state refl as_many refl left_are ∙ obeyed_next R (contents was) (withdrawing d r c a) (sym (none R))

  pub withdrawal_told : (n : ℕ) → n + length grants ≡ length (used was.grants) → (R : Ranking) → withdrawn n ≡ reply R (contents was) (withdrawing d r c a)
  withdrawal_told n sum R =
      ap withdrawn (omega (arith, sum, ap length left_are)) ∙ obeyed_reply R (contents was) (withdrawing d r c a) (sym (none R))

  pub withdrawal_largest : (cells n : ℕ) → cells ≡ room was.grants → n + length grants ≡ length (used was.grants) →
      LeavesLargestRest (contents was) (state (room was.drafts) cells (used was.drafts) grants) d r c a (withdrawn n)
  withdrawal_largest cells n as_many sum =
      subst (λ said. LeavesLargestRest (contents was) (state (room was.drafts) cells (used was.drafts) grants) d r c a said) (sym (withdrawal_told n sum house))
      (subst (λ t. LeavesLargestRest (contents was) t d r c a (reply house (contents was) (withdrawing d r c a))) (sym (withdrawal_left cells as_many house))
      (leaves_largest_rest house (contents was) (sound_throughout was) d r c a))
