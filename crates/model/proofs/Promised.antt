-- What grants and withdrawals promise of consistency holds on every sound state. Assumes nothing.
use Rattle.std.proofs.Common.{◌≡◌, ℕ, ◌+◌, ◌<◌, Bool, true, false, cond, not, ◌||◌, eqb, ltb, ◌⊎◌, List, is_some, Some, None, count_by, Option, sym, refl, ap, ◌∙◌, subst, inl, inr, arith}
use Rattle.std.proofs.lemmas.Bool.{true≢false, not-true, not-false, le-ltb, or_from}
use Rattle.table.specs.Used.{first}
use Rattle.charts.specs.declared.views.Mark.{Mark}
use Rattle.charts.specs.Reaching.{above}
use Rattle.rulings.specs.Ranking.{Ranking}
use Rattle.model.specs.declared.records.DraftRecord.{DraftRecord}
use Rattle.model.specs.Calls.{Reply}
use Rattle.model.specs.Calls.Call.{granting, withdrawing}
use Rattle.model.specs.Calls.Reply.{refused, granted, withdrawn}
use Rattle.model.specs.Consistent.{Consistent, LargestRest}
use Rattle.model.specs.Delegation.{lines_of, entitled, unless}
use Rattle.model.specs.Grants.{is_on_draft, of_right, key_of}
use Rattle.model.specs.Keys.{by_grant}
use Rattle.model.specs.Law.{SoundThroughout}
use Rattle.model.specs.Meaning.{kind_of, next_serial, left_standing, told, left, reply, next}
use Rattle.model.specs.Promises.{NotStanding, with_grant, ForConsistency, RefusedToStayConsistent, LeavesLargestRest}
use Rattle.model.specs.Refusals.{refusal, refusal_table, not_entitled, full, spent}
use Rattle.model.specs.State.{State, draft_of, is_open}
use Rattle.model.proofs.Consistency.{breaks, keeps, largest_rest}
use Rattle.model.proofs.Obeyed.{none_holds}
use Rattle.model.proofs.Rights.{key_marked, right_withdrawn}

-- the rows that may hold for a grant with numbers in range on an open draft
abbrev late : Bool → Bool → Bool → Bool → Bool → Option ℕ
late t u v w z = cond t (Some 11) (cond u (Some 12) (cond v (Some 13) (cond w (Some 14) (cond z (Some 15) None))))

-- it is refused for the sake of consistency exactly where the case of one of the first three holds
module _ (serial : ℕ) where
  abbrev replied : Option ℕ → Reply
  replied o = elim o as (λ _. Reply) [ Some n ↦ refused n | None ↦ granted serial ]

  -- any other refusal has a higher number
  later : (w z : Bool) (n : ℕ) → replied (late false false false w z) ≡ refused n → 13 < n
  later true z n e = let is : 14 ≡ n = cc in omega arith
  later false true n e = let is : 15 ≡ n = cc in omega arith
  later false false n e = let z : ◌≡◌ {A = ℕ} 0 1 = cc in absurd (omega arith)

  late_holds : (t u v w z : Bool) → ForConsistency (replied (late t u v w z)) → (t ≡ true) ⊎ ((u ≡ true) ⊎ (v ≡ true))
  late_holds true u v w z is = inl refl
  late_holds false true v w z is = inr (inl refl)
  late_holds false false true w z is = inr (inr refl)
  late_holds false false false w z (inl e) = absurd (omega (arith, later w z 11 e))
  late_holds false false false w z (inr (inl e)) = absurd (omega (arith, later w z 12 e))
  late_holds false false false w z (inr (inr e)) = absurd (omega (arith, later w z 13 e))

  late_refused : (t u v w z : Bool) → (t ≡ false → u ≡ false → v ≡ false → ⊥) → ForConsistency (replied (late t u v w z))
  late_refused true u v w z some = inl refl
  late_refused false true v w z some = inr (inl refl)
  late_refused false false true w z some = inr (inr refl)
  late_refused false false false w z some = absurd (some refl refl refl)

-- where the cases of the rows above them do not hold, they decide
early_passed : (t u v w : Bool) (o : Option ℕ) → t ≡ false → u ≡ false → v ≡ false → w ≡ false → o ≡ cond t (Some 1) (cond u (Some 2) (cond v (Some 3) (cond w (Some 6) o)))
early_passed t u v w o p q r s = rw (p, q, r, s) refl

module _ (R : Ranking) (s : State) (sound : SoundThroughout s) (d r : ℕ) where
  abbrev marks : List Mark
  marks = of_right d r s.grants

  -- a grant with numbers in range on an open draft
  module _ (c a k : ℕ) (x : DraftRecord) (found : draft_of d s ≡ Some x) (c_account : c < 512) (a_account : a < 512) (right : r < 8) (kind : k < 3) where
    abbrev given : Mark
    given = record { from = c; to = a; kind = kind_of k; serial = x.last + 1 }

    -- the cases of the late rows
    abbrev stands : Bool
    stands = is_some (first (by_grant (key_of d r c a)) s.grants)

    abbrev circle : Bool
    circle = eqb a c || above (lines_of marks) a c

    abbrev no_room : Bool
    no_room = full (count_by (is_on_draft d) s.grants) (draft_of d s)

    abbrev by_late_rows : Option ℕ
    by_late_rows = late (not_entitled marks c (draft_of d s)) stands circle no_room (spent (draft_of d s))

    -- no row above them holds
    late_rows : by_late_rows ≡ refusal R s (granting d r c a k)
    late_rows =
        early_passed (ltb 511 c || ltb 511 a) (ltb 7 r) (ltb 2 k) (not (is_open d s)) by_late_rows
        (or_from (ltb 511 c) (ltb 511 a) (le-ltb 511 c (omega arith)) (le-ltb 511 a (omega arith)))
        (le-ltb 7 r (omega arith))
        (le-ltb 2 k (omega arith))
        (ap (λ o. not (is_some o)) found)

    abbrev SoReplied : Option ℕ → Type 0
    SoReplied o = ForConsistency (replied (next_serial (draft_of d s)) o)

    breaks_so : NotStanding marks c a k → ForConsistency (reply R s (granting d r c a k)) → Consistent x.owner (with_grant marks c a k (x.last + 1)) → ⊥
    breaks_so new is =
        breaks x.owner marks given (sound d r x found) c_account a_account
        (elim (late_holds (next_serial (draft_of d s)) (not_entitled marks c (draft_of d s)) stands circle no_room (spent (draft_of d s)) (subst SoReplied (sym late_rows) is)) [
          | inl may_not ↦ inl (not-true (entitled x.owner marks c) (sym (ap (not_entitled marks c) found) ∙ may_not))
          | inr (inl there) ↦ inr (inl (sym (key_marked d r c a s.grants) ∙ there))
          | inr (inr around) ↦ inr (inr around)
        ])
        new

    refused_so : (Consistent x.owner (with_grant marks c a k (x.last + 1)) → ⊥) → ForConsistency (reply R s (granting d r c a k))
    refused_so not_consistent =
        subst SoReplied late_rows
        (late_refused (next_serial (draft_of d s)) (not_entitled marks c (draft_of d s)) stands circle no_room (spent (draft_of d s))
        (λ may new free.
        not_consistent (keeps x.owner marks given (sound d r x found) c_account a_account
        (not-false (entitled x.owner marks c) (sym (ap (not_entitled marks c) found) ∙ may))
        (sym (key_marked d r c a s.grants) ∙ new)
        free)))

pub refused_to_stay_consistent : (R : Ranking) (s : State) → SoundThroughout s → (d r c a k : ℕ) → RefusedToStayConsistent s d r c a k (reply R s (granting d r c a k))
refused_to_stay_consistent R s sound d r c a k x found c_account a_account right kind new = (
  breaks_so R s sound d r c a k x found c_account a_account right kind new,
  refused_so R s sound d r c a k x found c_account a_account right kind,
)

-- an obeyed withdrawal
module _ (R : Ranking) (s : State) (sound : SoundThroughout s) (d r c a : ℕ) where
  abbrev RestIn : State → Type 0
  RestIn t = (x : DraftRecord) × (draft_of d s ≡ Some x) × LargestRest x.owner (unless c a (of_right d r s.grants)) (of_right d r t.grants)

  obeyed_by : (o : Option DraftRecord) → draft_of d s ≡ o → not (is_some o) ≡ false → RestIn (left s (withdrawing d r c a))
  obeyed_by None found there = absurd (true≢false there)
  obeyed_by (Some x) found there = (
    x,
    found,
    subst (LargestRest x.owner (unless c a (of_right d r s.grants)))
        (sym (ap (λ o. of_right d r (left_standing s.grants d r c a o)) found ∙ right_withdrawn d r c a x.owner s.grants))
        (largest_rest x.owner c a (of_right d r s.grants) (sound d r x found)),
  )

  refused_or : (o : Option ℕ) → refusal R s (withdrawing d r c a) ≡ o → (n : ℕ) →
      elim o as (λ _. Reply) [ Some n ↦ refused n | None ↦ told R s (withdrawing d r c a) ] ≡ withdrawn n →
      RestIn (elim o as (λ _. State) [ Some n ↦ s | None ↦ left s (withdrawing d r c a) ])
  refused_or (Some m) case n is = let z : ◌≡◌ {A = ℕ} 0 1 = cc in absurd (omega arith)
  refused_or None case n is =
      let rows = none_holds (refusal_table R s (withdrawing d r c a)) case in
      obeyed_by (draft_of d s) refl rows.1.1.1.1.1.0

pub leaves_largest_rest : (R : Ranking) (s : State) → SoundThroughout s → (d r c a : ℕ) → LeavesLargestRest s (next R s (withdrawing d r c a)) d r c a (reply R s (withdrawing d r c a))
leaves_largest_rest R s sound d r c a n is = refused_or R s sound d r c a (refusal R s (withdrawing d r c a)) refl n is
