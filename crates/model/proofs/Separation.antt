-- Calls on one draft reply the same whatever is called on others, as long as there is room. Assumes nothing.
use Rattle.std.proofs.Common.{◌≡◌, ℕ, ◌+◌, ◌-◌, Bool, true, false, cond, not, ◌&&◌, ◌||◌, eqb, ltb, leb, List, [], ◌∷◌, ◌++◌, length, is_some, Some, None, count_by, filter, Option, sym, refl, ap, ◌∙◌, subst, inl, inr, arith}
use Rattle.std.proofs.lemmas.List.Elements.{filter-append}
use Rattle.std.proofs.lemmas.List.Filters.{length-filter_both}
use Rattle.std.proofs.lemmas.List.{append-nil}
use Rattle.std.proofs.lemmas.List.Sums.{length-filter}
use Rattle.std.proofs.lemmas.Bool.{true≢false, eqb-true, eqb-false, eq-eqb, ne_eqb, leb-false, ltb-false, lt-leb, le-ltb, and_parts, not-true, not_from_false, or_left, and_left}
use Rattle.table.specs.Used.{first, replaced}
use Rattle.rulings.specs.Ranking.{Ranking}
use Rattle.model.specs.declared.records.DraftRecord.{DraftRecord}
use Rattle.model.specs.declared.records.GrantRecord.{GrantRecord}
use Rattle.model.specs.Calls.{Call, Reply, draft_named}
use Rattle.model.specs.Calls.Call.{opening, closing, granting, withdrawing, policing, requesting, listing}
use Rattle.model.specs.Calls.Reply.{refused, done, closed, granted, withdrawn, decided}
use Rattle.model.specs.Delegation.{rooted}
use Rattle.model.specs.Grants.{is_on_draft, on_right, of_right, key_of, without, still_rooted}
use Rattle.model.specs.History.{History, reply_to, after, replies}
use Rattle.model.specs.Keys.{by_draft, by_grant}
use Rattle.model.specs.Law.{only, replies_on, WantsRoom, Roomy}
use Rattle.model.specs.Meaning.{kind_of, next_serial, left_standing, asked, sheet_of, written, told, with_policy, with_serial, left, reply, next}
use Rattle.model.specs.Refusals.{refusal, topmost}
use Rattle.model.specs.Sheets.{answer, sheet}
use Rattle.model.specs.State.{State, state, empty, draft_of, reserved}
use Rattle.model.proofs.DraftsOf.{found_draft, opened_own, opened_other, closed_own, closed_other, changed_own, changed_other}
use Rattle.model.proofs.Kept.{kept_swap, kept_implied, first_kept}
use Rattle.model.proofs.Obeyed.{opening_new}
use Rattle.model.proofs.Rights.{right_of_draft}
use Rattle.model.proofs.States.{same_state}

-- the draft, if it is open, as the only one
abbrev listed_of : Option DraftRecord → List DraftRecord
listed_of None = []
listed_of (Some x) = x ∷ []

-- what a state holds of one draft
abbrev pub on : ℕ → State → State
on d s = state s.places s.cells (listed_of (draft_of d s)) (filter (is_on_draft d) s.grants)

-- what a call on draft d looks at is the same in s and in t
record Like (d : ℕ) (s t : State) : Type 0 where
  found : draft_of d t ≡ draft_of d s
  marks : (r : ℕ) → of_right d r t.grants ≡ of_right d r s.grants
  count : count_by (is_on_draft d) t.grants ≡ count_by (is_on_draft d) s.grants
  key : (r c a : ℕ) → first (by_grant (key_of d r c a)) t.grants ≡ first (by_grant (key_of d r c a)) s.grants

found_listed : (d : ℕ) (o : Option DraftRecord) → ((x : DraftRecord) → o ≡ Some x → x.draft ≡ d) → first (by_draft d) (listed_of o) ≡ o
found_listed d None named = refl
found_listed d (Some x) named = ap (λ b. cond b (Some x) None) (eq-eqb x.draft d (named x refl))

like_on : (d : ℕ) (s : State) → Like d s (on d s)
like_on d s = record {
  found = found_listed d (draft_of d s) (λ x is. found_draft d s.drafts x is);
  marks = λ r. right_of_draft d r s.grants;
  count = sym (length-filter (is_on_draft d) (filter (is_on_draft d) s.grants)) ∙ ap length (kept_implied (is_on_draft d) (is_on_draft d) (λ _ is. is) s.grants) ∙ length-filter (is_on_draft d) s.grants;
  key = λ r c a. first_kept (by_grant (key_of d r c a)) (is_on_draft d) (λ g is. (and_parts (eqb g.draft d) (eqb g.right r && (eqb g.grantor c && eqb g.account a)) is).0) s.grants;
}

-- each call but an opening is refused alike
module _ (R : Ranking) (d : ℕ) (s t : State) (like : Like d s t) where
  refusal_closing : (a : ℕ) → refusal R t (closing d a) ≡ refusal R s (closing d a)
  refusal_closing a = rw like.found refl

  refusal_policing : (a p : ℕ) → refusal R t (policing d a p) ≡ refusal R s (policing d a p)
  refusal_policing a p = rw like.found refl

  refusal_requesting : (r a : ℕ) → refusal R t (requesting d r a) ≡ refusal R s (requesting d r a)
  refusal_requesting r a = rw like.found refl

  refusal_listing : (r : ℕ) (b : List ℕ) → refusal R t (listing d r b) ≡ refusal R s (listing d r b)
  refusal_listing r b = rw (like.found, like.marks r) refl

  refusal_withdrawing : (r c a : ℕ) → refusal R t (withdrawing d r c a) ≡ refusal R s (withdrawing d r c a)
  refusal_withdrawing r c a = rw (like.found, like.key r c a) refl

  refusal_granting : (r c a k : ℕ) → refusal R t (granting d r c a k) ≡ refusal R s (granting d r c a k)
  refusal_granting r c a k = rw (like.found, like.marks r, like.key r c a, like.count) refl

-- the rows that an opening may be refused by
abbrev opening_by : Bool → Bool → Bool → Bool → Bool → Bool → Option ℕ
opening_by b1 b4 b5 b7 b8 b9 = topmost ((1, b1) ∷ (4, b4) ∷ (5, b5) ∷ (7, b7) ∷ (8, b8) ∷ (9, b9) ∷ [])

-- those on room agree where there is room
same_rows : (b1 b4 b5 b7 b8 b9 c8 c9 : Bool) →
    (b7 ≡ false → b8 ≡ false → c8 ≡ false) → (b7 ≡ false → b9 ≡ false → c9 ≡ false) →
    (opening_by b1 b4 b5 b7 b8 b9 ≡ Some 8 → ⊥) → (opening_by b1 b4 b5 b7 b8 b9 ≡ Some 9 → ⊥) →
    opening_by b1 b4 b5 b7 c8 c9 ≡ opening_by b1 b4 b5 b7 b8 b9
same_rows true b4 b5 b7 b8 b9 c8 c9 place cells some_place some_cells = refl
same_rows false true b5 b7 b8 b9 c8 c9 place cells some_place some_cells = refl
same_rows false false true b7 b8 b9 c8 c9 place cells some_place some_cells = refl
same_rows false false false true b8 b9 c8 c9 place cells some_place some_cells = refl
same_rows false false false false true b9 c8 c9 place cells some_place some_cells = absurd (some_place refl)
same_rows false false false false false true c8 c9 place cells some_place some_cells = absurd (some_cells refl)
same_rows false false false false false false c8 c9 place cells some_place some_cells = rw (place refl refl, cells refl refl) refl

-- where there is room beside others, there is room alone
place_for_one : (o : Option DraftRecord) (places n : ℕ) → is_some o ≡ false → leb places n ≡ false → leb places (length (listed_of o)) ≡ false
place_for_one None places n new free = lt-leb places 0 (omega (arith, leb-false places n free))
place_for_one (Some x) places n new free = absurd (true≢false new)

cells_for_one : (o : Option DraftRecord) (cells n c : ℕ) → is_some o ≡ false → ltb cells (n + c) ≡ false → ltb cells (reserved (listed_of o) + c) ≡ false
cells_for_one None cells n c new free = le-ltb cells (0 + c) (omega (arith, ltb-false cells (n + c) free))
cells_for_one (Some x) cells n c new free = absurd (true≢false new)

refusal_opening : (R : Ranking) (d o p c : ℕ) (s : State) → (WantsRoom (opening d o p c) (reply R s (opening d o p c)) → ⊥) → refusal R (on d s) (opening d o p c) ≡ refusal R s (opening d o p c)
refusal_opening R d o p c s room =
    let known : is_some (draft_of d (on d s)) ≡ is_some (draft_of d s) = ap is_some (like_on d s).found in
    let says = λ (o' : Option ℕ). elim o' as (λ _. Reply) [ Some n ↦ refused n | None ↦ done ] in
    ap (λ b. opening_by (ltb 511 o) (leb R.known p) (eqb c 0 || ltb 1024 c) b (leb s.places (length (listed_of (draft_of d s)))) (ltb s.cells (reserved (listed_of (draft_of d s)) + c))) known
    ∙ same_rows (ltb 511 o) (leb R.known p) (eqb c 0 || ltb 1024 c) (is_some (draft_of d s))
    (leb s.places (length s.drafts)) (ltb s.cells (reserved s.drafts + c))
    (leb s.places (length (listed_of (draft_of d s)))) (ltb s.cells (reserved (listed_of (draft_of d s)) + c))
    (place_for_one (draft_of d s) s.places (length s.drafts))
    (cells_for_one (draft_of d s) s.cells (reserved s.drafts) c)
    (λ e. room (inl (ap says e)))
    (λ e. room (inr (ap says e)))

-- a call on its own draft is refused alike
refusal_on : (R : Ranking) (s : State) (c : Call) → (WantsRoom c (reply R s c) → ⊥) → refusal R (on (draft_named c) s) c ≡ refusal R s c
refusal_on R s (opening d o p c) room = refusal_opening R d o p c s room
refusal_on R s (closing d a) room = refusal_closing R d s (on d s) (like_on d s) a
refusal_on R s (granting d r c a k) room = refusal_granting R d s (on d s) (like_on d s) r c a k
refusal_on R s (withdrawing d r c a) room = refusal_withdrawing R d s (on d s) (like_on d s) r c a
refusal_on R s (policing d a p) room = refusal_policing R d s (on d s) (like_on d s) a p
refusal_on R s (requesting d r a) room = refusal_requesting R d s (on d s) (like_on d s) r a
refusal_on R s (listing d r b) room = refusal_listing R d s (on d s) (like_on d s) r b

-- what a withdrawal leaves of the grants of its draft
rooted_on : (d r owner : ℕ) (gs : List GrantRecord) → still_rooted d r owner (filter (is_on_draft d) gs) ≡ filter (is_on_draft d) (still_rooted d r owner gs)
rooted_on d r owner gs =
    ap (λ ms. filter (λ g. not (on_right d r g) || rooted owner ms g.grantor) (filter (is_on_draft d) gs)) (right_of_draft d r gs)
    ∙ kept_swap (λ g. not (on_right d r g) || rooted owner (of_right d r gs) g.grantor) (is_on_draft d) gs

standing_on : (gs : List GrantRecord) (d r c a : ℕ) (o : Option DraftRecord) → left_standing (filter (is_on_draft d) gs) d r c a o ≡ filter (is_on_draft d) (left_standing gs d r c a o)
standing_on gs d r c a None = refl
standing_on gs d r c a (Some x) =
    ap (still_rooted d r x.owner) (kept_swap (λ g. not (by_grant (key_of d r c a) g)) (is_on_draft d) gs)
    ∙ rooted_on d r x.owner (without (key_of d r c a) gs)

-- and of grants that are all on others, all
standing_off : (p : GrantRecord → Bool) (gs : List GrantRecord) (d r c a : ℕ) (o : Option DraftRecord) → ((g : GrantRecord) → p g ≡ true → is_on_draft d g ≡ false) → filter p (left_standing gs d r c a o) ≡ filter p gs
standing_off p gs d r c a None off = refl
standing_off p gs d r c a (Some x) off =
    let fewer = without (key_of d r c a) gs in
    kept_implied p (λ g. not (on_right d r g) || rooted x.owner (of_right d r fewer) g.grantor)
    (λ g is. or_left (not (on_right d r g)) (rooted x.owner (of_right d r fewer) g.grantor) (not_from_false (on_right d r g) (and_left (is_on_draft d g) (eqb g.right r) (off g is)))) fewer
    ∙ kept_implied p (λ g. not (by_grant (key_of d r c a) g))
    (λ g is. not_from_false (by_grant (key_of d r c a) g) (and_left (is_on_draft d g) (eqb g.right r && (eqb g.grantor c && eqb g.account a)) (off g is))) gs

-- as many fall among the grants of that draft as among all
fall_on : (gs : List GrantRecord) (d r c a : ℕ) (o : Option DraftRecord) →
    length (filter (is_on_draft d) gs) - length (left_standing (filter (is_on_draft d) gs) d r c a o) ≡ length gs - length (left_standing gs d r c a o)
fall_on gs d r c a o =
    let rest = left_standing gs d r c a o in
    let off = λ (g : GrantRecord). not (is_on_draft d g) in
    let all = length-filter_both (is_on_draft d) off (λ _. refl) gs in
    let some = length-filter_both (is_on_draft d) off (λ _. refl) rest in
    let others : length (filter off rest) ≡ length (filter off gs) = ap length (standing_off off gs d r c a o (λ g is. not-true (is_on_draft d g) is)) in
    let own : length (left_standing (filter (is_on_draft d) gs) d r c a o) ≡ length (filter (is_on_draft d) rest) = ap length (standing_on gs d r c a o) in
    omega (arith, all, some, others, own)

-- what an obeyed call on its own draft tells
asked_like : (R : Ranking) (gs hs : List GrantRecord) (d r a : ℕ) (o : Option DraftRecord) → of_right d r gs ≡ of_right d r hs → asked R gs d r a o ≡ asked R hs d r a o
asked_like R gs hs d r a None same = refl
asked_like R gs hs d r a (Some x) same = ap (λ ms. answer R x ms a) same

sheet_like : (R : Ranking) (gs hs : List GrantRecord) (d r : ℕ) (o : Option DraftRecord) → of_right d r gs ≡ of_right d r hs → sheet_of R gs d r o ≡ sheet_of R hs d r o
sheet_like R gs hs d r None same = refl
sheet_like R gs hs d r (Some x) same = ap (sheet R x) same

told_on : (R : Ranking) (s : State) (c : Call) → told R (on (draft_named c) s) c ≡ told R s c
told_on R s (opening d o p c) = refl
told_on R s (closing d a) = ap closed (like_on d s).count
told_on R s (granting d r c a k) = ap (λ o. granted (next_serial o)) (like_on d s).found
told_on R s (withdrawing d r c a) =
    ap (λ o. withdrawn (length (filter (is_on_draft d) s.grants) - length (left_standing (filter (is_on_draft d) s.grants) d r c a o))) (like_on d s).found
    ∙ ap withdrawn (fall_on s.grants d r c a (draft_of d s))
told_on R s (policing d a p) = refl
told_on R s (requesting d r a) =
    ap (λ o. decided (asked R (filter (is_on_draft d) s.grants) d r a o)) (like_on d s).found
    ∙ ap decided (asked_like R (filter (is_on_draft d) s.grants) s.grants d r a (draft_of d s) ((like_on d s).marks r))
told_on R s (listing d r b) =
    ap (λ o. written b (sheet_of R (filter (is_on_draft d) s.grants) d r o)) (like_on d s).found
    ∙ ap (written b) (sheet_like R (filter (is_on_draft d) s.grants) s.grants d r (draft_of d s) ((like_on d s).marks r))

reply_on : (R : Ranking) (s : State) (c : Call) → (WantsRoom c (reply R s c) → ⊥) → reply R (on (draft_named c) s) c ≡ reply R s c
reply_on R s c room =
    ap (λ (o : Option ℕ). elim o as (λ _. Reply) [ Some n ↦ refused n | None ↦ told R (on (draft_named c) s) c ]) (refusal_on R s c room)
    ∙ ap (λ (said : Reply). elim (refusal R s c) as (λ _. Reply) [ Some n ↦ refused n | None ↦ said ]) (told_on R s c)

-- what an obeyed call on its own draft leaves
changed_on : (d : ℕ) (x y : DraftRecord) (ds : List DraftRecord) → first (by_draft d) ds ≡ Some x → y.draft ≡ x.draft → replaced (by_draft d) y (x ∷ []) ≡ listed_of (first (by_draft d) (replaced (by_draft d) y ds))
changed_on d x y ds found same =
    ap (λ b. cond b (y ∷ []) (x ∷ [])) (eq-eqb x.draft d (found_draft d ds x found))
    ∙ sym (ap listed_of (changed_own d x y ds found same))

serial_on : (d : ℕ) (ds : List DraftRecord) (o : Option DraftRecord) → first (by_draft d) ds ≡ o → with_serial d o (listed_of o) ≡ listed_of (first (by_draft d) (with_serial d o ds))
serial_on d ds None absent = sym (ap listed_of absent)
serial_on d ds (Some x) found = changed_on d x (record { draft = x.draft; owner = x.owner; policy = x.policy; cells = x.cells; last = x.last + 1 }) ds found refl

policy_on : (d p : ℕ) (ds : List DraftRecord) (o : Option DraftRecord) → first (by_draft d) ds ≡ o → with_policy d p o (listed_of o) ≡ listed_of (first (by_draft d) (with_policy d p o ds))
policy_on d p ds None absent = sym (ap listed_of absent)
policy_on d p ds (Some x) found = changed_on d x (record { draft = x.draft; owner = x.owner; policy = p; cells = x.cells; last = x.last }) ds found refl

closed_on : (d : ℕ) (ds : List DraftRecord) (o : Option DraftRecord) → first (by_draft d) ds ≡ o → filter (λ x. not (by_draft d x)) (listed_of o) ≡ listed_of (first (by_draft d) (filter (λ x. not (by_draft d x)) ds))
closed_on d ds None absent = sym (ap listed_of (closed_own d ds))
closed_on d ds (Some x) found =
    ap (λ b. cond (not b) (x ∷ []) []) (eq-eqb x.draft d (found_draft d ds x found))
    ∙ sym (ap listed_of (closed_own d ds))

pushed_on : (d : ℕ) (gs : List GrantRecord) (g : GrantRecord) → g.draft ≡ d → filter (is_on_draft d) gs ++ g ∷ [] ≡ filter (is_on_draft d) (gs ++ g ∷ [])
pushed_on d gs g here =
    sym (filter-append (is_on_draft d) gs (g ∷ []) ∙ ap (λ b. filter (is_on_draft d) gs ++ cond b (g ∷ []) []) (eq-eqb g.draft d here))

left_on : (R : Ranking) (s : State) (c : Call) → refusal R s c ≡ None → left (on (draft_named c) s) c ≡ on (draft_named c) (left s c)
left_on R s (opening d o p c) obeyed =
    let x : DraftRecord = record { draft = d; owner = o; policy = p; cells = c; last = 0 } in
    let new = opening_new R s d o p c obeyed in
    same_state refl refl (ap (λ o'. listed_of o' ++ x ∷ []) new ∙ sym (ap listed_of (opened_own x s.drafts new))) refl
left_on R s (closing d a) obeyed =
    same_state refl refl (closed_on d s.drafts (draft_of d s) refl) (kept_swap (λ g. not (is_on_draft d g)) (is_on_draft d) s.grants)
left_on R s (granting d r c a k) obeyed =
    let grant : Option DraftRecord → GrantRecord = λ o. record { draft = d; right = r; grantor = c; account = a; kind = kind_of k; serial = next_serial o } in
    same_state refl refl
    (ap (λ o. with_serial d o (listed_of (draft_of d s))) (like_on d s).found ∙ serial_on d s.drafts (draft_of d s) refl)
    (ap (λ o. filter (is_on_draft d) s.grants ++ grant o ∷ []) (like_on d s).found ∙ pushed_on d s.grants (grant (draft_of d s)) refl)
left_on R s (withdrawing d r c a) obeyed =
    same_state refl refl refl
    (ap (left_standing (filter (is_on_draft d) s.grants) d r c a) (like_on d s).found ∙ standing_on s.grants d r c a (draft_of d s))
left_on R s (policing d a p) obeyed =
    same_state refl refl
    (ap (λ o. with_policy d p o (listed_of (draft_of d s))) (like_on d s).found ∙ policy_on d p s.drafts (draft_of d s) refl)
    refl
left_on R s (requesting d r a) obeyed = refl
left_on R s (listing d r b) obeyed = refl

next_on : (R : Ranking) (s : State) (c : Call) → (WantsRoom c (reply R s c) → ⊥) → next R (on (draft_named c) s) c ≡ on (draft_named c) (next R s c)
next_on R s c room = ap (λ (o : Option ℕ). elim o as (λ _. State) [ Some n ↦ t | None ↦ left t c ]) (refusal_on R s c room) ∙ each (refusal R s c) (left_on R s c)
  where
    t : State
    t = on (draft_named c) s

    each : (o : Option ℕ) → (o ≡ None → left t c ≡ on (draft_named c) (left s c)) → (elim o as (λ _. State) [ Some n ↦ t | None ↦ left t c ]) ≡ on (draft_named c) (elim o as (λ _. State) [ Some n ↦ s | None ↦ left s c ])
    each (Some n) same = refl
    each None same = same refl

-- an obeyed call on another draft leaves this one alone
module _ (d : ℕ) where
  serial_off : (e : ℕ) (ds : List DraftRecord) (o : Option DraftRecord) → (d ≡ e → ⊥) → first (by_draft e) ds ≡ o → first (by_draft d) (with_serial e o ds) ≡ first (by_draft d) ds
  serial_off e ds None other absent = refl
  serial_off e ds (Some x) other found = changed_other e d x (record { draft = x.draft; owner = x.owner; policy = x.policy; cells = x.cells; last = x.last + 1 }) ds other found refl

  policy_off : (e p : ℕ) (ds : List DraftRecord) (o : Option DraftRecord) → (d ≡ e → ⊥) → first (by_draft e) ds ≡ o → first (by_draft d) (with_policy e p o ds) ≡ first (by_draft d) ds
  policy_off e p ds None other absent = refl
  policy_off e p ds (Some x) other found = changed_other e d x (record { draft = x.draft; owner = x.owner; policy = p; cells = x.cells; last = x.last }) ds other found refl

  pushed_off : (gs : List GrantRecord) (g : GrantRecord) → (g.draft ≡ d → ⊥) → filter (is_on_draft d) (gs ++ g ∷ []) ≡ filter (is_on_draft d) gs
  pushed_off gs g other =
      filter-append (is_on_draft d) gs (g ∷ []) ∙ ap (λ b. filter (is_on_draft d) gs ++ cond b (g ∷ []) []) (ne_eqb g.draft d other) ∙ append-nil (filter (is_on_draft d) gs)

  -- a grant of this draft is on no other
  elsewhere : (e : ℕ) → (d ≡ e → ⊥) → (g : GrantRecord) → is_on_draft d g ≡ true → is_on_draft e g ≡ false
  elsewhere e other g is = ne_eqb g.draft e (λ same. other (sym (eqb-true g.draft d is) ∙ same))

  left_off : (s : State) (c : Call) → (draft_named c ≡ d → ⊥) → on d (left s c) ≡ on d s
  left_off s (opening e o p c) other =
      same_state refl refl (ap listed_of (opened_other d (record { draft = e; owner = o; policy = p; cells = c; last = 0 }) s.drafts other)) refl
  left_off s (closing e a) other =
      same_state refl refl (ap listed_of (closed_other e d (λ same. other (sym same)) s.drafts))
      (kept_implied (is_on_draft d) (λ g. not (is_on_draft e g)) (λ g is. not_from_false (is_on_draft e g) (elsewhere e (λ same. other (sym same)) g is)) s.grants)
  left_off s (granting e r c a k) other =
      same_state refl refl (ap listed_of (serial_off e s.drafts (draft_of e s) (λ same. other (sym same)) refl))
      (pushed_off s.grants (record { draft = e; right = r; grantor = c; account = a; kind = kind_of k; serial = next_serial (draft_of e s) }) other)
  left_off s (withdrawing e r c a) other =
      same_state refl refl refl (standing_off (is_on_draft d) s.grants e r c a (draft_of e s) (elsewhere e (λ same. other (sym same))))
  left_off s (policing e a p) other =
      same_state refl refl (ap listed_of (policy_off e p s.drafts (draft_of e s) (λ same. other (sym same)) refl)) refl
  left_off s (requesting e r a) other = refl
  left_off s (listing e r b) other = refl

  next_off : (R : Ranking) (s : State) (c : Call) → (draft_named c ≡ d → ⊥) → on d (next R s c) ≡ on d s
  next_off R s c other =
      elim (refusal R s c) as (λ o. on d (elim o as (λ _. State) [ Some n ↦ s | None ↦ left s c ]) ≡ on d s) [
        | Some n ↦ refl
        | None ↦ left_off s c other
      ]

  -- from any state
  separate_from : (h : History) (s : State) → Roomy d s h → replies_on d s h ≡ replies (on d s) (only d h)
  separate_from [] s roomy = refl
  separate_from (m ∷ h) s roomy =
      let rest = separate_from h (after s m) roomy.1 in
      let own : draft_named m.call ≡ d → (reply_to (on d s) m ≡ reply_to s m) × (after (on d s) m ≡ on d (after s m)) =
      λ same. subst (λ e. (reply_to (on e s) m ≡ reply_to s m) × (after (on e s) m ≡ on e (after s m))) same
      (reply_on m.ranking s m.call (roomy.0 same), next_on m.ranking s m.call (roomy.0 same)) in
      elim (eqb (draft_named m.call) d) as (λ b. eqb (draft_named m.call) d ≡ b →
      cond b (reply_to s m ∷ replies_on d (after s m) h) (replies_on d (after s m) h) ≡ replies (on d s) (cond b (m ∷ only d h) (only d h))) [
        | true ↦ λ is.
            let both = own (eqb-true (draft_named m.call) d is) in
            ap (λ said. said ∷ replies_on d (after s m) h) (sym both.0)
            ∙ ap (λ more. reply_to (on d s) m ∷ more) (rest ∙ ap (λ t. replies t (only d h)) (sym both.1))
        | false ↦ λ is. rest ∙ ap (λ t. replies t (only d h)) (next_off m.ranking s m.call (eqb-false (draft_named m.call) d is))
      ] refl

-- strike the calls on other drafts: every reply on this draft is the same
pub separate : (places cells d : ℕ) (h : History) → Roomy d (empty places cells) h → replies_on d (empty places cells) h ≡ replies (empty places cells) (only d h)
separate places cells d h roomy = separate_from d h (empty places cells) roomy
