-- The books of a register are in order, and its grants sound, after every history. Assumes nothing.
use Rattle.std.proofs.Common.{◌≡◌, ℕ, ◌+◌, ◌<◌, ◌≤◌, Bool, true, false, cond, not, ◌&&◌, ◌||◌, eqb, ltb, List, [], ◌∷◌, ◌++◌, map, length, is_some, Some, None, sum_by, count_by, filter, sym, refl, ap, ◌∙◌, subst, ap₂, subst₂, ⊎_elim, arith}
use Rattle.std.specs.List.{AllByRecursion}
use Rattle.std.proofs.lemmas.List.Sums.{sum_by-cons, sum_by_push, length-filter}
use Rattle.std.proofs.lemmas.List.Filters.{sum_by-filter_both}
use Rattle.std.proofs.ByRecursion.{All-push, All-weaker, all_kept_by}
use Rattle.std.proofs.lemmas.Bool.{true≢false, false≢true, cases_eq, eqb-true, eqb-false, eq-eqb, ne_eqb, leb-false, ltb-false, or_parts, not-true, not-false, and_left, and_right, and_from}
use Rattle.table.specs.Used.{first, replaced}
use Rattle.charts.specs.Reaching.{above}
use Rattle.rulings.specs.Ranking.{Ranking, Lawful}
use Rattle.model.specs.declared.records.DraftRecord.{DraftRecord}
use Rattle.model.specs.declared.records.GrantRecord.{GrantRecord}
use Rattle.model.specs.Calls.{Call}
use Rattle.model.specs.Calls.Call.{opening, closing, granting, withdrawing, policing, requesting, listing}
use Rattle.model.specs.Consistent.{Sound}
use Rattle.model.specs.Delegation.{lines_of, between, entitled, rooted}
use Rattle.model.specs.Grants.{is_on_draft, on_right, mark_of, of_right, key_of, without, still_rooted}
use Rattle.model.specs.History.{Made, History, after, outcome, Reached}
use Rattle.model.specs.Keys.{by_draft, by_grant}
use Rattle.model.specs.Law.{Orderly, SoundThroughout}
use Rattle.model.specs.Meaning.{next, left, with_serial, with_policy, next_serial, left_standing, kind_of}
use Rattle.model.specs.Refusals.{refusal, refusal_table, full, not_entitled}
use Rattle.model.specs.State.{State, state, empty, draft_of, reserved}
use Rattle.model.proofs.Drafts.{sum_kept, sum_replaced, once_added, once_replaced, once_kept}
use Rattle.model.proofs.DraftsOf.{found_draft, opened_other, closed_own, closed_other, changed_own, changed_other}
use Rattle.model.proofs.Kept.{kept_none}
use Rattle.model.proofs.Marked.{none_there}
use Rattle.model.proofs.Obeyed.{none_holds, opening_fits, opening_new}
use Rattle.model.proofs.Rights.{right_pushed, right_pushed_other, right_closed, right_withdrawn, right_withdrawn_other, key_marked}
use Rattle.model.proofs.Sounds.{sound_none, sound_granted, sound_withdrawn}

-- how a history goes on
pub outcome_more : (s : State) (h : History) (m : Made) → outcome s (h ++ m ∷ []) ≡ after (outcome s h) m
outcome_more s [] m = refl
outcome_more s (n ∷ h) m = outcome_more (after s n) h m

-- what every obeyed call keeps, every call does
pub next_keeps : (P : State → Type 0) (R : Ranking) (s : State) (c : Call) → P s → (refusal R s c ≡ None → P (left s c)) → P (next R s c)
next_keeps P R s c was obeyed =
    elim (refusal R s c) as (λ o. refusal R s c ≡ o → P (elim o as (λ _. State) [ Some n ↦ s | None ↦ left s c ])) [
      | Some n ↦ λ e. was
      | None ↦ λ e. obeyed e
    ] refl

left_places : (s : State) (c : Call) → (left s c).places ≡ s.places
left_places s (opening d o p c) = refl
left_places s (closing d a) = refl
left_places s (granting d r c a k) = refl
left_places s (withdrawing d r c a) = refl
left_places s (policing d a p) = refl
left_places s (requesting d r a) = refl
left_places s (listing d r b) = refl

left_cells : (s : State) (c : Call) → (left s c).cells ≡ s.cells
left_cells s (opening d o p c) = refl
left_cells s (closing d a) = refl
left_cells s (granting d r c a k) = refl
left_cells s (withdrawing d r c a) = refl
left_cells s (policing d a p) = refl
left_cells s (requesting d r a) = refl
left_cells s (listing d r b) = refl

-- the number of places and of cells stays
pub next_places : (R : Ranking) (s : State) (c : Call) → (next R s c).places ≡ s.places
next_places R s c = next_keeps (λ t. t.places ≡ s.places) R s c refl (λ _. left_places s c)

pub next_cells : (R : Ranking) (s : State) (c : Call) → (next R s c).cells ≡ s.cells
next_cells R s c = next_keeps (λ t. t.cells ≡ s.cells) R s c refl (λ _. left_cells s c)

pub reached_empty : (places cells : ℕ) → Reached (empty places cells)
reached_empty places cells = ([], refl)

pub reached_next : (R : Ranking) → Lawful R → (s : State) (c : Call) → Reached s → Reached (next R s c)
reached_next R lawful s c (h, is) =
    let m : Made = record { ranking = R; lawful = lawful; call = c } in (
      h ++ m ∷ [],
      ap₂ (λ (p n : ℕ). outcome (empty p n) (h ++ m ∷ [])) (next_places R s c) (next_cells R s c)
          ∙ (outcome_more (empty s.places s.cells) h m ∙ ap (λ (t : State). next R t c) is),
    )

-- sums of which each part is bounded
sum_both : {X : Type 0} (f g h : X → ℕ) → ((x : X) → f x + g x ≤ h x) → (xs : List X) → sum_by f xs + sum_by g xs ≤ sum_by h xs
sum_both f g h each [] = omega arith
sum_both f g h each (x ∷ xs) = omega (arith, each x, sum_both f g h each xs, sum_by-cons f x xs, sum_by-cons g x xs, sum_by-cons h x xs)

sum_most : {X : Type 0} (f h : X → ℕ) (xs : List X) → AllByRecursion (λ x. f x ≤ h x) xs → sum_by f xs ≤ sum_by h xs
sum_most f h [] each = omega arith
sum_most f h (x ∷ xs) each = omega (arith, each.0, sum_most f h xs each.1, sum_by-cons f x xs, sum_by-cons h x xs)

sum_less : {X : Type 0} (f h : X → ℕ) (test : X → Bool) (y : X) → f y < h y → (xs : List X) → AllByRecursion (λ x. f x ≤ h x) xs → first test xs ≡ Some y → sum_by f xs < sum_by h xs
sum_less f h test y less [] each found = let z : ◌≡◌ {A = ℕ} 0 1 = cc in absurd (omega arith)
sum_less f h test y less (x ∷ xs) each found =
    elim (test x) as (λ b. cond b (Some x) (first test xs) ≡ Some y → sum_by f (x ∷ xs) < sum_by h (x ∷ xs)) [
      | true ↦ λ e.
          let here : x ≡ y = cc in
          omega (arith, sum_most f h xs each.1, sum_by-cons f x xs, sum_by-cons h x xs, ap f here, ap h here)
      | false ↦ λ e. omega (arith, each.0, sum_less f h test y less xs each.1 e, sum_by-cons f x xs, sum_by-cons h x xs)
    ] found

-- a grant on an open draft is counted
counted_once : (g : GrantRecord) (xs : List DraftRecord) → is_some (first (by_draft g.draft) xs) ≡ true → 1 ≤ sum_by (λ x. cond (is_on_draft x.draft g) 1 0) xs
counted_once g [] open' = absurd (false≢true open')
counted_once g (x ∷ xs) open' =
    let f = λ (x : DraftRecord). cond (is_on_draft x.draft g) 1 0 in
    elim (eqb x.draft g.draft) as (λ b. eqb x.draft g.draft ≡ b → is_some (cond b (Some x) (first (by_draft g.draft) xs)) ≡ true → 1 ≤ sum_by f (x ∷ xs)) [
      | true ↦ λ t e.
          let one : f x ≡ 1 = rw (eq-eqb g.draft x.draft (sym (eqb-true x.draft g.draft t))) refl in
          omega (arith, one, sum_by-cons f x xs)
      | false ↦ λ t e. omega (arith, counted_once g xs e, sum_by-cons f x xs)
    ] refl open'

-- so all grants together are
all_counted : (xs : List DraftRecord) (gs : List GrantRecord) → AllByRecursion (λ g. is_some (first (by_draft g.draft) xs) ≡ true) gs → length gs ≤ sum_by (λ x. count_by (is_on_draft x.draft) gs) xs
all_counted xs [] opens = omega arith
all_counted xs (g ∷ gs) opens =
    omega (
      arith,
      counted_once g xs opens.0,
      all_counted xs gs opens.1,
      sum_both (λ x. cond (is_on_draft x.draft g) 1 0) (λ x. count_by (is_on_draft x.draft) gs) (λ x. count_by (is_on_draft x.draft) (g ∷ gs))
          (λ x. omega (arith, sum_by-cons (λ w. cond (is_on_draft x.draft w) 1 0) g gs)) xs,
    )

-- there is room for a grant more on a draft that has fewer grants than it reserved
pub room_left : (s : State) (d : ℕ) (x : DraftRecord) → Orderly s → draft_of d s ≡ Some x → count_by (is_on_draft d) s.grants < x.cells → length s.grants < s.cells
room_left s d x orderly found less =
    let own : count_by (is_on_draft x.draft) s.grants < x.cells = rw (found_draft d s.drafts x found) less in
    omega (
      arith,
      orderly.fits,
      all_counted s.drafts s.grants orderly.on_open,
      sum_less (λ y. count_by (is_on_draft y.draft) s.grants) (λ y. y.cells) (by_draft d) x own s.drafts orderly.within found,
    )

pub orderly_empty : (places cells : ℕ) → Orderly (empty places cells)
orderly_empty places cells = record { once = λ d. omega arith; fits = omega arith; on_open = tt; within = tt }

pub sound_empty : (places cells : ℕ) → SoundThroughout (empty places cells)
sound_empty places cells d r x found = let z : ◌≡◌ {A = ℕ} 0 1 = cc in absurd (omega arith)

-- the draft of each of these grants is among these
abbrev On : List DraftRecord → List GrantRecord → Type 0
On xs gs = AllByRecursion (λ g. is_some (first (by_draft g.draft) xs) ≡ true) gs

-- what is kept passed the test
all_kept_weaker : {X : Type 0} (p : X → Bool) (P Q : X → Type 0) → ((x : X) → p x ≡ true → P x → Q x) → (xs : List X) → AllByRecursion P xs → AllByRecursion Q (filter p xs)
all_kept_weaker p P Q weaker [] all = tt
all_kept_weaker p P Q weaker (x ∷ xs) all =
    let rest = all_kept_weaker p P Q weaker xs all.1 in
    elim (p x) as (λ b. p x ≡ b → AllByRecursion Q (cond b (x ∷ filter p xs) (filter p xs))) [
      | true ↦ λ t. (weaker x t all.0, rest)
      | false ↦ λ t. rest
    ] refl

pub all_found : {X : Type 0} (p : X → Bool) (P : X → Type 0) (y : X) (xs : List X) → AllByRecursion P xs → first p xs ≡ Some y → P y
all_found p P y [] all found = let z : ◌≡◌ {A = ℕ} 0 1 = cc in absurd (omega arith)
all_found p P y (x ∷ xs) all found =
    elim (p x) as (λ b. cond b (Some x) (first p xs) ≡ Some y → P y) [
      | true ↦ λ e. let here : x ≡ y = cc in subst P here all.0
      | false ↦ λ e. all_found p P y xs all.1 e
    ] found

still_found : {X : Type 0} (p : X → Bool) (xs ys : List X) → is_some (first p xs) ≡ true → is_some (first p (xs ++ ys)) ≡ true
still_found p [] ys found = absurd (false≢true found)
still_found p (x ∷ xs) ys found =
    elim (p x) as (λ b. is_some (cond b (Some x) (first p xs)) ≡ true → is_some (cond b (Some x) (first p (xs ++ ys))) ≡ true) [
      | true ↦ λ e. refl
      | false ↦ λ e. still_found p xs ys e
    ] found

-- fewer are counted among what is kept
count_kept : {X : Type 0} (p q : X → Bool) (xs : List X) → count_by p (filter q xs) ≤ count_by p xs
count_kept p q xs = omega (arith, sum_by-filter_both q (λ x. not (q x)) (λ _. refl) (λ x. cond (p x) 1 0) xs)

-- no grant is on a draft that is not open
pub none_on : (d : ℕ) (xs : List DraftRecord) (gs : List GrantRecord) → first (by_draft d) xs ≡ None → On xs gs → AllByRecursion (λ g. is_on_draft d g ≡ false) gs
none_on d xs gs absent opens =
    All-weaker (λ g. is_some (first (by_draft g.draft) xs) ≡ true) (λ g. is_on_draft d g ≡ false)
    (λ g found. ne_eqb g.draft d (λ same. false≢true (sym (ap (λ o. is_some o) absent) ∙ (sym (ap (λ (n : ℕ). is_some (first (by_draft n) xs)) same) ∙ found)))) gs opens

pub count_none : (d : ℕ) (gs : List GrantRecord) → AllByRecursion (λ g. is_on_draft d g ≡ false) gs → count_by (is_on_draft d) gs ≡ 0
count_none d gs none = sym (length-filter (is_on_draft d) gs) ∙ ap length (kept_none (is_on_draft d) gs none)

-- records of another number, where this number does not count
all_elsewhere : (d : ℕ) (P Q : DraftRecord → Type 0) → ((z : DraftRecord) → (z.draft ≡ d → ⊥) → P z → Q z) → (xs : List DraftRecord) → count_by (by_draft d) xs ≡ 0 → AllByRecursion P xs → AllByRecursion Q xs
all_elsewhere d P Q weaker [] zero_times all = tt
all_elsewhere d P Q weaker (x ∷ xs) zero_times all =
    let parts = sum_by-cons (λ z. cond (by_draft d z) 1 0) x xs in (
      weaker x (λ same.
          let one : ◌≡◌ {A = ℕ} (cond (by_draft d x) 1 0) 1 = rw (eq-eqb x.draft d same) refl in
          omega (arith, one, parts)) all.0,
      all_elsewhere d P Q weaker xs (omega (arith, parts)) all.1,
    )

-- a record in the place of the one of its number
all_replaced : (d : ℕ) (y : DraftRecord) (P Q : DraftRecord → Type 0) → ((z : DraftRecord) → (z.draft ≡ d → ⊥) → P z → Q z) → Q y → (xs : List DraftRecord) → count_by (by_draft d) xs ≤ 1 → AllByRecursion P xs → AllByRecursion Q (replaced (by_draft d) y xs)
all_replaced d y P Q weaker own [] most all = tt
all_replaced d y P Q weaker own (x ∷ xs) most all =
    let parts = sum_by-cons (λ z. cond (by_draft d z) 1 0) x xs in
    elim (eqb x.draft d) as (λ b. eqb x.draft d ≡ b → AllByRecursion Q (cond b (y ∷ xs) (x ∷ replaced (by_draft d) y xs))) [
      | true ↦ λ t.
          let one : ◌≡◌ {A = ℕ} (cond (by_draft d x) 1 0) 1 = rw t refl in
          (own, all_elsewhere d P Q weaker xs (omega (arith, one, parts)) all.1)
      | false ↦ λ t. (weaker x (eqb-false x.draft d t) all.0, all_replaced d y P Q weaker own xs (omega (arith, parts)) all.1)
    ] refl

-- a record in the place of another: what was open stays open
changed_open : (d e : ℕ) (x y : DraftRecord) (xs : List DraftRecord) → first (by_draft d) xs ≡ Some x → y.draft ≡ x.draft → is_some (first (by_draft e) xs) ≡ true → is_some (first (by_draft e) (replaced (by_draft d) y xs)) ≡ true
changed_open d e x y xs found same opens =
    ⊎_elim
    (λ here. rw here (ap (λ o. is_some o) (changed_own d x y xs found same)))
    (λ other. ap (λ o. is_some o) (changed_other d e x y xs other found same) ∙ opens)
    (cases_eq e d)

module _ (s : State) (orderly : Orderly s) where
  orderly_opened : (x : DraftRecord) → draft_of x.draft s ≡ None → reserved s.drafts + x.cells ≤ s.cells → Orderly (state s.places s.cells (s.drafts ++ x ∷ []) s.grants)
  orderly_opened x absent fits =
      record {
        once = once_added true s.drafts x absent orderly.once;
        fits = omega (arith, sum_by_push (λ y. y.cells) s.drafts x);
        on_open = All-weaker (λ g. is_some (first (by_draft g.draft) s.drafts) ≡ true) (λ g. is_some (first (by_draft g.draft) (s.drafts ++ x ∷ [])) ≡ true)
            (λ g. still_found (by_draft g.draft) s.drafts (x ∷ [])) s.grants orderly.on_open;
        within = All-push (λ y. count_by (is_on_draft y.draft) s.grants ≤ y.cells) s.drafts x orderly.within
            (omega (arith, count_none x.draft s.grants (none_on x.draft s.drafts s.grants absent orderly.on_open)));
      }

  orderly_closed : (d : ℕ) → Orderly (state s.places s.cells (filter (λ x. not (by_draft d x)) s.drafts) (filter (λ g. not (is_on_draft d g)) s.grants))
  orderly_closed d =
      record {
        once = once_kept (λ x. not (by_draft d x)) s.drafts orderly.once;
        fits = omega (arith, orderly.fits, sum_kept (λ x. x.cells) (λ x. not (by_draft d x)) s.drafts);
        on_open = all_kept_weaker (λ g. not (is_on_draft d g)) (λ g. is_some (first (by_draft g.draft) s.drafts) ≡ true)
            (λ g. is_some (first (by_draft g.draft) (filter (λ x. not (by_draft d x)) s.drafts)) ≡ true)
            (λ g elsewhere opens. ap (λ o. is_some o) (closed_other d g.draft (eqb-false g.draft d (not-true (is_on_draft d g) elsewhere)) s.drafts) ∙ opens)
            s.grants orderly.on_open;
        within = all_kept_weaker (λ x. not (by_draft d x)) (λ x. count_by (is_on_draft x.draft) s.grants ≤ x.cells)
            (λ x. count_by (is_on_draft x.draft) (filter (λ g. not (is_on_draft d g)) s.grants) ≤ x.cells)
            (λ x other most. omega (arith, most, count_kept (is_on_draft x.draft) (λ g. not (is_on_draft d g)) s.grants))
            s.drafts orderly.within;
      }

  -- the record of one draft with another serial or policy, and grants that are no more on other drafts
  orderly_changed : (d : ℕ) (x y : DraftRecord) (gs : List GrantRecord) → draft_of d s ≡ Some x → y.draft ≡ x.draft → y.cells ≡ x.cells → On s.drafts gs →
      ((e : ℕ) → (e ≡ d → ⊥) → count_by (is_on_draft e) gs ≤ count_by (is_on_draft e) s.grants) → count_by (is_on_draft d) gs ≤ x.cells →
      Orderly (state s.places s.cells (replaced (by_draft d) y s.drafts) gs)
  orderly_changed d x y gs found same cells opens others own =
      record {
        once = once_replaced (by_draft d) x y same s.drafts found orderly.once;
        fits = omega (arith, orderly.fits, sum_replaced (λ z. z.cells) (by_draft d) x y cells s.drafts found);
        on_open = All-weaker (λ g. is_some (first (by_draft g.draft) s.drafts) ≡ true) (λ g. is_some (first (by_draft g.draft) (replaced (by_draft d) y s.drafts)) ≡ true)
            (λ g. changed_open d g.draft x y s.drafts found same) gs opens;
        within =
            let is_d : y.draft ≡ d = same ∙ found_draft d s.drafts x found in
            let here : count_by (is_on_draft y.draft) gs ≤ y.cells = rw (is_d, cells) own in
            all_replaced d y (λ z. count_by (is_on_draft z.draft) s.grants ≤ z.cells) (λ z. count_by (is_on_draft z.draft) gs ≤ z.cells)
            (λ z other most. omega (arith, most, others z.draft other)) here s.drafts (orderly.once d) orderly.within;
      }

  orderly_granted : (d : ℕ) (x y : DraftRecord) (g : GrantRecord) → draft_of d s ≡ Some x → y.draft ≡ x.draft → y.cells ≡ x.cells → g.draft ≡ d → count_by (is_on_draft d) s.grants < x.cells →
      Orderly (state s.places s.cells (replaced (by_draft d) y s.drafts) (s.grants ++ g ∷ []))
  orderly_granted d x y g found same cells on less =
      orderly_changed d x y (s.grants ++ g ∷ []) found same cells
      (All-push (λ h. is_some (first (by_draft h.draft) s.drafts) ≡ true) s.grants g orderly.on_open (rw on (ap (λ o. is_some o) found)))
      (λ e other.
      let none : ◌≡◌ {A = ℕ} (cond (is_on_draft e g) 1 0) 0 = rw (ne_eqb g.draft e (λ q. other (sym q ∙ on))) refl in
      omega (arith, none, sum_by_push (λ h. cond (is_on_draft e h) 1 0) s.grants g))
      (let one : ◌≡◌ {A = ℕ} (cond (is_on_draft d g) 1 0) 1 = rw (eq-eqb g.draft d on) refl in
      omega (arith, one, sum_by_push (λ h. cond (is_on_draft d h) 1 0) s.grants g))

  orderly_policed : (d : ℕ) (x y : DraftRecord) → draft_of d s ≡ Some x → y.draft ≡ x.draft → y.cells ≡ x.cells → Orderly (state s.places s.cells (replaced (by_draft d) y s.drafts) s.grants)
  orderly_policed d x y found same cells =
      let most = all_found (by_draft d) (λ z. count_by (is_on_draft z.draft) s.grants ≤ z.cells) x s.drafts orderly.within found in
      let own : count_by (is_on_draft d) s.grants ≤ x.cells = rw (found_draft d s.drafts x found) at most in
      orderly_changed d x y s.grants found same cells orderly.on_open (λ e other. omega arith) own

  orderly_fewer : (stays : GrantRecord → Bool) → Orderly (state s.places s.cells s.drafts (filter stays s.grants))
  orderly_fewer stays =
      record {
        once = orderly.once;
        fits = orderly.fits;
        on_open = all_kept_by stays (λ g. is_some (first (by_draft g.draft) s.drafts) ≡ true) s.grants orderly.on_open;
        within = All-weaker (λ x. count_by (is_on_draft x.draft) s.grants ≤ x.cells) (λ x. count_by (is_on_draft x.draft) (filter stays s.grants) ≤ x.cells)
            (λ x most. omega (arith, most, count_kept (is_on_draft x.draft) stays s.grants)) s.drafts orderly.within;
      }

-- an obeyed call
orderly_left : (R : Ranking) (s : State) (c : Call) → Orderly s → refusal R s c ≡ None → Orderly (left s c)
orderly_left R s (opening d o p c) orderly none =
    orderly_opened s orderly (record { draft = d; owner = o; policy = p; cells = c; last = 0 }) (opening_new R s d o p c none) (opening_fits R s d o p c none)
orderly_left R s (closing d a) orderly none = orderly_closed s orderly d
orderly_left R s (granting d r c a k) orderly none =
    let rows = none_holds (refusal_table R s (granting d r c a k)) none in
    elim (draft_of d s) as (λ o. draft_of d s ≡ o → full (count_by (is_on_draft d) s.grants) o ≡ false →
    Orderly (state s.places s.cells (with_serial d o s.drafts)
    (s.grants ++ (record { draft = d; right = r; grantor = c; account = a; kind = kind_of k; serial = next_serial o } ∷ [])))) [
      | None ↦ λ found row. absurd (true≢false row)
      | Some x ↦ λ found row.
          orderly_granted s orderly d x (record { draft = x.draft; owner = x.owner; policy = x.policy; cells = x.cells; last = x.last + 1 })
          (record { draft = d; right = r; grantor = c; account = a; kind = kind_of k; serial = x.last + 1 })
          found refl refl refl (leb-false x.cells (count_by (is_on_draft d) s.grants) row)
    ] refl rows.1.1.1.1.1.1.1.1.1.1.1.1.1.0
orderly_left R s (withdrawing d r c a) orderly none =
    elim (draft_of d s) as (λ o. Orderly (state s.places s.cells s.drafts (left_standing s.grants d r c a o))) [
      | None ↦ orderly
      | Some x ↦
          let without_own = without (key_of d r c a) s.grants in
          orderly_fewer (state s.places s.cells s.drafts without_own) (orderly_fewer s orderly (λ g. not (by_grant (key_of d r c a) g)))
          (λ g. not (on_right d r g) || rooted x.owner (of_right d r without_own) g.grantor)
    ]
orderly_left R s (policing d a p) orderly none =
    elim (draft_of d s) as (λ o. draft_of d s ≡ o → Orderly (state s.places s.cells (with_policy d p o s.drafts) s.grants)) [
      | None ↦ λ found. orderly
      | Some x ↦ λ found. orderly_policed s orderly d x (record { draft = x.draft; owner = x.owner; policy = p; cells = x.cells; last = x.last }) found refl refl
    ] refl
orderly_left R s (requesting d r a) orderly none = orderly
orderly_left R s (listing d r b) orderly none = orderly

pub orderly_next : (R : Ranking) (s : State) (c : Call) → Orderly s → Orderly (next R s c)
orderly_next R s c orderly = next_keeps Orderly R s c orderly (orderly_left R s c orderly)

module _ (s : State) where
  -- the draft was open, and its owner is who it was
  abbrev WasOpen : ℕ → DraftRecord → Type 0
  WasOpen e w = (v : DraftRecord) × (draft_of e s ≡ Some v) × (w.owner ≡ v.owner)

  was_open : (d : ℕ) (x y : DraftRecord) → draft_of d s ≡ Some x → y.draft ≡ x.draft → y.owner ≡ x.owner → (e : ℕ) (w : DraftRecord) → first (by_draft e) (replaced (by_draft d) y s.drafts) ≡ Some w → WasOpen e w
  was_open d x y found same owns e w is =
      ⊎_elim
      (λ here.
      let there : first (by_draft d) (replaced (by_draft d) y s.drafts) ≡ Some w = subst (λ (n : ℕ). first (by_draft n) (replaced (by_draft d) y s.drafts) ≡ Some w) here is in
      let new = changed_own d x y s.drafts found same in
      let w_is : w ≡ y = cc in
      (x, ap (λ (n : ℕ). draft_of n s) here ∙ found, ap (λ (z : DraftRecord). z.owner) w_is ∙ owns))
      (λ other. (w, sym (changed_other d e x y s.drafts other found same) ∙ is, refl))
      (cases_eq e d)

module _ (s : State) (sound : SoundThroughout s) where
  sound_opened : (x : DraftRecord) → Orderly s → draft_of x.draft s ≡ None → SoundThroughout (state s.places s.cells (s.drafts ++ x ∷ []) s.grants)
  sound_opened x orderly absent e r y found =
      ⊎_elim
      (λ here.
      let gone = subst (λ (n : ℕ). draft_of n s ≡ None) here absent in
      let none = All-weaker (λ g. is_on_draft e g ≡ false) (λ g. on_right e r g ≡ false) (λ g. and_left (eqb g.draft e) (eqb g.right r)) s.grants (none_on e s.drafts s.grants gone orderly.on_open) in
      subst (Sound y.owner) (sym (ap (map mark_of) (kept_none (on_right e r) s.grants none))) (sound_none y.owner))
      (λ other. sound e r y (sym (opened_other e x s.drafts other) ∙ found))
      (cases_eq x.draft e)

  sound_closed : (d : ℕ) → SoundThroughout (state s.places s.cells (filter (λ x. not (by_draft d x)) s.drafts) (filter (λ g. not (is_on_draft d g)) s.grants))
  sound_closed d e r y found =
      ⊎_elim
      (λ here.
      let gone = closed_own d s.drafts in
      let there = ap (λ (n : ℕ). first (by_draft n) (filter (λ x. not (by_draft d x)) s.drafts)) here in
      let z : ◌≡◌ {A = ℕ} 0 1 = cc (gone, there, found) in absurd (omega arith))
      (λ other. subst (Sound y.owner) (sym (right_closed d e r other s.grants)) (sound e r y (sym (closed_other d e other s.drafts) ∙ found)))
      (cases_eq e d)

  -- one right on one draft changes, and all others are as they were
  sound_but_one : (d r : ℕ) (x : DraftRecord) (xs : List DraftRecord) (gs : List GrantRecord) → draft_of d s ≡ Some x →
      ((e : ℕ) (w : DraftRecord) → first (by_draft e) xs ≡ Some w → WasOpen s e w) →
      Sound x.owner (of_right d r gs) → ((e q : ℕ) → ((e ≡ d) × (q ≡ r) → ⊥) → of_right e q gs ≡ of_right e q s.grants) →
      SoundThroughout (state s.places s.cells xs gs)
  sound_but_one d r x xs gs found before here others e q w is =
      let (v, was, owns) = before e w is in
      let elsewhere : ((e ≡ d) × (q ≡ r) → ⊥) → Sound w.owner (of_right e q gs) =
      λ other. subst₂ Sound (sym owns) (sym (others e q other)) (sound e q v was) in
      ⊎_elim
      (λ at_d. ⊎_elim
      (λ at_r.
      let there = ap (λ (n : ℕ). draft_of n s) at_d in
      let v_is : v ≡ x = cc (there, was, found) in
      subst₂ Sound (sym (owns ∙ ap (λ (z : DraftRecord). z.owner) v_is)) (sym (ap₂ (λ (m n : ℕ). of_right m n gs) at_d at_r)) here)
      (λ other. elsewhere (λ both. other both.1))
      (cases_eq q r))
      (λ other. elsewhere (λ both. other both.0))
      (cases_eq e d)

-- a grant that is not on this draft and right
on_neither : (d r e q : ℕ) → ((e ≡ d) × (q ≡ r) → ⊥) → (eqb d e && eqb r q) ≡ false
on_neither d r e q other =
    ⊎_elim
    (λ here. and_right (eqb d e) (eqb r q) (ne_eqb r q (λ there. other (sym here, sym there))))
    (λ away. and_left (eqb d e) (eqb r q) (ne_eqb d e away))
    (cases_eq d e)

-- an obeyed call
sound_left : (R : Ranking) (s : State) (c : Call) → Orderly s → SoundThroughout s → refusal R s c ≡ None → SoundThroughout (left s c)
sound_left R s (opening d o p c) orderly sound none = sound_opened s sound (record { draft = d; owner = o; policy = p; cells = c; last = 0 }) orderly (opening_new R s d o p c none)
sound_left R s (closing d a) orderly sound none = sound_closed s sound d
sound_left R s (granting d r c a k) orderly sound none =
    let rows = none_holds (refusal_table R s (granting d r c a k)) none in
    let ms = of_right d r s.grants in
    let accounts = or_parts (ltb 511 c) (ltb 511 a) rows.0 in
    let from : c < 512 = omega (arith, ltb-false 511 c accounts.0) in
    let to : a < 512 = omega (arith, ltb-false 511 a accounts.1) in
    let absent = none_there (first (between c a) ms) (sym (key_marked d r c a s.grants) ∙ rows.1.1.1.1.1.1.1.1.1.1.1.0) in
    let free = or_parts (eqb a c) (above (lines_of ms) a c) rows.1.1.1.1.1.1.1.1.1.1.1.1.0 in
    elim (draft_of d s) as (λ o. draft_of d s ≡ o → not_entitled ms c o ≡ false →
    SoundThroughout (state s.places s.cells (with_serial d o s.drafts)
    (s.grants ++ (record { draft = d; right = r; grantor = c; account = a; kind = kind_of k; serial = next_serial o } ∷ [])))) [
      | None ↦ λ found row. absurd (true≢false row)
      | Some x ↦ λ found row.
          let y : DraftRecord = record { draft = x.draft; owner = x.owner; policy = x.policy; cells = x.cells; last = x.last + 1 } in
          let g : GrantRecord = record { draft = d; right = r; grantor = c; account = a; kind = kind_of k; serial = x.last + 1 } in
          let more = sound_granted x.owner ms (mark_of g) (sound d r x found) from to (not-false (entitled x.owner ms c) row) absent (eqb-false a c free.0) free.1 in
          sound_but_one s sound d r x (replaced (by_draft d) y s.drafts) (s.grants ++ g ∷ []) found (was_open s d x y found refl refl)
          (subst (Sound x.owner) (sym (right_pushed d r s.grants g (and_from (eqb d d) (eqb r r) (eq-eqb d d refl) (eq-eqb r r refl)))) more)
          (λ e q other. right_pushed_other e q s.grants g (on_neither d r e q other))
    ] refl rows.1.1.1.1.1.1.1.1.1.1.0
sound_left R s (withdrawing d r c a) orderly sound none =
    elim (draft_of d s) as (λ o. draft_of d s ≡ o → SoundThroughout (state s.places s.cells s.drafts (left_standing s.grants d r c a o))) [
      | None ↦ λ found. sound
      | Some x ↦ λ found.
          sound_but_one s sound d r x s.drafts (still_rooted d r x.owner (without (key_of d r c a) s.grants)) found (λ e w is. (w, is, refl))
          (subst (Sound x.owner) (sym (right_withdrawn d r c a x.owner s.grants)) (sound_withdrawn x.owner c a (of_right d r s.grants) (sound d r x found)))
          (λ e q other. right_withdrawn_other d r c a x.owner e q other s.grants)
    ] refl
sound_left R s (policing d a p) orderly sound none =
    elim (draft_of d s) as (λ o. draft_of d s ≡ o → SoundThroughout (state s.places s.cells (with_policy d p o s.drafts) s.grants)) [
      | None ↦ λ found. sound
      | Some x ↦ λ found e r w is.
          let (v, was, owns) = was_open s d x (record { draft = x.draft; owner = x.owner; policy = p; cells = x.cells; last = x.last }) found refl refl e w is in
          subst (λ (n : ℕ). Sound n (of_right e r s.grants)) (sym owns) (sound e r v was)
    ] refl
sound_left R s (requesting d r a) orderly sound none = sound
sound_left R s (listing d r b) orderly sound none = sound

pub sound_next : (R : Ranking) (s : State) (c : Call) → Orderly s → SoundThroughout s → SoundThroughout (next R s c)
sound_next R s c orderly sound = next_keeps SoundThroughout R s c sound (sound_left R s c orderly sound)

-- after every history
pub orderly_after : (s : State) (h : History) → Orderly s → Orderly (outcome s h)
orderly_after s [] orderly = orderly
orderly_after s (m ∷ h) orderly = orderly_after (after s m) h (orderly_next m.ranking s m.call orderly)

pub sound_after : (s : State) (h : History) → Orderly s → SoundThroughout s → SoundThroughout (outcome s h)
sound_after s [] orderly sound = sound
sound_after s (m ∷ h) orderly sound =
    sound_after (after s m) h (orderly_next m.ranking s m.call orderly) (sound_next m.ranking s m.call orderly sound)

pub reached_orderly : (s : State) → Reached s → Orderly s
reached_orderly s (h, is) = subst Orderly is (orderly_after (empty s.places s.cells) h (orderly_empty s.places s.cells))

pub reached_sound : (s : State) → Reached s → SoundThroughout s
reached_sound s (h, is) =
    subst SoundThroughout is
    (sound_after (empty s.places s.cells) h (orderly_empty s.places s.cells) (sound_empty s.places s.cells))
