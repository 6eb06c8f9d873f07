-- What a call replies, and what it leaves. Assumes nothing.
use Rattle.std.specs.Prelude.{ℕ, ◌+◌, ◌-◌, not, List, [], ◌∷◌, ◌++◌, length, drop, Some, None, count_by, filter, Option}
use Rattle.table.specs.Used.{replaced}
pub use Rattle.terms.specs.Kinds.{kind_of}
use Rattle.rulings.specs.Ranking.{Ranking}
use Rattle.model.specs.declared.answers.Decision.TheVariants.{Undecided}
use Rattle.model.specs.declared.records.DraftRecord.{DraftRecord}
use Rattle.model.specs.declared.records.GrantRecord.{GrantRecord}
use Rattle.model.specs.Calls.{Call, Reply}
use Rattle.model.specs.Calls.Call.{opening, closing, granting, withdrawing, policing, requesting, listing}
use Rattle.model.specs.Calls.Reply.{refused, done, closed, granted, withdrawn, decided, listed}
use Rattle.model.specs.Grants.{is_on_draft, of_right, key_of, without, still_rooted}
use Rattle.model.specs.Keys.{by_draft}
use Rattle.model.specs.Refusals.{refusal}
use Rattle.model.specs.Sheets.{Answer, answer, sheet}
use Rattle.model.specs.State.{State, state, draft_of}

-- Each call but an opening has a meaning only where the draft is open: what is said for one that is not stands
-- for nothing, since such a call is refused.

-- the serial that the next grant on the draft gets
abbrev pub next_serial : Option DraftRecord → ℕ
next_serial None = 0
next_serial (Some x) = x.last + 1

-- the grants that a withdrawal leaves: without the caller's own, and then without all that fall with it
abbrev pub left_standing : List GrantRecord → ℕ → ℕ → ℕ → ℕ → Option DraftRecord → List GrantRecord
left_standing grants d r c a None = grants
left_standing grants d r c a (Some x) = still_rooted d r x.owner (without (key_of d r c a) grants)

abbrev pub asked : Ranking → List GrantRecord → ℕ → ℕ → ℕ → Option DraftRecord → Answer
asked R grants d r a None = (Undecided, None)
asked R grants d r a (Some x) = answer R x (of_right d r grants) a

abbrev pub sheet_of : Ranking → List GrantRecord → ℕ → ℕ → Option DraftRecord → List ℕ
sheet_of R grants d r None = []
sheet_of R grants d r (Some x) = sheet R x (of_right d r grants)

-- the text in the first bytes of a buffer, and behind it what the buffer held
abbrev pub written : List ℕ → List ℕ → Reply
written buffer text = listed (length text) (text ++ drop (length text) buffer)

-- what an obeyed call tells, with a ruling of ranking R in hand
abbrev pub told : Ranking → State → Call → Reply
told R s (opening d o p c) = done
told R s (closing d a) = closed (count_by (is_on_draft d) s.grants)
told R s (granting d r c a k) = granted (next_serial (draft_of d s))
told R s (withdrawing d r c a) = withdrawn (length s.grants - length (left_standing s.grants d r c a (draft_of d s)))
told R s (policing d a p) = done
told R s (requesting d r a) = decided (asked R s.grants d r a (draft_of d s))
told R s (listing d r b) = written b (sheet_of R s.grants d r (draft_of d s))

-- the drafts, once draft d has policy p
abbrev pub with_policy : ℕ → ℕ → Option DraftRecord → List DraftRecord → List DraftRecord
with_policy d p None drafts = drafts
with_policy d p (Some x) drafts =
    replaced (by_draft d) (record { draft = x.draft; owner = x.owner; policy = p; cells = x.cells; last = x.last }) drafts

-- the drafts, once the next serial of draft d is given
abbrev pub with_serial : ℕ → Option DraftRecord → List DraftRecord → List DraftRecord
with_serial d None drafts = drafts
with_serial d (Some x) drafts =
    replaced (by_draft d) (record { draft = x.draft; owner = x.owner; policy = x.policy; cells = x.cells; last = x.last + 1 }) drafts

-- what an obeyed call leaves
abbrev pub left : State → Call → State
left s (opening d o p c) =
    state s.places s.cells (s.drafts ++ (record { draft = d; owner = o; policy = p; cells = c; last = 0 } ∷ [])) s.grants
left s (closing d a) =
    state s.places s.cells (filter (λ x. not (by_draft d x)) s.drafts) (filter (λ g. not (is_on_draft d g)) s.grants)
left s (granting d r c a k) =
    state s.places s.cells (with_serial d (draft_of d s) s.drafts)
    (s.grants ++ (record { draft = d; right = r; grantor = c; account = a; kind = kind_of k; serial = next_serial (draft_of d s) } ∷ []))
left s (withdrawing d r c a) = state s.places s.cells s.drafts (left_standing s.grants d r c a (draft_of d s))
left s (policing d a p) = state s.places s.cells (with_policy d p (draft_of d s) s.drafts) s.grants
left s (requesting d r a) = s
left s (listing d r b) = s

-- the reply to a call, with a ruling of ranking R in hand
abbrev pub reply : Ranking → State → Call → Reply
reply R s c = elim (refusal R s c) [ Some n ↦ refused n | None ↦ told R s c ]

-- the state after it: a refused call leaves all as it was
abbrev pub next : Ranking → State → Call → State
next R s c = elim (refusal R s c) [ Some n ↦ s | None ↦ left s c ]
