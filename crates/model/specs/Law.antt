-- The law over histories. Assumes nothing.
use Rattle.std.specs.Prelude.{◌≡◌, ℕ, ◌+◌, ◌<◌, ◌≤◌, Bool, true, false, cond, ◌&&◌, ◌⊎◌, List, [], ◌∷◌, Some, count_by, ◌==◌}
use Rattle.std.specs.List.{AllByRecursion}
use Rattle.charts.specs.declared.views.Mark.{Mark}
use Rattle.charts.specs.Chains.{Chain}
use Rattle.rulings.specs.Ranking.{Ranking, Lawful}
use Rattle.settlement.specs.Settled.{Settled, Picks}
use Rattle.model.specs.declared.records.DraftRecord.{DraftRecord}
use Rattle.model.specs.Calls.{Call, Reply, draft_named}
use Rattle.model.specs.Calls.Call.{opening, closing, granting, withdrawing, policing, requesting, listing}
use Rattle.model.specs.Calls.Reply.{refused, done, closed, granted, withdrawn, decided, listed}
use Rattle.model.specs.Consistent.{Sound}
use Rattle.model.specs.Delegation.{lines_of, signs_of}
use Rattle.model.specs.Grants.{is_on_draft, of_right}
use Rattle.model.specs.History.{Made, History, reply_to, after, replies, outcome}
use Rattle.model.specs.Meaning.{reply}
use Rattle.model.specs.Sheets.{Answer, by_picks}
use Rattle.model.specs.State.{State, empty, draft_of, is_open, reserved, Once}

-- the books of a register: what its counts of drafts, grants and cells keep to
pub record Orderly (s : State) : Type 0 where
  -- no draft is open twice
  pub once : Once s.drafts
  -- all reservations together fit into the cells
  pub fits : reserved s.drafts ≤ s.cells
  -- the draft of each grant is open
  pub on_open : AllByRecursion (λ g. is_open g.draft s ≡ true) s.grants
  -- no draft has more grants than it reserved
  pub within : AllByRecursion (λ x. count_by (is_on_draft x.draft) s.grants ≤ x.cells) s.drafts

-- in each open draft and right the grants are sound
abbrev pub SoundThroughout : State → Type 0
SoundThroughout s = (d r : ℕ) (x : DraftRecord) → draft_of d s ≡ Some x → Sound x.owner (of_right d r s.grants)

-- the draft, right and account that a grant or a withdrawal names
abbrev pub Names : Call → ℕ → ℕ → ℕ → Type 0
Names (opening d o p c) x y b = ⊥
Names (closing d a) x y b = ⊥
Names (granting d r c a k) x y b = (x ≡ d) × (y ≡ r) × (b ≡ a)
Names (withdrawing d r c a) x y b = (x ≡ d) × (y ≡ r) × (b ≡ a)
Names (policing d a p) x y b = ⊥
Names (requesting d r a) x y b = ⊥
Names (listing d r b) x y c = ⊥

abbrev pub IsChange : Call → Type 0
IsChange (opening d o p c) = ⊥
IsChange (closing d a) = ⊥
IsChange (granting d r c a k) = Unit {0}
IsChange (withdrawing d r c a) = Unit {0}
IsChange (policing d a p) = ⊥
IsChange (requesting d r a) = ⊥
IsChange (listing d r b) = ⊥

-- One more grant or withdrawal leaves the reply to a request as it was, under every lawful ranking, unless the
-- request is on its draft and right, for the account that it names or one below that in the state it found.
abbrev pub ChangesLocally : State → Type 0
ChangesLocally s = (m : Made) → IsChange m.call → (R : Ranking) → Lawful R → (d r a : ℕ) →
    (reply R s (requesting d r a) ≡ reply R (after s m) (requesting d r a))
    ⊎ ((b : ℕ) × Names m.call d r b × ((a ≡ b) ⊎ Chain (lines_of (of_right d r s.grants)) b a))

-- the calls on draft d alone
abbrev pub only : ℕ → History → History
only d [] = []
only d (m ∷ h) = cond (draft_named m.call == d) (m ∷ only d h) (only d h)

-- the replies to the calls on draft d in a history
abbrev pub replies_on : ℕ → State → History → List Reply
replies_on d s [] = []
replies_on d s (m ∷ h) = cond (draft_named m.call == d) (reply_to s m ∷ replies_on d (after s m) h) (replies_on d (after s m) h)

-- the call is an opening that is refused for want of room
abbrev pub WantsRoom : Call → Reply → Type 0
WantsRoom (opening d o p c) said = (said ≡ refused 8) ⊎ (said ≡ refused 9)
WantsRoom (closing d a) said = ⊥
WantsRoom (granting d r c a k) said = ⊥
WantsRoom (withdrawing d r c a) said = ⊥
WantsRoom (policing d a p) said = ⊥
WantsRoom (requesting d r a) said = ⊥
WantsRoom (listing d r b) said = ⊥

-- no opening of draft d is refused for want of room
abbrev pub Roomy : ℕ → State → History → Type 0
Roomy d s [] = Unit {0}
Roomy d s (m ∷ h) = (draft_named m.call ≡ d → WantsRoom m.call (reply_to s m) → ⊥) × Roomy d (after s m) h

-- the picks are a settled list of these grants for policy p, and there is no other
abbrev pub OnlyList : ℕ → List Mark → Ranking → ℕ → Picks → Type 0
OnlyList owner marks R p picks =
    Settled (lines_of marks) (signs_of marks) owner R p picks
    × ((other : Picks) → Settled (lines_of marks) (signs_of marks) owner R p other → (a : ℕ) → other a ≡ picks a)

-- each policy that a lawful ranking knows has exactly one settled list in each open draft and right
abbrev pub OneSettledList : State → Type 0
OneSettledList s = (R : Ranking) → Lawful R → (p : ℕ) → p < R.known → (d r : ℕ) (x : DraftRecord) → draft_of d s ≡ Some x →
    (picks : Picks) × OnlyList x.owner (of_right d r s.grants) R p picks

-- an obeyed request is answered by the one settled list of its right, for its draft's policy and the ranking in hand
abbrev pub AnswersByTheList : State → Ranking → ℕ → ℕ → ℕ → Reply → Type 0
AnswersByTheList s R d r a said = (told : Answer) → said ≡ decided told →
    (x : DraftRecord) × (draft_of d s ≡ Some x) × (x.policy < R.known)
    × ((picks : Picks) × OnlyList x.owner (of_right d r s.grants) R x.policy picks × (told ≡ by_picks x.owner (of_right d r s.grants) picks a))

-- the call was obeyed
abbrev pub is_obeyed : Reply → Bool
is_obeyed (refused n) = false
is_obeyed done = true
is_obeyed (closed n) = true
is_obeyed (granted n) = true
is_obeyed (withdrawn n) = true
is_obeyed (decided told) = true
is_obeyed (listed n b) = true

-- how many grants were obeyed on draft d since it was last opened, where there were n before the call
abbrev pub tally : ℕ → Call → Reply → ℕ → ℕ
tally d (opening e o p c) said n = cond (is_obeyed said && e == d) 0 n
tally d (closing e a) said n = n
tally d (granting e r c a k) said n = cond (is_obeyed said && e == d) (n + 1) n
tally d (withdrawing e r c a) said n = n
tally d (policing e a p) said n = n
tally d (requesting e r a) said n = n
tally d (listing e r b) said n = n

-- and over the calls of a history
abbrev pub obeyed_grants : ℕ → ℕ → State → History → ℕ
obeyed_grants d n s [] = n
obeyed_grants d n s (m ∷ h) = obeyed_grants d (tally d m.call (reply_to s m) n) (after s m) h

-- what holds of a register with so many places and cells, newly built, after the calls of a history
pub record LawfulHistory (places cells : ℕ) (h : History) : Type 0 where
  pub orderly : Orderly (outcome (empty places cells) h)
  pub sound : SoundThroughout (outcome (empty places cells) h)
  pub «local» : ChangesLocally (outcome (empty places cells) h)
  -- strike the calls on other drafts: on a second register every reply on this draft is the same
  pub separate : (d : ℕ) → Roomy d (empty places cells) h → replies_on d (empty places cells) h ≡ replies (empty places cells) (only d h)
  pub one_list : OneSettledList (outcome (empty places cells) h)
  pub by_the_list : (R : Ranking) → Lawful R → (d r a : ℕ) → AnswersByTheList (outcome (empty places cells) h) R d r a (reply R (outcome (empty places cells) h) (requesting d r a))
  -- the last serial given on an open draft is the number of grants obeyed on it since it was opened
  pub counted : (d : ℕ) (x : DraftRecord) → draft_of d (outcome (empty places cells) h) ≡ Some x → x.last ≡ obeyed_grants d 0 (empty places cells) h

abbrev pub Law : Type 0
Law = (places cells : ℕ) (h : History) → LawfulHistory places cells h
