-- The refusal table: when a call is refused, and by which number. Assumes nothing.
use Rattle.std.specs.Prelude.{ℕ, ◌+◌, Bool, true, false, cond, not, ◌||◌, List, [], ◌∷◌, length, is_some, Some, None, count_by, Option, ◌==◌, nat_le, nat_lt}
use Rattle.table.specs.Used.{first}
use Rattle.charts.specs.declared.views.Mark.{Mark}
use Rattle.charts.specs.Reaching.{above}
use Rattle.rulings.specs.Ranking.{Ranking}
use Rattle.model.specs.declared.records.DraftRecord.{DraftRecord}
use Rattle.model.specs.Calls.{Call}
use Rattle.model.specs.Calls.Call.{opening, closing, granting, withdrawing, policing, requesting, listing}
use Rattle.model.specs.Delegation.{lines_of, entitled}
use Rattle.model.specs.Grants.{is_on_draft, of_right, key_of}
use Rattle.model.specs.Keys.{by_grant}
use Rattle.model.specs.Sheets.{sheet}
use Rattle.model.specs.State.{State, draft_of, is_open, reserved}

-- an account above 511
abbrev pub account_too_large : Call → Bool
account_too_large (opening d o p c) = nat_lt 511 o
account_too_large (closing d a) = nat_lt 511 a
account_too_large (granting d r c a k) = nat_lt 511 c || nat_lt 511 a
account_too_large (withdrawing d r c a) = nat_lt 511 c || nat_lt 511 a
account_too_large (policing d a p) = nat_lt 511 a
account_too_large (requesting d r a) = nat_lt 511 a
account_too_large (listing d r b) = false

-- a right above 7
abbrev pub right_too_large : Call → Bool
right_too_large (opening d o p c) = false
right_too_large (closing d a) = false
right_too_large (granting d r c a k) = nat_lt 7 r
right_too_large (withdrawing d r c a) = nat_lt 7 r
right_too_large (policing d a p) = false
right_too_large (requesting d r a) = nat_lt 7 r
right_too_large (listing d r b) = nat_lt 7 r

-- a kind above 2
abbrev pub kind_too_large : Call → Bool
kind_too_large (opening d o p c) = false
kind_too_large (closing d a) = false
kind_too_large (granting d r c a k) = nat_lt 2 k
kind_too_large (withdrawing d r c a) = false
kind_too_large (policing d a p) = false
kind_too_large (requesting d r a) = false
kind_too_large (listing d r b) = false

-- the policy of an open draft is unknown to the ruling in hand
abbrev pub draft_policy_unknown : Ranking → Option DraftRecord → Bool
draft_policy_unknown R None = false
draft_policy_unknown R (Some x) = nat_le R.known x.policy

-- the policy told, or else the draft's, is unknown to the ruling in hand
abbrev pub policy_unknown : Ranking → State → Call → Bool
policy_unknown R s (opening d o p c) = nat_le R.known p
policy_unknown R s (closing d a) = false
policy_unknown R s (granting d r c a k) = false
policy_unknown R s (withdrawing d r c a) = false
policy_unknown R s (policing d a p) = nat_le R.known p
policy_unknown R s (requesting d r a) = draft_policy_unknown R (draft_of d s)
policy_unknown R s (listing d r b) = draft_policy_unknown R (draft_of d s)

-- no cells are to be reserved, or more than 1,024
abbrev pub cells_out_of_range : Call → Bool
cells_out_of_range (opening d o p c) = c == 0 || nat_lt 1024 c
cells_out_of_range (closing d a) = false
cells_out_of_range (granting d r c a k) = false
cells_out_of_range (withdrawing d r c a) = false
cells_out_of_range (policing d a p) = false
cells_out_of_range (requesting d r a) = false
cells_out_of_range (listing d r b) = false

abbrev pub not_open : State → Call → Bool
not_open s (opening d o p c) = false
not_open s (closing d a) = not (is_open d s)
not_open s (granting d r c a k) = not (is_open d s)
not_open s (withdrawing d r c a) = not (is_open d s)
not_open s (policing d a p) = not (is_open d s)
not_open s (requesting d r a) = not (is_open d s)
not_open s (listing d r b) = not (is_open d s)

abbrev pub open_already : State → Call → Bool
open_already s (opening d o p c) = is_open d s
open_already s (closing d a) = false
open_already s (granting d r c a k) = false
open_already s (withdrawing d r c a) = false
open_already s (policing d a p) = false
open_already s (requesting d r a) = false
open_already s (listing d r b) = false

-- every draft place is in use
abbrev pub no_place_left : State → Call → Bool
no_place_left s (opening d o p c) = nat_le s.places (length s.drafts)
no_place_left s (closing d a) = false
no_place_left s (granting d r c a k) = false
no_place_left s (withdrawing d r c a) = false
no_place_left s (policing d a p) = false
no_place_left s (requesting d r a) = false
no_place_left s (listing d r b) = false

-- the cells told and those reserved exceed the grant cells
abbrev pub no_cells_left : State → Call → Bool
no_cells_left s (opening d o p c) = nat_lt s.cells (reserved s.drafts + c)
no_cells_left s (closing d a) = false
no_cells_left s (granting d r c a k) = false
no_cells_left s (withdrawing d r c a) = false
no_cells_left s (policing d a p) = false
no_cells_left s (requesting d r a) = false
no_cells_left s (listing d r b) = false

-- the account is not the owner of the draft
abbrev pub not_owner : ℕ → Option DraftRecord → Bool
not_owner a None = true
not_owner a (Some x) = not (x.owner == a)

abbrev pub caller_not_owner : State → Call → Bool
caller_not_owner s (opening d o p c) = false
caller_not_owner s (closing d a) = not_owner a (draft_of d s)
caller_not_owner s (granting d r c a k) = false
caller_not_owner s (withdrawing d r c a) = false
caller_not_owner s (policing d a p) = not_owner a (draft_of d s)
caller_not_owner s (requesting d r a) = false
caller_not_owner s (listing d r b) = false

-- neither the owner nor named by a delegatable grant there
abbrev pub not_entitled : List Mark → ℕ → Option DraftRecord → Bool
not_entitled marks c None = true
not_entitled marks c (Some x) = not (entitled x.owner marks c)

abbrev pub caller_not_entitled : State → Call → Bool
caller_not_entitled s (opening d o p c) = false
caller_not_entitled s (closing d a) = false
caller_not_entitled s (granting d r c a k) = not_entitled (of_right d r s.grants) c (draft_of d s)
caller_not_entitled s (withdrawing d r c a) = false
caller_not_entitled s (policing d a p) = false
caller_not_entitled s (requesting d r a) = false
caller_not_entitled s (listing d r b) = false

-- a grant by the caller to that account stands there
abbrev pub granted_already : State → Call → Bool
granted_already s (opening d o p c) = false
granted_already s (closing d a) = false
granted_already s (granting d r c a k) = is_some (first (by_grant (key_of d r c a)) s.grants)
granted_already s (withdrawing d r c a) = false
granted_already s (policing d a p) = false
granted_already s (requesting d r a) = false
granted_already s (listing d r b) = false

-- the account is the caller or above the caller
abbrev pub makes_circle : State → Call → Bool
makes_circle s (opening d o p c) = false
makes_circle s (closing d a) = false
makes_circle s (granting d r c a k) = a == c || above (lines_of (of_right d r s.grants)) a c
makes_circle s (withdrawing d r c a) = false
makes_circle s (policing d a p) = false
makes_circle s (requesting d r a) = false
makes_circle s (listing d r b) = false

-- as many grants stand as the draft reserved
abbrev pub full : ℕ → Option DraftRecord → Bool
full n None = true
full n (Some x) = nat_le x.cells n

abbrev pub draft_full : State → Call → Bool
draft_full s (opening d o p c) = false
draft_full s (closing d a) = false
draft_full s (granting d r c a k) = full (count_by (is_on_draft d) s.grants) (draft_of d s)
draft_full s (withdrawing d r c a) = false
draft_full s (policing d a p) = false
draft_full s (requesting d r a) = false
draft_full s (listing d r b) = false

-- serial 65,535 has been given
abbrev pub spent : Option DraftRecord → Bool
spent None = true
spent (Some x) = nat_le 65535 x.last

abbrev pub serials_spent : State → Call → Bool
serials_spent s (opening d o p c) = false
serials_spent s (closing d a) = false
serials_spent s (granting d r c a k) = spent (draft_of d s)
serials_spent s (withdrawing d r c a) = false
serials_spent s (policing d a p) = false
serials_spent s (requesting d r a) = false
serials_spent s (listing d r b) = false

-- no such grant stands
abbrev pub no_such_grant : State → Call → Bool
no_such_grant s (opening d o p c) = false
no_such_grant s (closing d a) = false
no_such_grant s (granting d r c a k) = false
no_such_grant s (withdrawing d r c a) = not (is_some (first (by_grant (key_of d r c a)) s.grants))
no_such_grant s (policing d a p) = false
no_such_grant s (requesting d r a) = false
no_such_grant s (listing d r b) = false

-- the buffer is shorter than the sheet
abbrev pub too_short : Ranking → List Mark → ℕ → Option DraftRecord → Bool
too_short R marks n None = true
too_short R marks n (Some x) = nat_lt n (length (sheet R x marks))

abbrev pub buffer_too_short : Ranking → State → Call → Bool
buffer_too_short R s (opening d o p c) = false
buffer_too_short R s (closing d a) = false
buffer_too_short R s (granting d r c a k) = false
buffer_too_short R s (withdrawing d r c a) = false
buffer_too_short R s (policing d a p) = false
buffer_too_short R s (requesting d r a) = false
buffer_too_short R s (listing d r b) = too_short R (of_right d r s.grants) (length b) (draft_of d s)

-- each row: its number, and whether its case holds
abbrev pub refusal_table : Ranking → State → Call → List (ℕ × Bool)
refusal_table R s c =
    (1, account_too_large c)
    ∷ (2, right_too_large c)
    ∷ (3, kind_too_large c)
    ∷ (4, policy_unknown R s c)
    ∷ (5, cells_out_of_range c)
    ∷ (6, not_open s c)
    ∷ (7, open_already s c)
    ∷ (8, no_place_left s c)
    ∷ (9, no_cells_left s c)
    ∷ (10, caller_not_owner s c)
    ∷ (11, caller_not_entitled s c)
    ∷ (12, granted_already s c)
    ∷ (13, makes_circle s c)
    ∷ (14, draft_full s c)
    ∷ (15, serials_spent s c)
    ∷ (16, no_such_grant s c)
    ∷ (17, buffer_too_short R s c)
    ∷ []

-- the rows that the call for the length of a sheet looks at, which takes no ruling
abbrev pub length_table : State → ℕ → ℕ → List (ℕ × Bool)
length_table s d r = (2, nat_lt 7 r) ∷ (6, not (is_open d s)) ∷ []

abbrev pub topmost : List (ℕ × Bool) → Option ℕ
topmost [] = None
topmost (row ∷ rows) = cond row.1 (Some row.0) (topmost rows)

-- the number by which the call is refused, if it is
abbrev pub refusal : Ranking → State → Call → Option ℕ
refusal R s c = topmost (refusal_table R s c)
