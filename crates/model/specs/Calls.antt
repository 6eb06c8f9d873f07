-- The calls on a register, and what they reply. Assumes nothing.
use Rattle.std.specs.Prelude.{ℕ, List, Option}
use Rattle.model.specs.declared.answers.Decision.{Decision}

-- a sheet is written into a buffer, told by what it holds
pub data Call : Type 0 where
  opening : (draft owner policy cells : ℕ) → Call
  closing : (draft caller : ℕ) → Call
  granting : (draft right caller account kind : ℕ) → Call
  withdrawing : (draft right caller account : ℕ) → Call
  policing : (draft caller policy : ℕ) → Call
  requesting : (draft right account : ℕ) → Call
  listing : (draft right : ℕ) (buffer : List ℕ) → Call

-- the draft that a call is on
abbrev pub draft_named : Call → ℕ
draft_named (opening d o p c) = d
draft_named (closing d a) = d
draft_named (granting d r c a k) = d
draft_named (withdrawing d r c a) = d
draft_named (policing d a p) = d
draft_named (requesting d r a) = d
draft_named (listing d r b) = d

-- the call is refused, with a number of the refusal table; or it is obeyed and tells what follows: a serial, a
-- count, a decision with the account whose grant decides, or the length of a sheet and what the buffer then holds
pub data Reply : Type 0 where
  refused : ℕ → Reply
  done : Reply
  closed : ℕ → Reply
  granted : ℕ → Reply
  withdrawn : ℕ → Reply
  decided : (Decision × Option ℕ) → Reply
  listed : ℕ → List ℕ → Reply
