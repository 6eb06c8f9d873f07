-- The bytes of the commands. Assumes nothing.
use Rattle.std.specs.Prelude.{ℕ, ◌+◌, ◌*◌, cond, List, [], ◌∷◌, length, drop, Ok, Err, Result, ◌==◌, nat_le, slice_index}
use Rattle.std.specs.Borrow.{Bor}
use Rattle.model.specs.Calls.{Call}
use Rattle.model.specs.Calls.Call.{opening, closing, granting, withdrawing, policing, requesting}
use Rattle.rights.specs.declared.calls.Call.{Call as Made}
use Rattle.rights.specs.Making.{call_of}
use Rattle.commands.specs.declared.command.Unread.{Unread}
use Rattle.commands.specs.declared.command.Unread.TheVariants.{Unknown, CutOff}

-- a call and the bytes behind it, or the number by which the bytes are refused
abbrev pub Parsed : Type 0
Parsed = Result (Call × List ℕ) ℕ

-- the number of one byte, and that of two, the high byte first, at a place
abbrev pub byte_at : List ℕ → ℕ → ℕ
byte_at bytes i = slice_index bytes i

abbrev pub pair_at : List ℕ → ℕ → ℕ
pair_at bytes i = byte_at bytes i * 256 + byte_at bytes (i + 1)

-- a call whose operands take the first n bytes
abbrev pub operands : ℕ → Call → List ℕ → Parsed
operands n call bytes = cond (nat_le n (length bytes)) (Ok (call, drop n bytes)) (Err 19)

abbrev pub open_operands : List ℕ → Parsed
open_operands bs = operands 7 (opening (pair_at bs 0) (pair_at bs 2) (byte_at bs 4) (pair_at bs 5)) bs

abbrev pub close_operands : List ℕ → Parsed
close_operands bs = operands 4 (closing (pair_at bs 0) (pair_at bs 2)) bs

abbrev pub grant_operands : List ℕ → Parsed
grant_operands bs = operands 8 (granting (pair_at bs 0) (byte_at bs 2) (pair_at bs 3) (pair_at bs 5) (byte_at bs 7)) bs

abbrev pub withdraw_operands : List ℕ → Parsed
withdraw_operands bs = operands 7 (withdrawing (pair_at bs 0) (byte_at bs 2) (pair_at bs 3) (pair_at bs 5)) bs

abbrev pub policy_operands : List ℕ → Parsed
policy_operands bs = operands 5 (policing (pair_at bs 0) (pair_at bs 2) (byte_at bs 4)) bs

abbrev pub request_operands : List ℕ → Parsed
request_operands bs = operands 5 (requesting (pair_at bs 0) (byte_at bs 2) (pair_at bs 3)) bs

-- the call of a command byte with the bytes behind it
abbrev pub command_operands : ℕ → List ℕ → Parsed
command_operands command bs =
    cond (command == 1) (open_operands bs)
    (cond (command == 2) (close_operands bs)
    (cond (command == 3) (grant_operands bs)
    (cond (command == 4) (withdraw_operands bs)
    (cond (command == 5) (policy_operands bs)
    (cond (command == 6) (request_operands bs)
    (Err 18))))))

-- the call at the front of the bytes
abbrev pub parsed : List ℕ → Parsed
parsed [] = Err 19
parsed (command ∷ bs) = command_operands command bs

-- the number by which bytes are refused
abbrev pub unread_number : Unread → ℕ
unread_number Unknown = 18
unread_number CutOff = 19

-- what was read, as a call
abbrev pub read : Result (Made × Bor (List ℕ)) Unread → Parsed
read (Ok (command, rest)) = Ok (call_of command, rest.now)
read (Err e) = Err (unread_number e)
