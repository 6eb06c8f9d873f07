-- Where a stream goes on behind a command. Assumes nothing.
use Rattle.std.proofs.Common.{◌≡◌, ℕ, ◌-◌, ◌<◌, ◌≤◌, true, false, List, [], ◌∷◌, length, drop, is_ok, Some, None, Ok, Result, refl, arith}
use Rattle.std.proofs.lemmas.List.{length-drop}
use Rattle.std.proofs.lemmas.Bool.{cases_lt, le-leb, lt-leb, lt-ltb, le-ltb}
use Rattle.commands.specs.declared.faults.StreamFault.{StreamFault}
use Rattle.rights.specs.declared.calls.Outcome.{Outcome}
use Rattle.commands.specs.Format.{parsed, command_operands}
use Rattle.commands.specs.Lines.{answer}
use Rattle.commands.specs.declared.steps.Stepped.{Stepped}
use Rattle.commands.specs.Steps.{told}
use Rattle.commands.specs.Stream.{rest_of, next_position, is_refused}

-- what lies behind a command is no more than what lies behind its byte
command_behind : (command : ℕ) (bs : List ℕ) → length (rest_of (command_operands command bs)) ≤ length bs
command_behind command bs = grind (arith, length-drop 7 bs, length-drop 4 bs, length-drop 8 bs, length-drop 5 bs)

pub rest_shorter : (bs : List ℕ) → 0 < length bs → length (rest_of (parsed bs)) < length bs
rest_shorter [] some = absurd (omega arith)
rest_shorter (command ∷ bs) some = omega (arith, command_behind command bs)

-- a step goes on, and not past the end
pub next_further : (stream : List ℕ) (at : ℕ) → at < length stream → (at < next_position stream at) × (next_position stream at ≤ length stream)
next_further stream at within =
    let shorter = rest_shorter (drop at stream) (omega (arith, length-drop at stream)) in
    (omega (arith, shorter, length-drop at stream), omega arith)

-- a reply that is a refusal comes from a fault
pub refused_from_fault : (r : Result Outcome StreamFault) → is_refused (answer r) ≡ true → is_ok r ≡ false
refused_from_fault r e = grind arith

pub told_line : (stream : List ℕ) (at room : ℕ) (text : List ℕ) (n m : ℕ) → at < length stream → 32 ≤ room → n ≡ length text → m ≡ next_position stream at → Ok (Some (record { length = n; next = m })) ≡ told stream at room text
told_line stream at room text n m within roomy long further =
    rw (lt-leb (length stream) at within, le-ltb room 32 roomy, long, further) refl

pub ruleset telling = (le-leb, lt-leb, lt-ltb, told_line, rest_shorter, length-drop, refused_from_fault)

-- the line that a step tells
pub line_told : (stream : List ℕ) (at room : ℕ) (text : List ℕ) (line : Stepped) → Ok (Some line) ≡ told stream at room text → (at < length stream) × (line.length ≡ length text) × (line.next ≡ next_position stream at)
line_told stream at room text line e = grind (arith, cases_lt at (length stream), cases_lt room 32, lt-leb, le-leb, lt-ltb, le-ltb)

-- and the end that it tells
pub finished_told : (stream : List ℕ) (at room : ℕ) (text : List ℕ) → Ok None ≡ told stream at room text → length stream ≤ at
finished_told stream at room text e = grind (arith, cases_lt at (length stream), cases_lt room 32, lt-leb, le-leb, lt-ltb, le-ltb)
