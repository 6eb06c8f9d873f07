-- What a step tells. Assumes nothing.
use Rattle.std.specs.Prelude.{ℕ, cond, List, length, Some, None, Ok, Err, Option, Result, nat_le, nat_lt}
use Rattle.commands.specs.declared.faults.StreamFault.{StreamFault}
use Rattle.commands.specs.declared.faults.StreamFault.TheVariants.{ShortBuffer}
use Rattle.commands.specs.declared.steps.Stepped.{Stepped}
use Rattle.commands.specs.Stream.{next_position}

-- what a step at a position tells, where the buffer has room for so many bytes and the line is this text
abbrev pub told : List ℕ → ℕ → ℕ → List ℕ → Result (Option Stepped) StreamFault
told stream at room text =
    cond (nat_le (length stream) at) (Ok None)
    (cond (nat_lt room 32) (Err (ShortBuffer at))
    (Ok (Some (record { length = length text; next = next_position stream at }))))

-- the one where a line was written, else the other
abbrev pub if_line : {A : Type 0} → Result (Option Stepped) StreamFault → A → A → A
if_line (Ok None) x y = y
if_line (Ok (Some line)) x y = x
if_line (Err f) x y = y

abbrev pub line_length : Result (Option Stepped) StreamFault → ℕ
line_length (Ok None) = 0
line_length (Ok (Some line)) = line.length
line_length (Err f) = 0
