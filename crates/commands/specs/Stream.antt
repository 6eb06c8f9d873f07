-- The commands of a stream, and a run over them. Assumes nothing.
use Rattle.std.specs.Prelude.{ℕ, zero, suc, ◌-◌, Bool, true, false, cond, List, [], ◌∷◌, ◌++◌, length, take, drop, Ok, Err, nat_le}
use Rattle.rulings.specs.Ranking.{Ranking}
use Rattle.model.specs.Calls.Reply.{refused, done, closed, granted, withdrawn, decided, listed}
use Rattle.model.specs.Meaning.{reply, next}
use Rattle.model.specs.State.{State}
use Rattle.commands.specs.Format.{Parsed, parsed}
use Rattle.commands.specs.Lines.{Said, line}
use Rattle.commands.specs.Lines.Said.{by_call, by_stream}

-- the bytes of an input that count
abbrev pub counted : List ℕ → List ℕ
counted input = take 65536 input

-- the command at a position of a stream
abbrev pub command_at : List ℕ → ℕ → Parsed
command_at stream at = parsed (drop at stream)

-- the bytes behind a command: none behind one that cannot be read
abbrev pub rest_of : Parsed → List ℕ
rest_of (Ok (call, rest)) = rest
rest_of (Err n) = []

-- the position of the command behind
abbrev pub next_position : List ℕ → ℕ → ℕ
next_position stream at = length stream - length (rest_of (command_at stream at))

-- what is said of a command
abbrev pub answered : Ranking → State → Parsed → Said
answered R s (Ok (call, rest)) = by_call (reply R s call)
answered R s (Err n) = by_stream n

-- the state that it leaves
abbrev pub carried : Ranking → State → Parsed → State
carried R s (Ok (call, rest)) = next R s call
carried R s (Err n) = s

-- the line of the command at a position
abbrev pub line_at : Ranking → State → List ℕ → ℕ → List ℕ
line_at R s stream at = line at (answered R s (command_at stream at))

abbrev pub is_refused : Said → Bool
is_refused (by_call (refused n)) = true
is_refused (by_call done) = false
is_refused (by_call (closed n)) = false
is_refused (by_call (granted n)) = false
is_refused (by_call (withdrawn n)) = false
is_refused (by_call (decided a)) = false
is_refused (by_call (listed n b)) = false
is_refused (by_stream n) = true

-- at most n commands of the stream from a position on, each with its position
abbrev pub commands_from : ℕ → List ℕ → ℕ → List (ℕ × Parsed)
commands_from zero stream at = []
commands_from (suc n) stream at =
    cond (nat_le (length stream) at) []
    ((at, command_at stream at) ∷ commands_from n stream (next_position stream at))

-- all of them: each takes a byte or more
abbrev pub commands : List ℕ → List (ℕ × Parsed)
commands stream = commands_from (length stream) stream 0

-- a run: the lines of the commands, each on the state that the one before it left
abbrev pub lines : Ranking → State → List (ℕ × Parsed) → List ℕ
lines R s [] = []
lines R s (c ∷ cs) = line c.0 (answered R s c.1) ++ lines R (carried R s c.1) cs

-- and the state that they leave
abbrev pub left_by : Ranking → State → List (ℕ × Parsed) → State
left_by R s [] = s
left_by R s (c ∷ cs) = left_by R (carried R s c.1) cs
