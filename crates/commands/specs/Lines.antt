-- The line that each reply is written as. Assumes nothing.
use Rattle.std.specs.Prelude.{◌≡◌, ℕ, List, [], ◌∷◌, ◌++◌, Some, None, Ok, Err, codes, decimal, Option, Result}
use Rattle.model.specs.declared.answers.Decision.{Decision}
use Rattle.model.specs.declared.answers.Decision.TheVariants.{Permitted, Denied, Undecided}
use Rattle.rights.specs.declared.faults.Layer.{Layer}
use Rattle.rights.specs.declared.faults.Layer.TheVariants.{Table, Register}
use Rattle.model.specs.Calls.{Reply}
use Rattle.model.specs.Calls.Reply.{refused, done, closed, granted, withdrawn, decided, listed}
use Rattle.rights.specs.Faults.{number, layer_of_row}
use Rattle.commands.specs.declared.faults.StreamFault.{StreamFault}
use Rattle.commands.specs.declared.faults.StreamFault.TheVariants.{ShortBuffer, Unread, Register as OfRegister}
use Rattle.rights.specs.declared.calls.Outcome.{Outcome}
use Rattle.rights.specs.Making.{outcome}
use Rattle.commands.specs.Format.{unread_number}

-- each fault's row of the refusal table
abbrev pub stream_number : StreamFault → ℕ
stream_number (ShortBuffer at) = 17
stream_number (Unread at e) = unread_number e
stream_number (OfRegister at f) = number f

-- where the command is that a fault is about
abbrev pub position : StreamFault → ℕ
position (ShortBuffer at) = at
position (Unread at e) = at
position (OfRegister at f) = at

-- a fault tells the position of the command
abbrev pub TellsPosition : {T : Type 0} → ℕ → Result T StreamFault → Type 0
TellsPosition at (Ok x) = Unit {0}
TellsPosition at (Err f) = position f ≡ at

abbrev pub register_word : Layer → List ℕ
register_word Table = codes "table"
register_word Register = codes "register"

-- the layer that finds a fault
abbrev pub layer_word : StreamFault → List ℕ
layer_word (ShortBuffer at) = codes "stream"
layer_word (Unread at e) = codes "stream"
layer_word (OfRegister at f) = register_word (layer_of_row (number f))

-- what is said of a command: what its call replied, or the number by which the stream refuses it
pub data Said : Type 0 where
  by_call : Reply → Said
  by_stream : ℕ → Said

-- what a command gave
abbrev pub answer : Result Outcome StreamFault → Said
answer (Ok o) = by_call (outcome o)
answer (Err (ShortBuffer at)) = by_stream 17
answer (Err (Unread at e)) = by_stream (unread_number e)
answer (Err (OfRegister at f)) = by_call (refused (number f))

-- a refusal: its number, and the layer that finds it
abbrev pub refusal_words : ℕ → List ℕ → List ℕ
refusal_words n layer = codes "refused " ++ (decimal n ++ (codes " " ++ layer))

-- a decision, with the account whose grant decides
abbrev pub decision_words : Decision → Option ℕ → List ℕ
decision_words Permitted (Some a) = codes "permitted " ++ decimal a
decision_words Permitted None = codes "permitted"
decision_words Denied (Some a) = codes "denied " ++ decimal a
decision_words Denied None = codes "denied"
decision_words Undecided w = codes "undecided"

-- no command lists a sheet
abbrev pub reply_words : Reply → List ℕ
reply_words done = codes "done"
reply_words (closed n) = codes "closed " ++ decimal n
reply_words (granted n) = codes "granted " ++ decimal n
reply_words (withdrawn n) = codes "withdrawn " ++ decimal n
reply_words (decided (d, w)) = decision_words d w
reply_words (listed n b) = []
reply_words (refused n) = refusal_words n (register_word (layer_of_row n))

abbrev pub words : Said → List ℕ
words (by_call r) = reply_words r
words (by_stream n) = refusal_words n (codes "stream")

-- the line of what is said of the command at a position
abbrev pub line : ℕ → Said → List ℕ
line at said = decimal at ++ (codes " " ++ (words said ++ (10 ∷ [])))
