-- Steps as calls of a history, and what they replied. Assumes nothing.
use Rattle.std.specs.Prelude.{◌≡◌, ℕ, List, map, take, replicate, Ok, Err, vec_items, Result}
use Rattle.rulings.specs.Ranking.{Ranking, Lawful}
use Rattle.model.specs.Calls.{Call, Reply}
use Rattle.model.specs.Calls.Call.{listing}
use Rattle.model.specs.Calls.Reply.{listed}
use Rattle.model.specs.History as history
use Rattle.model.specs.History.{History}
use Rattle.model.specs.State.{State}
use Rattle.rights.specs.Faults.{replied}
use Rattle.rights.specs.Making.{call_of, outcome}
use Rattle.replay.specs.declared.Made.{Made}
use Rattle.replay.specs.declared.Replied.{Replied}
use Rattle.replay.specs.declared.Replied.TheVariants.{Call as OfCall, Sheet as OfSheet}
use Rattle.replay.specs.declared.Step.{Step}
use Rattle.replay.specs.declared.Step.TheVariants.{Call as ByCall, Sheet as BySheet}

abbrev pub call_made : Step → Call
call_made (ByCall c) = call_of c
call_made (BySheet d r room) = listing d r (replicate room 0)

abbrev pub said : Replied → Reply
said (OfCall r) = replied outcome r
said (OfSheet r page) = replied (λ n. listed n (vec_items page)) r

-- a step as a call of a history, where a ruling's ranking is lawful
abbrev pub made_by : {R : Type 0} (ranking : R → Ranking) → ((x : R) → Lawful (ranking x)) → Made R → history.Made
made_by ranking laws m = record { ranking = ranking m.ruling; lawful = laws m.ruling; call = call_made m.step }

abbrev pub history_of : {R : Type 0} (ranking : R → Ranking) → ((x : R) → Lawful (ranking x)) → List (Made R) → History
history_of ranking laws steps = map (made_by ranking laws) steps

-- the register is as the history leaves it, or as a first part of it does where memory was wanting
abbrev pub LeftBy : {T E : Type 0} → Result T E → State → State → History → Type 0
LeftBy (Ok x) before after h = after ≡ history.outcome before h
LeftBy (Err e) before after h = (n : ℕ) × (after ≡ history.outcome before (take n h))
