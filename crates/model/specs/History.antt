-- Histories: calls on a register, one after another. Assumes nothing.
use Rattle.std.specs.Prelude.{◌≡◌, List, [], ◌∷◌}
use Rattle.rulings.specs.Ranking.{Ranking, Lawful}
use Rattle.model.specs.Calls.{Call, Reply}
use Rattle.model.specs.Meaning.{reply, next}
use Rattle.model.specs.State.{State, empty}

-- a call, with a lawful ranking in hand: any one, whether a ruling of that ranking is implemented or not
pub record Made : Type 0 where
  pub ranking : Ranking
  pub lawful : Lawful ranking
  pub call : Call

abbrev pub History : Type 0
History = List Made

abbrev pub reply_to : State → Made → Reply
reply_to s m = reply m.ranking s m.call

abbrev pub after : State → Made → State
after s m = next m.ranking s m.call

-- the replies to the calls, each on the state that the one before it left
abbrev pub replies : State → History → List Reply
replies s [] = []
replies s (m ∷ h) = reply_to s m ∷ replies (after s m) h

-- and the state that they leave
abbrev pub outcome : State → History → State
outcome s [] = s
outcome s (m ∷ h) = outcome (after s m) h

-- the state is what some history leaves on an empty register with as many places and cells
abbrev pub Reached : State → Type 0
Reached s = (h : History) × (outcome (empty s.places s.cells) h ≡ s)
