-- Calls as values, and what they tell. Assumes nothing.
use Rattle.std.specs.Prelude.{Result}
use Rattle.model.specs.Calls as calls
use Rattle.model.specs.Calls.{Reply}
use Rattle.model.specs.Calls.Call.{opening, closing, granting, withdrawing, policing, requesting}
use Rattle.model.specs.Calls.Reply.{done, closed, granted, withdrawn, decided}
use Rattle.model.specs.Grants.{key_of}
use Rattle.rights.specs.declared.calls.Call.{Call}
use Rattle.rights.specs.declared.calls.Call.TheVariants.{Open, Close, Grant, Withdraw, Policy, Request}
use Rattle.rights.specs.declared.calls.Outcome.{Outcome}
use Rattle.rights.specs.declared.faults.RegisterFault.{RegisterFault}
use Rattle.rights.specs.Faults.{TellsDraft, TellsGrant}
use Rattle.rights.specs.declared.calls.Outcome.TheVariants.{Done, Closed, Granted, Withdrawn, Decided}

abbrev pub call_of : Call → calls.Call
call_of (Open d o p c) = opening d o p c
call_of (Close d a) = closing d a
call_of (Grant d r c a k) = granting d r c a k
call_of (Withdraw d r c a) = withdrawing d r c a
call_of (Policy d a p) = policing d a p
call_of (Request d r a) = requesting d r a

-- what an obeyed call tells, as a reply
abbrev pub outcome : Outcome → Reply
outcome Done = done
outcome (Closed n) = closed n
outcome (Granted n) = granted n
outcome (Withdrawn n) = withdrawn n
outcome (Decided d w) = decided (d, w)

-- a fault of a table tells the draft that the call is on, or the grant that it names
abbrev pub TellsOf : {T : Type 0} → Call → Result T RegisterFault → Type 0
TellsOf (Open d o p c) r = TellsDraft d r
TellsOf (Close d a) r = TellsDraft d r
TellsOf (Grant d r c a k) result = TellsGrant (key_of d r c a) result
TellsOf (Withdraw d r c a) result = TellsGrant (key_of d r c a) result
TellsOf (Policy d a p) r = TellsDraft d r
TellsOf (Request d r a) result = TellsDraft d result
