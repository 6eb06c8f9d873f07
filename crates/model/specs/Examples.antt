-- Calls worked out by computing: owner 1, right 0 on draft 7 of 8 cells, under the house ruling. Assumes nothing.
use Rattle.std.specs.Prelude.{◌≡◌, ℕ, List, [], ◌∷◌, map, Some, None}
use Rattle.rulings.specs.House.{house}
use Rattle.model.specs.declared.answers.Decision.TheVariants.{Permitted, Denied, Undecided}
use Rattle.model.specs.Calls.{Call, Reply}
use Rattle.model.specs.Calls.Call.{opening, granting, withdrawing, policing, requesting}
use Rattle.model.specs.Calls.Reply.{refused, done, granted, withdrawn, decided}
use Rattle.model.specs.Meaning.{reply, next}
use Rattle.model.specs.State.{State, empty}

abbrev told_from : State → List Call → List Reply
told_from s [] = []
told_from s (c ∷ calls) = reply house s c ∷ told_from (next house s c) calls

-- the replies to the calls, each on the state that the one before it left, the first on an empty register
abbrev told_by : List Call → List Reply
told_by calls = told_from (empty 256 4096) calls

abbrev opens : ℕ → Call
opens policy = opening 7 1 policy 8

abbrev denies : ℕ → ℕ → Call
denies from to = granting 7 0 from to 0

abbrev permits : ℕ → ℕ → Call
permits from to = granting 7 0 from to 1

abbrev delegates : ℕ → ℕ → Call
delegates from to = granting 7 0 from to 2

abbrev withdraws : ℕ → ℕ → Call
withdraws from to = withdrawing 7 0 from to

abbrev sets : ℕ → Call
sets policy = policing 7 1 policy

abbrev asks : ℕ → Call
asks account = requesting 7 0 account

abbrev permitted_by : ℕ → Reply
permitted_by account = decided (Permitted, Some account)

abbrev denied_by : ℕ → Reply
denied_by account = decided (Denied, Some account)

abbrev undecided : Reply
undecided = decided (Undecided, None)

-- the owner alone is permitted
abbrev no_grants : List Call
no_grants = opens 0 ∷ asks 1 ∷ asks 2 ∷ []

-- two grants to 4, one that permits and one that denies, under each policy
abbrev rivals : List Call
rivals =
    opens 0 ∷ delegates 1 2 ∷ delegates 1 3 ∷ permits 2 4 ∷ denies 3 4
    ∷ asks 4 ∷ sets 1 ∷ asks 4 ∷ sets 2 ∷ asks 4 ∷ sets 3 ∷ asks 4 ∷ []

-- the owner's grant to 3 overrides that of 2
abbrev overruled : List Call
overruled = opens 0 ∷ delegates 1 2 ∷ delegates 2 3 ∷ permits 3 4 ∷ denies 1 3 ∷ asks 3 ∷ asks 4 ∷ []

-- a denying grant of 3 to 2 puts 3 above 2
abbrev denied_but_above : List Call
denied_but_above = opens 2 ∷ delegates 1 2 ∷ delegates 1 3 ∷ denies 3 2 ∷ permits 2 4 ∷ denies 3 4 ∷ asks 4 ∷ []

-- 4 still has the right from 3 once 2 has lost it
abbrev two_ways : List Call
two_ways =
    opens 0 ∷ delegates 1 2 ∷ delegates 1 3 ∷ delegates 2 4 ∷ delegates 3 4 ∷ permits 4 5
    ∷ withdraws 1 2 ∷ asks 5 ∷ []

abbrev to_oneself : List Call
to_oneself = opens 0 ∷ permits 1 1 ∷ []

abbrev twice : List Call
twice = opens 0 ∷ permits 1 2 ∷ denies 1 2 ∷ []

-- the sample with grants, which the trials run as a stream
abbrev session : List Call
session =
    opens 1 ∷ delegates 1 2 ∷ delegates 1 3 ∷ permits 2 4 ∷ denies 3 4
    ∷ asks 4 ∷ denies 4 1 ∷ withdraws 1 2 ∷ asks 4 ∷ []

abbrev pub WorkedExamples : Type 0
WorkedExamples =
    map told_by (no_grants ∷ rivals ∷ overruled ∷ denied_but_above ∷ two_ways ∷ to_oneself ∷ twice ∷ session ∷ [])
    ≡ ((done ∷ permitted_by 1 ∷ undecided ∷ [])
    ∷ (done ∷ granted 1 ∷ granted 2 ∷ granted 3 ∷ granted 4
    ∷ permitted_by 2 ∷ done ∷ denied_by 3 ∷ done ∷ permitted_by 2 ∷ done ∷ denied_by 3 ∷ [])
    ∷ (done ∷ granted 1 ∷ granted 2 ∷ granted 3 ∷ granted 4 ∷ denied_by 1 ∷ undecided ∷ [])
    ∷ (done ∷ granted 1 ∷ granted 2 ∷ granted 3 ∷ granted 4 ∷ granted 5 ∷ denied_by 3 ∷ [])
    ∷ (done ∷ granted 1 ∷ granted 2 ∷ granted 3 ∷ granted 4 ∷ granted 5 ∷ withdrawn 2 ∷ permitted_by 4 ∷ [])
    ∷ (done ∷ refused 13 ∷ [])
    ∷ (done ∷ granted 1 ∷ refused 12 ∷ [])
    ∷ (done ∷ granted 1 ∷ granted 2 ∷ granted 3 ∷ granted 4 ∷ denied_by 3 ∷ refused 11 ∷ withdrawn 2 ∷ denied_by 3 ∷ [])
    ∷ [])
