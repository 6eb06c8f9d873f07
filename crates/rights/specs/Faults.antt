-- The numbers and layers of the register's faults. Assumes nothing.
use Rattle.std.specs.Prelude.{◌≡◌, ℕ, if◌then◌else◌, ◌||◌, Some, None, Ok, Err, IfErr, Option, Result, ◌==◌}
use Rattle.table.specs.declared.TableFault.TheVariants.{Absent, Present, Full}
use Rattle.rights.specs.declared.faults.Layer.{Layer}
use Rattle.rights.specs.declared.faults.Layer.TheVariants.{Table, Register}
use Rattle.rights.specs.declared.faults.RegisterFault.{RegisterFault}
use Rattle.rights.specs.declared.faults.RegisterFault.TheVariants.{AccountTooLarge, RightTooLarge, KindTooLarge, PolicyUnknown, CellsOutOfRange, Draft, NoCellsLeft, NotOwner, NotEntitled, Grant, Circle, DraftFull, SerialsSpent, BufferTooShort}
use Rattle.model.specs.declared.records.GrantKey.{GrantKey}
use Rattle.model.specs.Calls.{Reply}
use Rattle.model.specs.Calls.Reply.{refused}

-- each fault's row of the refusal table
abbrev pub number : RegisterFault → ℕ
number AccountTooLarge = 1
number RightTooLarge = 2
number KindTooLarge = 3
number PolicyUnknown = 4
number CellsOutOfRange = 5
number (Draft (Absent d)) = 6
number (Draft (Present d)) = 7
number (Draft Full) = 8
number NoCellsLeft = 9
number NotOwner = 10
number NotEntitled = 11
number (Grant (Absent k)) = 16
number (Grant (Present k)) = 12
number (Grant Full) = 14
number Circle = 13
number DraftFull = 14
number SerialsSpent = 15
number BufferTooShort = 17

-- the layer that finds what a row of the table refuses
abbrev pub layer_of_row : ℕ → Layer
layer_of_row n = if n == 6 || (n == 7 || (n == 8 || (n == 12 || n == 16))) then Table else Register

-- the number by which a call's result refuses, if it does
abbrev pub refused_by : {T : Type 0} → Result T RegisterFault → Option ℕ
refused_by (Ok x) = None
refused_by (Err f) = Some (number f)

-- a call's result as a reply, where `told` is the reply by what an obeyed one tells
abbrev pub replied : {T : Type 0} → (T → Reply) → Result T RegisterFault → Reply
replied told (Ok x) = told x
replied told (Err f) = refused (number f)

-- a fault of a table tells the draft d, or the grant's key
abbrev pub KeyTold : ℕ → (GrantKey → Type 0) → RegisterFault → Type 0
KeyTold d Key AccountTooLarge = Unit {0}
KeyTold d Key RightTooLarge = Unit {0}
KeyTold d Key KindTooLarge = Unit {0}
KeyTold d Key PolicyUnknown = Unit {0}
KeyTold d Key CellsOutOfRange = Unit {0}
KeyTold d Key (Draft (Absent k)) = k ≡ d
KeyTold d Key (Draft (Present k)) = k ≡ d
KeyTold d Key (Draft Full) = Unit {0}
KeyTold d Key NoCellsLeft = Unit {0}
KeyTold d Key NotOwner = Unit {0}
KeyTold d Key NotEntitled = Unit {0}
KeyTold d Key (Grant (Absent k)) = Key k
KeyTold d Key (Grant (Present k)) = Key k
KeyTold d Key (Grant Full) = ⊥
KeyTold d Key Circle = Unit {0}
KeyTold d Key DraftFull = Unit {0}
KeyTold d Key SerialsSpent = Unit {0}
KeyTold d Key BufferTooShort = Unit {0}

-- of a call that names no grant: no fault speaks of one
abbrev pub TellsDraft : {T : Type 0} → ℕ → Result T RegisterFault → Type 0
TellsDraft d result = IfErr result (KeyTold d (λ k. ⊥))

-- of a call that names one
abbrev pub TellsGrant : {T : Type 0} → GrantKey → Result T RegisterFault → Type 0
TellsGrant key result = IfErr result (KeyTold key.draft (λ k. k ≡ key))
