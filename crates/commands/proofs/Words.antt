-- How long the words of a line are. Assumes nothing.
use Rattle.std.proofs.Common.{◌≤◌, length, lit≤}
use Rattle.rights.specs.declared.faults.Layer.TheVariants.{Table, Register}
use Rattle.rights.specs.Faults.{number, layer_of_row}
use Rattle.commands.specs.declared.faults.StreamFault.{StreamFault}
use Rattle.commands.specs.declared.faults.StreamFault.TheVariants.{ShortBuffer, Unread, Register as OfRegister}
use Rattle.commands.specs.Lines.{layer_word, register_word}

pub layer_short : (f : StreamFault) → length (layer_word f) ≤ 8
layer_short (ShortBuffer at) = lit≤ tt
layer_short (Unread at e) = lit≤ tt
layer_short (OfRegister at f) = elim (layer_of_row (number f)) as (λ l. length (register_word l) ≤ 8) [ Table ↦ lit≤ tt | Register ↦ lit≤ tt ]
