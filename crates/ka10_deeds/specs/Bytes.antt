-- Byte instructions as deeds: the pointer's, and that of the byte's word.
use Rattle.std.specs.Prelude.{ℕ, true, Some}
use Rattle.word36.specs.Bytes.{incremented, loaded, deposited}
use Rattle.plain_units.specs.declared.registers.Regs.{Regs}
use Rattle.plain_units.specs.Steps.{Steps}
use Rattle.plain_units.specs.Deeds.{Deed, back, in_ac, nothing_done}
use Rattle.plain_units.specs.Instructions.{finishes, loads_byte, deposits_byte, first_part_done}
use Rattle.ka10_deeds.specs.declared.bytes.ByteStep.{ByteStep}
use Rattle.ka10_deeds.specs.declared.bytes.ByteStep.TheVariants.{Increment, FirstPart, Load, LoadSecond, Deposit, DepositSecond}

-- the pointer at an address is incremented
abbrev pub pointer_stepped : Regs → ℕ → ℕ → Deed
pointer_stepped regs e p = record (nothing_done regs) { store = back e (incremented p) }

-- the same, and the instruction is done again, with the mark of its first part
abbrev pub first_part : Regs → ℕ → ℕ → Deed
first_part regs e p = record (nothing_done regs) { flags = record regs.flags { bis = true }; pc = regs.pc; store = back e (incremented p) }

-- the byte of a word goes to the accumulator
abbrev pub byte_loaded : Regs → ℕ → ℕ → Deed
byte_loaded regs p w = record (nothing_done regs) { ac = Some (loaded p w) }

-- the low bits of the accumulator go into the word at an address
abbrev pub byte_deposited : Regs → ℕ → ℕ → ℕ → ℕ → Deed
byte_deposited regs ac p e w = record (nothing_done regs) { store = back e (deposited p w (in_ac regs ac)) }

-- the rest of the unit behind the pointer, which stands at e
abbrev pub steps_of : ByteStep → Regs → ℕ → ℕ → ℕ → Steps
steps_of Increment regs ac e p = finishes regs ac (pointer_stepped regs e p)
steps_of FirstPart regs ac e p = finishes regs ac (first_part regs e p)
steps_of Load regs ac e p = loads_byte regs ac p
steps_of LoadSecond regs ac e p = loads_byte (first_part_done regs) ac p
steps_of Deposit regs ac e p = deposits_byte regs ac p
steps_of DepositSecond regs ac e p = deposits_byte (first_part_done regs) ac p
