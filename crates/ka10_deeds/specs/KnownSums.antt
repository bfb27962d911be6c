-- What sums leave whose flags are known beforehand.
use Rattle.std.specs.Prelude.{ℕ, ◌-◌, true, nat_lt, if◌then◌else◌, Some}
use Rattle.word36.specs.Arithmetic.{Outcome, carries, moved}
use Rattle.word36.specs.Words.{signed}
use Rattle.word36.specs.Tests.{condition_holds}
use Rattle.plain_units.specs.declared.registers.Regs.{Regs}
use Rattle.plain_units.specs.Deeds.{Deed, back, next_pc, nothing_done, set_with, skip_pc, unless_zero}

-- a word that came with both carries, and with no other flag
abbrev pub with_carries : ℕ → Outcome
with_carries word = record (moved word) { flags = carries true true }

-- the registers with both carries
abbrev pub carried : Regs → Regs
carried regs = record regs { flags = set_with regs.flags (carries true true) }

-- AOJ, SOJ, AOS and SOS, where the count comes to a word and sets no flag
abbrev pub counted_to : ℕ → Regs → ℕ → ℕ → ℕ → Deed
counted_to code regs ac e word =
    if nat_lt code 8 then record (nothing_done regs) { ac = Some word; pc = if condition_holds code (signed word) then e else next_pc regs }
    else record (nothing_done regs) {
      ac = unless_zero ac word;
      pc = if condition_holds (code - 8) (signed word) then skip_pc regs else next_pc regs;
      store = back e word;
    }
