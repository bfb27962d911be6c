-- One step of an effective address.
use Rattle.std.specs.Prelude.{ℕ, List}
use Rattle.plain_units.specs.Addressing.{indexed, last_taken}
use Rattle.ka10_deeds.specs.declared.word_fields.Address.{Address}

-- the address that a word names which isn't indirect, with the last word taken for it
abbrev pub addressed : List ℕ → ℕ → Address
addressed ac word = record { e = indexed ac word; last = last_taken ac word }
