-- The word that a delivery has stored, as it is read.
use Rattle.std.specs.Prelude.{◌≡◌, ℕ, Result, Ok}
use Rattle.machine_names.specs.declared.names.ForkName.{ForkName}
use Rattle.page_contracts.specs.declared.answers.Need.{Need}
use Rattle.plain_units.specs.declared.registers.Regs.{Regs}
use Rattle.plain_model.specs.InterruptCalls.{word_stored}
use Rattle.ka10_unit.specs.declared.taken.Stop.{Stop}
use Rattle.ka10_unit.specs.Gathers.{Framed}
use Rattle.text_pointers.specs.declared.reader.Reader.{Reader}
use Rattle.text_pointers.specs.Outcomes.{IsPlain, Outcome, leaves, read_on, read_over}
use Rattle.text_pointers.specs.Reading.{Stands, pages_so_far, went_on}

-- how the reading ended, or why it stopped
abbrev pub stored_ended : Framed → Reader → Result ℕ Stop → Outcome Need ℕ
stored_ended p new result = went_on result (leaves (pages_so_far p new))

-- THE WORD OF A LEVEL WAS READ: over these pages its reading comes to this, and over the plain ones where it needs nothing first
pub record ReadsStored (f : ForkName) (p : Framed) (regs : Regs) (table level : ℕ) (new : Reader) (result : Result ℕ Stop) : Type 0 where
  pub stands : (w : ℕ) → result ≡ Ok w → Stands f p new
  pub is : read_over f p regs (word_stored regs table level) p.pages ≡ stored_ended p new result
  pub plain : IsPlain (stored_ended p new result) (read_on f regs (word_stored regs table level) p.pages)
