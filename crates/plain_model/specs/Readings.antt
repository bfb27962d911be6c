-- What a turn reads in the space of a fork, one word after another.
use Rattle.std.specs.Prelude.{ℕ, [], ◌∷◌, None, slice_index}
use Rattle.machine_names.specs.declared.names.ForkName.{ForkName}
use Rattle.machine_names.specs.declared.names.Kind.TheVariants.{Read, Write}
use Rattle.plain_units.specs.declared.registers.Regs.{Regs}
use Rattle.plain_units.specs.Steps.{Steps, refers, ends as steps_end}
use Rattle.plain_model.specs.Calls.{Turn, takes}

-- what is left of a reading that is to come to something
pub data Reading (A : Type 0) : Type 0 where
  -- it takes the word that steps end with, whose references are counted by themselves, and goes on with that
  words : Steps → (ℕ → Reading A) → Reading A
  -- it is over, and has come to this
  read : A → Reading A

-- steps that end with one word, as the first accumulator
abbrev pub ends_with : Regs → ℕ → Steps
ends_with regs w = steps_end (record { regs = record regs { ac = w ∷ [] }; put = None; post = None })

-- the steps that take the word at an address, and those that take it where it may be written
abbrev pub word_steps : Regs → ℕ → Steps
word_steps regs a = refers a Read (ends_with regs)

abbrev pub written_steps : Regs → ℕ → Steps
written_steps regs a = refers a Write (ends_with regs)

module _ {F C : Type 0} where
  -- a turn reads in the space of a fork, and goes on with what it has read
  unfoldable pub with_reading : {A : Type 0} → ForkName → Regs → Reading A → (A → Turn F C) → Turn F C
  with_reading f regs (words steps rest) next = takes f regs steps (λ e. with_reading f regs (rest (slice_index e.regs.ac 0)) next)
  with_reading f regs (read found) next = next found
