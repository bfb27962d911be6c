-- The best channel is taken: the word of its level, and that of the PC word.
use Rattle.std.proofs.Common.{ℕ, Some, refl, ◌∙◌}
use Rattle.std.specs.Prelude.{⊤, Result, Ok, Err}
use Rattle.word36.specs.Words.{right}
use Rattle.machine_names.specs.declared.names.ForkName.{ForkName}
use Rattle.plain_units.specs.declared.registers.Regs.{Regs}
use Rattle.plain_model.specs.declared.interrupt.Delivery.{Delivery}
use Rattle.plain_model.specs.declared.interrupt.Found.{Found}
use Rattle.plain_model.specs.declared.interrupt.Inspected.{Inspected}
use Rattle.plain_model.specs.declared.interrupt.Inspected.TheVariants.{Delivers}
use Rattle.plain_model.specs.Inspections.{chosen, level_at}
use Rattle.plain_model.specs.Readings.{Reading, read, words, written_steps}
use Rattle.ka10_unit.specs.declared.taken.Stop.{Stop}
use Rattle.ka10_unit.specs.Gathers.{Framed}
use Rattle.text_pointers.specs.declared.reader.Reader.{Reader}
use Rattle.text_pointers.specs.Reading.{OpensWord, ReadsWord}
use Rattle.text_pointers.proofs.Opening.{open_runs}
use Rattle.text_pointers.proofs.WordReads.{word_runs}
use Rattle.psi_system.specs.Inspecting.{ReadsOn}

module _ (f : ForkName) (p : Framed) (regs : Regs) (table : ℕ) (old : Reader) where
  module _ (found : Found) where
    -- what the reading gives behind the word of the level
    abbrev Gives : ℕ → Reading Inspected
    Gives w = read (Delivers (record { found = found; at = right w }))

    abbrev Rest : ℕ → Reading Inspected
    Rest w = words (written_steps regs (right w)) (λ v. Gives w)

    abbrev Chooses : Reader → Result Delivery Stop → Type 0
    Chooses new result = ReadsOn f p regs old new (chosen regs table (Some found)) (λ (e : Delivery). read (Delivers e)) result

    -- the word of the level stops it
    pub level_stops : (new : Reader) (e : Stop) → ReadsWord f p regs old new (level_at table found.level) (Err e) → Chooses new (Err e)
    level_stops new e word = record { stands = λ d no. absurd (cc no); is = word_runs f p regs old new (level_at table found.level) (Err e) word Rest }

    module _ (mid new : Reader) (w : ℕ) (word : ReadsWord f p regs old mid (level_at table found.level) (Ok w)) where
      -- that of the PC word does
      pub at_stops : (e : Stop) → OpensWord f p mid new (right w) (Err e) → Chooses new (Err e)
      at_stops e opens = record {
        stands = λ d no. absurd (cc no);
        is = word_runs f p regs old mid (level_at table found.level) (Ok w) word Rest ∙ open_runs f p regs mid new (right w) (Err e) opens (Gives w);
      }

      -- the channel is taken
      pub chooses : (x : ⊤) → OpensWord f p mid new (right w) (Ok x) → Chooses new (Ok (record { found = found; at = right w }))
      chooses x opens = record {
        stands = λ d is. opens.stands x refl;
        is = word_runs f p regs old mid (level_at table found.level) (Ok w) word Rest ∙ open_runs f p regs mid new (right w) (Ok x) opens (Gives w);
      }
