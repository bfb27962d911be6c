-- What a reading comes to, over the plain pages and over pages of which some are in no frame.
use Rattle.std.specs.Prelude.{◌≡◌, ℕ, slice_index}
use Rattle.std.specs.Ordering.{nat_cmp}
use Rattle.machine_names.specs.declared.names.ForkName.{ForkName}
use Rattle.machine_names.specs.declared.names.Kind.{Kind}
use Rattle.machine_names.specs.declared.names.Slot.{Slot}
use Rattle.page_contracts.specs.declared.answers.Need.{Need}
use Rattle.plain_units.specs.declared.channel.TheConstants.{ILLEGAL_INSTRUCTION}
use Rattle.plain_units.specs.declared.registers.Regs.{Regs}
use Rattle.plain_pages.specs.PlainPages.{NumberedPages}
use Rattle.plain_units.specs.Steps.{Asked, Planned, Stop, begun, call, done, need, pages_left, plainly, run, stopped, trap}
use Rattle.plain_model.specs.Readings.{Reading, read, words}
use Rattle.ka10_unit.specs.Gathers.{Framed, asks}

-- what a reading comes to: the pages that it leaves, with what was read; or why it stops
pub data Outcome (N A : Type 0) : Type 0 where
  leaves : NumberedPages → A → Outcome N A
  stops : Stop N → Outcome N A

module _ {N A : Type 0} where
  -- it goes on with the word that steps end with, on the pages that they leave; a monitor call among them is none
  abbrev pub goes_on : ForkName → Planned nat_cmp N → (NumberedPages → ℕ → Outcome N A) → Outcome N A
  goes_on f (done t e) next = next (pages_left f t e) (slice_index e.regs.ac 0)
  goes_on f (stopped why) next = stops why
  goes_on f (call number) next = stops (trap ILLEGAL_INSTRUCTION)

  module _ (ask : NumberedPages → Slot → Kind → Asked N NumberedPages) (f : ForkName) (regs : Regs) where
    -- its words in order, each on the pages that those before it leave
    unfoldable pub reads : Reading A → NumberedPages → Outcome N A
    reads (words steps rest) q = goes_on f (run ask f steps (begun q regs.ac)) (λ r w. reads (rest w) r)
    reads (read found) q = leaves q found

-- a reading in a fork's space over pages of which some are in no frame, behind references that leave others
abbrev pub read_over : {A : Type 0} → ForkName → Framed → Regs → Reading A → NumberedPages → Outcome Need A
read_over f p regs = reads (asks f p) f regs

-- a reading over the plain pages
abbrev pub read_on : {A : Type 0} → ForkName → Regs → Reading A → NumberedPages → Outcome ⊥ A
read_on f regs = reads (plainly f) f regs

-- an outcome that needs nothing first is that of the plain machine
abbrev pub IsPlain : {A : Type 0} → Outcome Need A → Outcome ⊥ A → Type 0
IsPlain (leaves q found) x = x ≡ leaves q found
IsPlain (stops (trap channel)) x = x ≡ stops (trap channel)
IsPlain (stops (need n)) x = Unit {0}
