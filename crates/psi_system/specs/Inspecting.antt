-- What an inspection of a fork comes to, over pages of which some are in no frame, and over the plain ones.
use Rattle.std.specs.Prelude.{◌≡◌, ℕ, false, Option, None, Some, Result, Ok, Err, if◌then◌else◌, slice_set}
use Rattle.std.specs.Ordering.{nat_cmp}
use Rattle.machine_names.specs.declared.names.ForkName.{ForkName}
use Rattle.page_contracts.specs.declared.answers.Need.{Need}
use Rattle.plain_units.specs.declared.registers.Regs.{Regs}
use Rattle.plain_units.specs.declared.unit.Put.{Put}
use Rattle.plain_units.specs.Steps.{is_accumulator}
use Rattle.plain_model.specs.declared.fork.Body.{Body}
use Rattle.plain_model.specs.declared.fork.Fork.{Fork}
use Rattle.plain_model.specs.declared.interrupt.Delivery.{Delivery}
use Rattle.plain_model.specs.declared.interrupt.Inspected.{Inspected}
use Rattle.plain_model.specs.declared.interrupt.Inspected.TheVariants as inspected
use Rattle.plain_model.specs.Calls.{Came}
use Rattle.plain_model.specs.Inspections.{inspected as inspected_on, inspected_by, inspection}
use Rattle.plain_model.specs.Readings.{Reading}
use Rattle.ka10_unit.specs.declared.taken.Stop.{Stop}
use Rattle.ka10_unit.specs.declared.taken.Stop.TheVariants as stop
use Rattle.ka10_unit.specs.Gathers.{Framed, weight}
use Rattle.ka10_unit.specs.Taking.{IsOpenAt}
use Rattle.text_pointers.specs.declared.reader.Reader.{Reader}
use Rattle.text_pointers.specs.Outcomes.{Outcome, leaves, read_over}
use Rattle.text_pointers.specs.Reading.{Stands, pages_so_far, went_on}

-- a fork of a name, with a body
pub record IsFork (f : Fork) (who : ForkName) (has : Body) : Type 0 where
  pub name : f.name ≡ who
  pub body : f.body ≡ has

-- one of them, wherever it stands in its job
abbrev pub fork_with : ForkName → Body → Fork
fork_with name body = record { name = name; slot = 0; superior = None; frozen = false; body = body }

-- a reader that has referred to nothing
pub record IsNew (r : Reader) : Type 0 where
  pub page : r.page ≡ None
  pub weight_is : weight r.gather ≡ 0

-- a reading goes on from what a part of it gave, on the pages that this leaves, or it stops as the part did
pub record ReadsOn {A B : Type 0} (f : ForkName) (p : Framed) (regs : Regs) (old new : Reader) (reading : Reading A) (rest : B → Reading A) (result : Result B Stop) : Type 0 where
  pub stands : (x : B) → result ≡ Ok x → Stands f p new
  pub is : read_over f p regs reading (pages_so_far p old) ≡ went_on result (λ x. read_over f p regs (rest x) (pages_so_far p new))

-- ---- the PC word

-- the registers with a word at an address, where that is an accumulator's; and the word that is to be stored elsewhere
abbrev pub with_word : Regs → ℕ → ℕ → Regs
with_word regs at word = record regs { ac = if is_accumulator at then slice_set regs.ac at word else regs.ac }

abbrev pub put_for : ℕ → ℕ → Option Put
put_for at word = if is_accumulator at then None else Some (record { at = at; word = word })

-- A DELIVERY'S PC WORD CAN BE STORED behind what was referred to, on the pages that this leaves
abbrev pub Opens : ForkName → Framed → Reader → Delivery → Type 0
Opens f p r delivery = is_accumulator delivery.at ≡ false → IsOpenAt f (record p { pages = pages_so_far p r }) delivery.at

-- so it can, where one is delivered
abbrev pub Delivers : ForkName → Framed → Reader → Inspected → Type 0
Delivers f p r (inspected.Delivers delivery) = Opens f p r delivery
Delivers f p r other = Unit {0}

-- ---- the whole

-- what an inspection came to, over these pages
abbrev pub ended : Framed → Reader → Result Inspected Stop → Outcome Need Inspected
ended p new result = went_on result (leaves (pages_so_far p new))

-- how the plain machine's came out: so, on these pages; or it forces the fork; nothing is said where something is needed first
abbrev pub CameOut : Framed → Reader → Came nat_cmp Inspected → Result Inspected Stop → Type 0
CameOut p new came (Ok what) = (inspected_by came.end ≡ what) × (came.pages ≡ pages_so_far p new)
CameOut p new came (Err (stop.Trap channel)) = inspected_by came.end ≡ inspected.Forces channel
CameOut p new came (Err (stop.Need n)) = Unit {0}

-- A FORK WAS INSPECTED: over these pages its reading comes to this, and over the plain ones where it needs nothing first; and the PC word
-- of a channel that is delivered can be stored
pub record Inspects (name : ForkName) (body : Body) (p : Framed) (new : Reader) (result : Result Inspected Stop) : Type 0 where
  pub stands : (what : Inspected) → result ≡ Ok what → Stands name p new
  pub opens : (what : Inspected) → result ≡ Ok what → Delivers name p new what
  pub is : (f : Fork) → IsFork f name body → read_over name p body.regs (inspection f) p.pages ≡ ended p new result
  pub came : (f : Fork) → IsFork f name body → CameOut p new (inspected_on f p.pages) result
