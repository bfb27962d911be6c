-- How a turn is to end, over the plain pages and over pages of which some are in no frame; and the deposit of the next byte of a string.
use Rattle.std.specs.Prelude.{◌≡◌, ℕ, None, Result, Ok, Err}
use Rattle.std.specs.Ordering.{nat_cmp}
use Rattle.machine_names.specs.declared.names.ForkName.{ForkName}
use Rattle.machine_names.specs.declared.names.Kind.{Kind}
use Rattle.machine_names.specs.declared.names.Slot.{Slot}
use Rattle.page_contracts.specs.declared.answers.Need.{Need}
use Rattle.plain_units.specs.declared.channel.TheConstants.{ILLEGAL_INSTRUCTION}
use Rattle.plain_units.specs.declared.registers.Regs.{Regs}
use Rattle.plain_units.specs.Steps.{Asked, Planned, begun, call, done, pages_left, put_into, run, stopped, trap}
use Rattle.plain_pages.specs.PlainPages.{NumberedPages}
use Rattle.plain_model.specs.declared.call.ByteChange.{ByteChange}
use Rattle.plain_model.specs.declared.call.End.{End}
use Rattle.plain_model.specs.declared.call.End.TheVariants.{Done}
use Rattle.plain_model.specs.PointedTexts.{address_steps}
use Rattle.plain_model.specs.StringCalls.{deposit_steps}
use Rattle.page_gather.specs.Gathering.{Gathers, left_of}
use Rattle.ka10_unit.specs.declared.taken.Stop.{Stop}
use Rattle.ka10_unit.specs.Gathers.{Framed, asks}
use Rattle.ka10_unit.specs.Taking.{CanPut, stop_of}
use Rattle.text_pointers.specs.Outcomes.{Outcome, goes_on, leaves, stops}
use Rattle.string_io.specs.declared.plan.Plan.{Plan}

-- the pages that what a plan refers to leaves, with its word stored
abbrev pub pages_planned : Framed → Plan → NumberedPages
pages_planned p plan = put_into plan.fork (left_of p.pages plan.gather) plan.put

-- what a plan refers to goes through, and its word can be stored behind that
pub record CanCarry (f : ForkName) (p : Framed) (plan : Plan) : Type 0 where
  pub fork : plan.fork ≡ f
  pub gathers : Gathers p.pages p.scene plan.gather
  pub put : CanPut f (record p { pages = left_of p.pages plan.gather }) plan.put

-- what a plan comes to, or why a turn stops
abbrev pub planned_as : Framed → Result Plan Stop → Outcome Need (End ByteChange)
planned_as p (Ok plan) = leaves (pages_planned p plan) plan.ending
planned_as p (Err e) = stops (stop_of e)

-- ---- the deposit of a byte

-- a turn ends with a change, and the registers of steps: with the pages that they leave, and the word that they store; a monitor call
-- among them is none
abbrev pub ends_on : {N : Type 0} → ForkName → ByteChange → Planned nat_cmp N → Outcome N (End ByteChange)
ends_on f change (done t e) = leaves (pages_left f t e) (Done change e.regs None None)
ends_on f change (stopped why) = stops why
ends_on f change (call number) = stops (trap ILLEGAL_INSTRUCTION)

-- what the deposit of a byte comes to where a pointer names it: its address, and then its word
module _ {N : Type 0} (ask : NumberedPages → Slot → Kind → Asked N NumberedPages) (f : ForkName) (change : ByteChange) (regs told : Regs) (pointer byte : ℕ) where
  abbrev pub deposit_at : NumberedPages → ℕ → Outcome N (End ByteChange)
  deposit_at q e = ends_on f change (run ask f (deposit_steps told pointer byte e) (begun q regs.ac))

  abbrev pub deposits : NumberedPages → Outcome N (End ByteChange)
  deposits q = goes_on f (run ask f (address_steps regs pointer) (begun q regs.ac)) deposit_at

-- A BYTE IS TO BE DEPOSITED behind which a turn ends with a change: over these pages that comes to this
pub record Deposits (f : ForkName) (p : Framed) (change : ByteChange) (regs told : Regs) (pointer byte : ℕ) (result : Result Plan Stop) : Type 0 where
  pub stands : (plan : Plan) → result ≡ Ok plan → CanCarry f p plan
  pub is : deposits (asks f p) f change regs told pointer byte p.pages ≡ planned_as p result

-- the same of a deposit at an address, behind references that leave such pages
pub record DepositsAt (f : ForkName) (p : Framed) (q : NumberedPages) (change : ByteChange) (regs told : Regs) (pointer byte e : ℕ) (result : Result Plan Stop) : Type 0 where
  pub stands : (plan : Plan) → result ≡ Ok plan → CanCarry f p plan
  pub is : deposit_at (asks f p) f change regs told pointer byte q e ≡ planned_as p result
