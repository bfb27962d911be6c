-- Sixteen words of a fork from an address on, referred to in order.
use Rattle.std.specs.Prelude.{◌≡◌, ℕ, ◌+◌, ◌-◌, ◌%◌, ◌^◌, ◌<◌, List, [], if◌then◌else◌, None, Some, Result, Ok, Err, false}
use Rattle.machine_names.specs.declared.names.TheConstants.{ACCUMULATORS}
use Rattle.machine_names.specs.declared.names.ForkName.{ForkName}
use Rattle.machine_names.specs.declared.names.Kind.{Kind}
use Rattle.machine_names.specs.declared.names.Kind.TheVariants.{Write}
use Rattle.plain_units.specs.declared.registers.Regs.{Regs}
use Rattle.plain_pages.specs.PlainPages.{NumberedPages}
use Rattle.plain_units.specs.Steps.{begun, done, stopped, is_accumulator, put_into}
use Rattle.plain_units.specs.Blocks.{block_steps, steps_on}
use Rattle.ka10_unit.specs.declared.taken.Taken.{Taken}
use Rattle.ka10_unit.specs.declared.taken.Stop.{Stop}
use Rattle.ka10_unit.specs.Gathers.{Framed}
use Rattle.ka10_unit.specs.Taking.{IsOpenAt, IsPlain, Plan, Stands, progress, run_over, so_far, stop_of}

-- the address so many behind another
abbrev pub address_behind : ℕ → ℕ → ℕ
address_behind at k = (at + k) % 2 ^ 18

-- a write at each of so many addresses from one on makes nothing more; accumulators are in no page
abbrev pub AreOpenAt : ForkName → Framed → ℕ → ℕ → Type 0
AreOpenAt f p at n = (k : ℕ) → k < n → is_accumulator (address_behind at k) ≡ false → IsOpenAt f p (address_behind at k)

-- a word can be stored at an address, where that is in a page
abbrev pub IsStoredAt : ForkName → Framed → ℕ → Type 0
IsStoredAt f p a = is_accumulator a ≡ false → IsOpenAt f p a

-- the pages with a word at an address, where that is in a page
abbrev pub stored_word : ForkName → NumberedPages → ℕ → ℕ → NumberedPages
stored_word f p a w = if is_accumulator a then p else put_into f p (Some (record { at = a; word = w }))

-- what a block of a fork comes to over these pages
abbrev pub block_over : ForkName → Framed → Regs → ℕ → Kind → Plan
block_over f p regs at kind = run_over f p (block_steps ACCUMULATORS at kind [] regs) (begun p.pages regs.ac)

-- the words of a block that are still to be taken, behind some that are
abbrev pub block_left : ForkName → Framed → Regs → ℕ → Kind → Taken → ℕ → List ℕ → Plan
block_left f p regs at kind t i words = run_over f p (block_steps (ACCUMULATORS - i) (address_behind at i) kind words regs) (progress p regs.ac t)

-- so many words of a block were taken
pub record TakenSoFar (f : ForkName) (p : Framed) (regs : Regs) (at : ℕ) (kind : Kind) (t : Taken) (i : ℕ) (words : List ℕ) : Type 0 where
  pub stands : Stands f p t
  pub runs : block_left f p regs at kind t i words ≡ block_over f p regs at kind
  pub open_at : kind ≡ Write → AreOpenAt f (so_far p t) at i

-- how a block ends: with the words as accumulators, on the pages that its references leave; or it stops
abbrev pub block_end : Framed → Regs → Taken → Result (List ℕ) Stop → Plan
block_end p regs t (Ok words) = done (progress p regs.ac t) (record { regs = record regs { ac = words }; put = None; post = None })
block_end p regs t (Err e) = stopped (stop_of e)

-- A BLOCK WAS REFERRED TO: over these pages it comes to this, and over the plain ones where it needs nothing first; where it was to be
-- written, each of its words can be stored
pub record TakesBlock (f : ForkName) (p : Framed) (regs : Regs) (at : ℕ) (kind : Kind) (t : Taken) (result : Result (List ℕ) Stop) : Type 0 where
  pub stands : Stands f p t
  pub is : block_over f p regs at kind ≡ block_end p regs t result
  pub plain : IsPlain (block_end p regs t result) (steps_on f regs (block_steps ACCUMULATORS at kind [] regs) p.pages)
  pub open_at : (words : List ℕ) → result ≡ Ok words → kind ≡ Write → AreOpenAt f (so_far p t) at ACCUMULATORS
