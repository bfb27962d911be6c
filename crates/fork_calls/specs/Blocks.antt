-- A block of words as a turn takes it.
use Rattle.std.specs.Prelude.{◌≡◌, ℕ, List, Result, Ok, Err}
use Rattle.plain_model.specs.declared.call.End.TheVariants.{Trap as TrapEnd}
use Rattle.plain_model.specs.declared.call.ForkChange.{ForkChange}
use Rattle.machine_names.specs.declared.names.ForkName.{ForkName}
use Rattle.machine_names.specs.declared.names.Kind.{Kind}
use Rattle.plain_units.specs.declared.registers.Regs.{Regs}
use Rattle.plain_pages.specs.PlainPages.{NumberedPages}
use Rattle.plain_model.specs.Calls.{Turn, no_files, turn_on, with_block, Asked}
use Rattle.plain_model.specs.ForkCalls.{with_accumulators}
use Rattle.plain_units.specs.Steps.{stopped, need}
use Rattle.ka10_unit.specs.declared.taken.Stop.{Stop}
use Rattle.ka10_unit.specs.declared.taken.Stop.TheVariants.{Trap, Need}
use Rattle.ka10_unit.specs.Blocks.{block_over}
use Rattle.ka10_unit.specs.Gathers.{Framed}
use Rattle.fork_calls.specs.Needing.{TurnNeeds}

-- a turn that takes a block goes on with these words, on the pages that its references leave, whatever it does then
pub record GoesOn (who : ForkName) (regs : Regs) (at : ℕ) (kind : Kind) (p q : NumberedPages) (words : List ℕ) : Type 0 where
  pub comes : (next : List ℕ → Turn ⊥ ForkChange) → turn_on no_files p (with_block who regs at kind next) ≡ turn_on no_files q (next words)

-- or it traps, or its references need something first
abbrev pub TookBlock : ForkName → Regs → ℕ → Kind → Framed → NumberedPages → Result (List ℕ) Stop → Type 0
TookBlock who regs at kind p q (Ok words) = GoesOn who regs at kind p.pages q words
TookBlock who regs at kind p q (Err (Trap channel)) = (next : List ℕ → Turn ⊥ ForkChange) → (turn_on no_files p.pages (with_block who regs at kind next)).end ≡ TrapEnd channel
TookBlock who regs at kind p q (Err (Need n)) = block_over who p regs at kind ≡ stopped (need n)

-- the same of the accumulators of a new fork
pub record GoesOnWith (a : Asked) (p q : NumberedPages) (words : List ℕ) : Type 0 where
  pub comes : (next : List ℕ → Turn ⊥ ForkChange) → turn_on no_files p (with_accumulators a next) ≡ turn_on no_files q (next words)

abbrev pub TookAccumulators : Asked → Framed → NumberedPages → Result (List ℕ) Stop → Type 0
TookAccumulators a p q (Ok words) = GoesOnWith a p.pages q words
TookAccumulators a p q (Err (Trap channel)) = (next : List ℕ → Turn ⊥ ForkChange) → (turn_on no_files p.pages (with_accumulators a next)).end ≡ TrapEnd channel
TookAccumulators a p q (Err (Need n)) = (next : List ℕ → Turn ⊥ ForkChange) → TurnNeeds p a.tree.forks (with_accumulators a next) n
