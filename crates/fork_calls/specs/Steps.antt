-- The first step of a fork call, and the whole turn that this comes to.
use Rattle.std.specs.Prelude.{◌≡◌, ℕ, ◌+◌, Ok, if◌then◌else◌, List}
use Rattle.std.specs.FinMap as map
use Rattle.plain_model.specs.declared.call.TheConstants.{FORK_SELF, NO_ROOM}
use Rattle.plain_model.specs.declared.call.End.{End}
use Rattle.plain_model.specs.declared.call.End.TheVariants.{Failed}
use Rattle.plain_model.specs.declared.call.ForkChange.{ForkChange}
use Rattle.plain_model.specs.declared.call.ForkChange.TheVariants.{Nothing, Make, Kill, Freeze, Become, Halt, Store}
use Rattle.machine_names.specs.declared.names.Kind.TheVariants.{Read, Write}
use Rattle.machine_names.specs.declared.names.ForkName.{ForkName}
use Rattle.plain_model.specs.declared.fork.Fork.{Fork}
use Rattle.plain_units.specs.declared.registers.Regs.{Regs}
use Rattle.plain_units.specs.Deeds.{skip_pc}
use Rattle.script_texts.specs.declared.status.ForkStatus.TheVariants.{Halted}
use Rattle.plain_model.specs.Forks.{ForkMap, with_status}
use Rattle.plain_model.specs.Trees.{next_name}
use Rattle.plain_model.specs.Calls.{Turn, adds, ends, returning, with_ac, with_block, Asked}
use Rattle.plain_model.specs.ForkCalls.{address_named, made_body, map_wanted, making, stored_low, with_accumulators}
use Rattle.fork_tree.specs.Making.{slot_for}
use Rattle.fork_tree.specs.Trees.{Lives}
use Rattle.call_turns.specs.Turns.{FitsEnd}
use Rattle.fork_calls.specs.declared.step.FirstStep.{FirstStep}
use Rattle.fork_calls.specs.declared.step.FirstStep.TheVariants.{Ends, Makes, Sets, Stores}
use Rattle.job_forks.specs.Asking.{IsBelow}
use Rattle.job_forks.specs.Limits.{IsBodyOf}

-- how SFACS ends, told the words
abbrev pub set_end : Asked → Fork → List ℕ → End ForkChange
set_end a f words = returning (Become f.name (record f.body { regs = record f.body.regs { ac = words } })) a.regs

-- how RFACS ends
abbrev pub store_end : Asked → Fork → End ForkChange
store_end a f =
    let at = address_named a.regs in let words = f.body.regs.ac in
    returning (Store a.who at words) (record a.regs { ac = stored_low a.regs.ac at words })

-- how CFORK goes on, told whether there is room
abbrev pub made_where : Asked → ℕ → Turn ⊥ ForkChange
made_where a slot = adds (next_name a.tree a.who.tty) (map_wanted a) (λ room.
    if room then with_accumulators a (λ words. ends (making a slot words)) else ends (Failed NO_ROOM))

-- the registers behind the second return of a call, with the handle of the fork in a slot
abbrev pub second_regs : Regs → ℕ → Regs
second_regs regs slot = let told = with_ac regs 1 (FORK_SELF + slot) in record told { pc = skip_pc told }

-- the whole turn of a first step
abbrev pub whole : Asked → FirstStep → Turn ⊥ ForkChange
whole a (Ends e) = ends e
whole a (Makes slot) = made_where a slot
whole a (Sets f) = with_block a.who a.regs (address_named a.regs) Read (λ words. ends (set_end a f words))
whole a (Stores f) = with_block a.who a.regs (address_named a.regs) Write (λ old. ends (store_end a f))

-- a fork as it is halted
abbrev pub halted : Fork → Fork
halted f = with_status f Halted

-- a new fork with its accumulators
abbrev pub begun : Regs → List ℕ → Fork → Fork
begun regs words f = record f { body = made_body regs words f.body }

-- a change of an inferior, made with no word of a page
abbrev pub IsChangeBelow : ForkMap → ForkName → ForkChange → Type 0
IsChangeBelow forks who Nothing = Unit {0}
IsChangeBelow forks who (Make f) = ⊥
IsChangeBelow forks who (Kill f) = IsBelow forks who f
IsChangeBelow forks who (Freeze f on) = IsBelow forks who f
IsChangeBelow forks who (Become f body) = IsBelow forks who f × IsBodyOf forks f body
IsChangeBelow forks who (Halt f) = IsBelow forks who f
IsChangeBelow forks who (Store f at words) = ⊥

-- what holds of a first step: a fork is made in the free slot, while a serial is left for it; and words are those of an inferior that lives
abbrev pub FitsStep : Asked → FirstStep → Type 0
FitsStep a (Ends e) = FitsEnd (IsChangeBelow a.tree.forks a.who) e
FitsStep a (Makes slot) = slot_for a.tree a.who.tty ≡ Ok slot
FitsStep a (Sets f) = Lives a.tree.forks f × IsBelow a.tree.forks a.who f.name
FitsStep a (Stores f) = Lives a.tree.forks f

-- what CFORK begins with: a fork is made, or the call fails
abbrev pub MakesOrFails : FirstStep → Type 0
MakesOrFails (Ends e) = (code : ℕ) × (e ≡ Failed code)
MakesOrFails (Makes slot) = Unit {0}
MakesOrFails (Sets f) = ⊥
MakesOrFails (Stores f) = ⊥
