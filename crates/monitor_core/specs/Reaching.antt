-- How far an event reaches among the forks, whatever a drum holds.
use Rattle.std.specs.Prelude.{◌≡◌, ℕ, Some}
use Rattle.std.specs.Option.{option_map}
use Rattle.std.specs.FinMap as map
use Rattle.machine_names.specs.declared.names.ForkName.{ForkName}
use Rattle.machine_names.specs.declared.names.Tty.{Tty}
use Rattle.script_texts.specs.declared.event.Event.{Event}
use Rattle.script_texts.specs.declared.event.Event.TheVariants.{Login, Poke, Start, Tick, Examine, Forks}
use Rattle.plain_model.specs.declared.fork.Fork.{Fork}
use Rattle.plain_model.specs.Forks.{ForkMap, OthersStay}
use Rattle.plain_model.specs.Trees.{PlainTree, sleepers_awoken}
use Rattle.turn_forms.specs.Turns.{KeepSlots}

-- each fork that lives was there before, in the slot in which it is
abbrev pub WereInSlots : ForkMap → ForkMap → Type 0
WereInSlots old new = (f : ForkName) (h : Fork) → map.get new f ≡ Some h → option_map (λ (g : Fork). g.slot) (map.get old f) ≡ Some h.slot

-- forks of this job alone may stand otherwise: each that lives was there before, in the slot in which it is
abbrev pub ChangesJob : Tty → ForkMap → ForkMap → Type 0
ChangesJob t old new = OthersStay t old new × WereInSlots old new

-- or there may be one more of the job; and each that lives on is in the slot in which it was
abbrev pub BeginsJob : Tty → ForkMap → ForkMap → Type 0
BeginsJob t old new = OthersStay t old new × KeepSlots old new

-- how far an event that is one step may reach, which leaves the clock so: forks of its terminal's job may stand otherwise, and with a login be more;
-- a tick awakes sleepers; and an event of no terminal leaves all as it was
abbrev pub EventReaches : Event → ℕ → PlainTree → PlainTree → Type 0
EventReaches (Login t user) clock old new = BeginsJob t old.forks new.forks
EventReaches (Poke t address word) clock old new = ChangesJob t old.forks new.forks
EventReaches (Start t address) clock old new = ChangesJob t old.forks new.forks
EventReaches (Examine t serial address) clock old new = ChangesJob t old.forks new.forks
EventReaches (Forks t) clock old new = ChangesJob t old.forks new.forks
EventReaches Tick clock old new = new ≡ record old { forks = sleepers_awoken clock old.forks }
EventReaches e clock old new = new ≡ old
