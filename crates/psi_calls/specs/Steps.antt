-- The first step of a call on pseudo-interrupts, and the whole turn that this comes to.
use Rattle.std.specs.Prelude.{◌≡◌, ◌<◌, ◌≤◌, ℕ, IsSome, if◌then◌else◌}
use Rattle.std.specs.FinMap as map
use Rattle.machine_names.specs.declared.names.ForkName.{ForkName}
use Rattle.machine_names.specs.Orders.{same_fork}
use Rattle.plain_typing.specs.Lines.{IsAssignable}
use Rattle.plain_model.specs.declared.call.InterruptChange.{InterruptChange}
use Rattle.plain_model.specs.declared.call.InterruptChange.TheVariants.{Become, Post, Assign, Unassign}
use Rattle.plain_model.specs.declared.fork.Fork.{Fork}
use Rattle.plain_model.specs.declared.interrupt.TheConstants.{CHANNELS, LEVELS}
use Rattle.plain_model.specs.Calls.{Asked, ends, Turn}
use Rattle.plain_model.specs.Forks.{ForkMap}
use Rattle.plain_model.specs.InterruptCalls.{dismissed}
use Rattle.plain_model.specs.Interrupts.{channels_of, posted_all}
use Rattle.call_turns.specs.Turns.{FitsEnd}
use Rattle.job_forks.specs.Limits.{IsBodyOf}
use Rattle.fork_tree.specs.Trees.{Lives}
use Rattle.psi_calls.specs.declared.step.FirstStep.{FirstStep}
use Rattle.psi_calls.specs.declared.step.FirstStep.TheVariants.{Ends, Dismisses}
use Rattle.psi_calls.specs.declared.step.LevelToEnd.{LevelToEnd}

-- what posts the channels of a word to a fork, by who asks for it
abbrev pub posts_to : ForkName → ℕ → Fork → InterruptChange
posts_to who channels f = if same_fork f.name who then Become f.name (posted_all f (channels_of channels)).body else Post f.name channels

-- the turn of DEBRK that ends this level
abbrev pub dismissed_at : Asked → LevelToEnd → Turn ⊥ InterruptChange
dismissed_at a least = dismissed a least.fork least.table least.level

-- the whole turn of a first step
abbrev pub whole : Asked → FirstStep → Turn ⊥ InterruptChange
whole a (Ends e) = ends e
whole a (Dismisses least) = dismissed_at a least

-- a level is one of this fork
pub record IsLevelOf (f : Fork) (least : LevelToEnd) : Type 0 where
  pub fork : least.fork ≡ f
  pub first : 1 ≤ least.level
  pub last : least.level ≤ LEVELS

-- a change that a fork's call may make: it changes forks of its own job that live, and the job's codes
abbrev pub IsChange : ForkMap → ForkName → InterruptChange → Type 0
IsChange forks who (Become f body) = (f.tty.0 ≡ who.tty.0) × IsBodyOf forks f body
IsChange forks who (Post f channels) = (f.tty.0 ≡ who.tty.0) × IsSome (map.get forks f)
IsChange forks who (Assign code f channel) = (f ≡ who) × IsAssignable code × (channel < CHANNELS)
IsChange forks who (Unassign t code) = t ≡ who.tty

-- what holds of a first step: its change may be made, or its level is one of the caller
abbrev pub FitsStep : ForkMap → ForkName → FirstStep → Type 0
FitsStep forks who (Ends e) = FitsEnd (IsChange forks who) e
FitsStep forks who (Dismisses least) = Lives forks least.fork × (least.fork.name ≡ who) × IsLevelOf least.fork least
