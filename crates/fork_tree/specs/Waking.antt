-- What forks of a job wait for that are woken together, and what is known of who waits.
use Rattle.std.specs.Prelude.{◌≡◌, ℕ, List, length, Bool, true, false, nat_le, Some, slice_index_or}
use Rattle.machine_names.specs.declared.names.Tty.{Tty}
use Rattle.machine_names.specs.declared.names.TheConstants.{TERMINALS}
use Rattle.script_texts.specs.declared.status.ForkStatus.{ForkStatus}
use Rattle.plain_model.specs.declared.fork.Fork.{Fork}
use Rattle.plain_model.specs.Forks.{ForkMap, fork_in, with_status}
use Rattle.plain_model.specs.Trees.{PlainTree, without_read, without_sleep, without_wait}
use Rattle.fork_tree.specs.Trees.{IsTree, Lives}
use Rattle.fork_tree.specs.declared.notes.Awaited.{Awaited}
use Rattle.fork_tree.specs.declared.notes.Awaited.TheVariants.{Character, End, Moment}
use Rattle.fork_tree.specs.declared.notes.Due.{Due}
use Rattle.fork_tree.specs.declared.notes.Due.TheVariants.{From, Never, Now}
use Rattle.fork_tree.specs.declared.notes.Notes.{Notes}

-- the status of a fork that no longer waits for this
abbrev pub freed : Awaited → ForkStatus → ForkStatus
freed End status = without_wait status
freed Character status = without_read status
freed (Moment clock) status = without_sleep clock status

-- a fork that no longer waits for this
abbrev pub freed_of : Awaited → Fork → Fork
freed_of awaited f = with_status f (freed awaited f.body.status)

-- no fork of a job waits for this
abbrev pub NoneWaits : Awaited → ForkMap → Tty → Type 0
NoneWaits awaited forks t = (f : Fork) → Lives forks f → f.name.tty.0 ≡ t.0 → freed awaited f.body.status ≡ f.body.status

-- the fork in a slot of a job, if one is there, sleeps to no moment that the clock has reached
abbrev pub NoneSleepsIn : ℕ → ForkMap → Tty → ℕ → Type 0
NoneSleepsIn clock forks t slot = (f : Fork) → fork_in forks t slot ≡ Some f → without_sleep clock f.body.status ≡ f.body.status

-- whether one may go on at any time
abbrev pub is_ever : Due → Bool
is_ever Now = true
is_ever (From moment) = true
is_ever Never = false

-- whether one may go on at a moment of the clock
abbrev pub is_by : Due → ℕ → Bool
is_by Now clock = true
is_by (From moment) clock = nat_le moment clock
is_by Never clock = false

-- whether a fork of the job may wait for this, by what is known
abbrev pub may_wait : Notes → Awaited → Bool
may_wait notes End = true
may_wait notes Character = is_ever notes.readers
may_wait notes (Moment clock) = is_by notes.sleepers clock

-- what is known where none waits, and where any may
abbrev pub quiet_notes : Notes
quiet_notes = record { readers = Never; sleepers = Never }

abbrev pub lent_notes : Notes
lent_notes = record { readers = Now; sleepers = Now }

-- of the forks of each terminal none waits for what none may wait for, by what is known
abbrev pub AreQuiet : ForkMap → List Notes → Type 0
AreQuiet forks notes = (t : Tty) (awaited : Awaited) → may_wait (slice_index_or notes t.0 quiet_notes) awaited ≡ false → NoneWaits awaited forks t

-- a tree of forks, and what is known of who waits
pub record IsKept (all : PlainTree) (notes : List Notes) : Type 0 where
  pub tree : IsTree all
  pub terminals : length notes ≡ TERMINALS
  pub quiet : AreQuiet all.forks notes
