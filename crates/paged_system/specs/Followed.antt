-- What the lists are before they follow a deed, and what they are behind it.
use Rattle.std.specs.Prelude.{◌≡◌, ℕ}
use Rattle.machine_names.specs.declared.names.Tty.{Tty}
use Rattle.script_texts.specs.declared.event.Event.{Event}
use Rattle.plain_model.specs.Forks.{ForkMap}
use Rattle.plain_model.specs.Moves.{moves}
use Rattle.plain_model.specs.Trees.{PlainTree}
use Rattle.fork_tree.specs.Trees.{IsTree}
use Rattle.fork_lists.specs.declared.lists.ForkLists.{ForkLists}
use Rattle.fork_lists.specs.Ties.{AreTied}
use Rattle.job_sched.specs.Schedules.{Schedule}
use Rattle.event_deeds.specs.declared.answer.Showing.{Showing}
use Rattle.monitor_core.specs.Reaching.{BeginsJob, ChangesJob, EventReaches}
use Rattle.monitor_typing.specs.Reaching.{PartReaches}
use Rattle.step_shown.specs.declared.reach.Reach.{Reach}
use Rattle.step_shown.specs.declared.runner.Runner.{Runner}
use Rattle.step_shown.specs.Reaching.{Reaches}
use Rattle.step_shown.specs.Runners.{IsRunner}
use Rattle.turn_forms.specs.Turns.{moved}

-- the lists had those that could run among forks that became these
pub record HadForks (became : PlainTree → Type 0) (l : ForkLists) : Type 0 where
  pub old : PlainTree
  pub trees : IsTree old
  pub tied : AreTied old.forks l
  pub changed : became old

-- from any forks that became these the lists move as the forks have
abbrev pub MovesFrom : (PlainTree → Type 0) → PlainTree → ForkLists → Schedule → Type 0
MovesFrom became now l behind = (old : PlainTree) → IsTree old → AreTied old.forks l → became old → behind ≡ moved (moves old.forks now.forks) l.sched

-- forks of the job at this terminal alone have changed, or there is one more, and each that lives on is in its slot
abbrev pub job_became : Tty → PlainTree → PlainTree → Type 0
job_became t now old = BeginsJob t old.forks now.forks

-- an event has reached so far
abbrev pub event_became : Event → PlainTree → PlainTree → Type 0
event_became e now old = (clock : ℕ) × EventReaches e clock old now

-- and a part of a character that shows this
abbrev pub part_became : Showing → PlainTree → PlainTree → Type 0
part_became shown now old = PartReaches shown old.forks now.forks

-- a part that shows this changes forks of the job at this terminal alone
abbrev pub IsPartAt : Showing → Tty → Type 0
IsPartAt shown t = (old new : ForkMap) → PartReaches shown old new → ChangesJob t old new

-- or it changes no fork
abbrev pub IsPartNowhere : Showing → Type 0
IsPartNowhere shown = (old new : ForkMap) → PartReaches shown old new → new ≡ old

-- the lists have moved as the forks have
abbrev pub HaveMoved : ForkMap → ForkMap → ForkLists → ForkLists → Type 0
HaveMoved before after l behind = behind.sched ≡ moved (moves before after) l.sched

-- the lists had the forks that could run before a row of units of one, which has reached so far
pub record RowEnded (l : ForkLists) (now : PlainTree) (who : Runner) (reach : Reach) : Type 0 where
  pub old : PlainTree
  pub trees : IsTree old
  pub tied : AreTied old.forks l
  pub runner : IsRunner old who
  pub reaches : Reaches reach who.fork old now
