-- What is told to who waits, one thing after another, and the end of a quantum behind it.
use Rattle.std.specs.Prelude.{◌≡◌, ℕ, ◌+◌, ◌-◌, List, [], ◌∷◌, Bool, true, ◌&&◌, nat_le}
use Rattle.fork_lists.specs.Following.{last_counted}
use Rattle.job_sched.specs.Schedules.{Schedule, arrived, heads}
use Rattle.job_sched.specs.Units.{IsRow, row_ran}
use Rattle.machine_names.specs.declared.names.ForkName.{ForkName}
use Rattle.machine_names.specs.declared.names.TheConstants.{QUANTUM}
use Rattle.page_contracts.specs.declared.answers.Need.{Need}
use Rattle.plain_model.specs.Forks.{ForkMap}
use Rattle.plain_model.specs.Moves.{moves}
use Rattle.turn_forms.specs.Turns.{Silent, moved, moved_silently}

-- the lists once these are told, one after another
abbrev pub all_arrived : List Need → Schedule → Schedule
all_arrived [] c = c
all_arrived (need ∷ needs) c = all_arrived needs (arrived c need)

-- some things were told, and nothing else has happened
pub record AllTold (old new : Schedule) : Type 0 where
  pub needs : List Need
  pub are : new ≡ all_arrived needs old

-- whether the quantum of a fork ends with one unit more: it is the head, and has run all of its quantum then
abbrev pub ends_quantum : ForkName → Schedule → Bool
ends_quantum f c = heads f c.ready && nat_le QUANTUM (c.used + 1)

-- Behind units of a fork some things were told, and then the last unit was counted; and whether its quantum has ended by that.
pub record LastCounted (f : ForkName) (ended : Bool) (old new : Schedule) : Type 0 where
  pub needs : List Need
  pub counted : new ≡ last_counted f (all_arrived needs old)
  pub ends : ended ≡ ends_quantum f (all_arrived needs old)

-- the head has begun to wait, or something was told, once or again, and nothing else has happened
pub record MovesSilently (old new : Schedule) : Type 0 where
  pub silent : List Silent
  pub are : new ≡ moved_silently silent old

-- A deed was done, from these forks to those: what happened silently was before it; the lists followed the forks, and then some things were told.
pub record TookDeed (before after : ForkMap) (old new : Schedule) : Type 0 where
  pub begun : Schedule
  pub silent : MovesSilently old begun
  pub told : AllTold (moved (moves before after) begun) new

-- A row of units of a fork was run, from these forks to those: what happened silently left it the head of the ready list, and it was alone or had them left of its
-- quantum; all units but the last were counted, the lists followed the forks, some things were told, and the last unit was counted.
pub record TookRow (f : ForkName) (count : ℕ) (ended : Bool) (before after : ForkMap) (old new : Schedule) : Type 0 where
  pub begun : Schedule
  pub silent : MovesSilently old begun
  pub head : heads f begun.ready ≡ true
  pub within : IsRow count begun
  pub counted : LastCounted f ended (moved (moves before after) (row_ran (count - 1) begun)) new
