-- How far monitor calls reach among the forks.
use Rattle.std.specs.Prelude.{ℕ, ◌==◌, Option, Some, if◌then◌else◌}
use Rattle.plain_model.specs.declared.call.TheConstants.{CFORK}
use Rattle.call_turns.specs.declared.family.CallFamily.{CallFamily}
use Rattle.call_turns.specs.declared.family.CallFamily.TheVariants.{Forks, Interrupts, Clock}
use Rattle.call_turns.specs.Families.{family_of}
use Rattle.step_shown.specs.declared.reach.Reach.{Reach}
use Rattle.step_shown.specs.declared.reach.Reach.TheVariants.{Own, Made, Job}

-- how far a call of a family may reach: the calls on forks, on interrupts and on the clock change forks
abbrev pub family_reach : Option CallFamily → Reach
family_reach (Some Forks) = Job
family_reach (Some Interrupts) = Job
family_reach (Some Clock) = Job
family_reach family = Own

-- how far a monitor call of this number may reach: CFORK makes a fork
abbrev pub reach_of : ℕ → Reach
reach_of number = if number == CFORK then Made else family_reach (family_of number)
