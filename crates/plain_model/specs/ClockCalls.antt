-- The calls on the clock (JSYS Manual): TIME, RUNTM, DISMS.
use Rattle.std.specs.Prelude.{ℕ, ◌+◌, ◌%◌, ◌^◌, List, [], ◌∷◌, ◌==◌, nat_le, if◌then◌else◌, Option, None, Some}
use Rattle.std.specs.Option.{option_and_then}
use Rattle.std.specs.FinMap as map
use Rattle.plain_units.specs.Deeds.{in_ac}
use Rattle.plain_model.specs.declared.call.End.{End}
use Rattle.plain_model.specs.declared.call.End.TheVariants.{Waits}
use Rattle.plain_model.specs.declared.call.SleepChange.{SleepChange}
use Rattle.plain_model.specs.declared.call.SleepChange.TheVariants.{Nothing, Awakes}
use Rattle.plain_model.specs.declared.call.TheConstants.{TIME, RUNTM, DISMS, UNITS_A_TICK}
use Rattle.plain_model.specs.declared.fork.Fork.{Fork}
use Rattle.script_texts.specs.declared.status.WaitOn.TheVariants as on
use Rattle.plain_model.specs.Calls.{Asked, Turn, ends, given, returning, with_ac}
use Rattle.plain_model.specs.ForkCalls.{own_named}
use Rattle.plain_model.specs.Trees.{PlainTree, with_changed_of}

-- who calls, with which registers, among which forks, and when
pub record ClockAsked : Type 0 where
  pub call : Asked
  pub clock : ℕ

-- TIME: how many ticks there were, as far as a word tells it, and how many of these units a tick has
abbrev pub time : ClockAsked → Turn ⊥ SleepChange
time a = ends (returning Nothing (with_ac (with_ac a.call.regs 1 (a.clock % 2 ^ 36)) 2 UNITS_A_TICK))

-- RUNTM: how many units the caller or an inferior has run, as far as a word tells it
abbrev pub runtm : ClockAsked → Turn ⊥ SleepChange
runtm a = given (own_named a.call) (λ f. ends (returning Nothing (with_ac a.call.regs 1 (f.body.units % 2 ^ 36))))

-- to which moment the caller sleeps
abbrev pub sleep_of : Asked → Option ℕ
sleep_of a = option_and_then (λ f. f.body.sleep) (map.get a.tree.forks a.who)

-- a sleep begins, by the ticks in accumulator 1; it is over once the clock has reached its moment, and else goes on to that
abbrev pub sleeping : ClockAsked → Option ℕ → End SleepChange
sleeping a None = Waits (on.Sleep (a.clock + in_ac a.call.regs 1))
sleeping a (Some moment) = if nat_le moment a.clock then returning (Awakes a.call.who) a.call.regs else Waits (on.Sleep moment)

-- DISMS: the caller sleeps for so many ticks; for none it goes on
abbrev pub disms : ClockAsked → Turn ⊥ SleepChange
disms a = if in_ac a.call.regs 1 == 0 then ends (returning Nothing a.call.regs) else ends (sleeping a (sleep_of a.call))

-- the calls on the clock by their numbers
abbrev pub clock_calls : List (ℕ × (ClockAsked → Turn ⊥ SleepChange))
clock_calls = (TIME, time) ∷ (RUNTM, runtm) ∷ (DISMS, disms) ∷ []

-- a fork that sleeps no more
abbrev pub without_moment : Fork → Fork
without_moment f = record f { body = record f.body { sleep = None } }

-- what a change of one of these calls leaves of the forks
unfoldable pub clock_changed : SleepChange → PlainTree → PlainTree
clock_changed Nothing tree = tree
clock_changed (Awakes f) tree = with_changed_of tree f (λ k. record k { body = record k.body { sleep = None } })
