use Rattle.std.proofs.Common.{◌%◌, ◌^◌, refl, ap}
use Rattle.plain_model.specs.declared.call.SleepChange.TheVariants.{Nothing}
use Rattle.plain_model.specs.Calls.{ends, given, no_files, returning, turn_on, with_ac}
use Rattle.plain_laws.proofs.clock_laws.the_clock_and_the_units_are_told.Goals as goal

pub returns-clause-time : goal.returns-clause-time
unfolding turn_on
returns-clause-time c = λ p a. refl

pub returns-clause-units : goal.returns-clause-units
unfolding turn_on
returns-clause-units c = λ p a f named. ap (λ r. (turn_on no_files p (given r (λ k. ends (returning Nothing (with_ac a.call.regs 1 (k.body.units % 2 ^ 36)))))).end) named

pub returns-clause-refused : goal.returns-clause-refused
unfolding turn_on
returns-clause-refused c = λ p a code named. ap (λ r. (turn_on no_files p (given r (λ k. ends (returning Nothing (with_ac a.call.regs 1 (k.body.units % 2 ^ 36)))))).end) named
