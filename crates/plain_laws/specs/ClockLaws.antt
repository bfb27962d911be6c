-- What laws say of the clock.
use Rattle.std.specs.Prelude.{◌≡◌, ℕ, [], false}
use Rattle.plain_model.specs.declared.fork.Fork.{Fork}
use Rattle.script_texts.specs.declared.event.Event.TheVariants.{Tick}
use Rattle.script_texts.specs.declared.status.ForkStatus.TheVariants.{Run, Wait}
use Rattle.script_texts.specs.declared.status.WaitOn.TheVariants as on
use Rattle.plain_units.specs.Steps.{call}
use Rattle.plain_units.specs.Units.{unit_on}
use Rattle.plain_model.specs.Events.{outer}
use Rattle.plain_model.specs.Forks.{counted, with_fork}
use Rattle.plain_model.specs.Inspections.{is_interrupted}
use Rattle.plain_model.specs.State.{PlainState}
use Rattle.plain_model.specs.Unit.{Effect}
use Rattle.plain_laws.specs.JfnLaws.{Lives}

-- the state behind TICK
abbrev pub ticked : PlainState → PlainState
ticked s = (outer s Tick).state

-- a fork sleeps to a moment
abbrev pub SleepsTo : Fork → ℕ → Type 0
SleepsTo f moment = f.body.status ≡ Wait (on.Sleep moment)

-- the next unit of a fork that runs is a call: it takes no interrupt
pub record CallsNext (s : PlainState) (f : Fork) (number : ℕ) : Type 0 where
  pub lives : Lives s f
  pub runs : f.body.status ≡ Run
  pub plain : is_interrupted f.body.psi ≡ false
  pub calls : unit_on f.name s.pages f.body.regs ≡ call number

-- a unit leaves its fork so, but for its count of units, and all else as it was
abbrev pub leaving : PlainState → Fork → Effect
leaving s f = record { state = with_fork s (counted f); items = [] }
