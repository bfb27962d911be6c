-- A turn of a call on the clock, over the forks of all jobs.
use Rattle.std.specs.Prelude.{◌≡◌, ℕ}
use Rattle.machine_names.specs.declared.names.ForkName.{ForkName}
use Rattle.plain_units.specs.declared.registers.Regs.{Regs}
use Rattle.plain_pages.specs.PlainPages.{NumberedPages}
use Rattle.plain_model.specs.declared.call.End.{End}
use Rattle.plain_model.specs.declared.call.SleepChange.{SleepChange}
use Rattle.plain_model.specs.declared.call.SleepChange.TheVariants.{Nothing, Awakes}
use Rattle.plain_model.specs.Calls.{ends, no_files, parts_behind, turn_on, Turn}
use Rattle.plain_model.specs.ClockCalls.{ClockAsked, clock_changed}
use Rattle.plain_model.specs.Trees.{PlainTree}
use Rattle.call_turns.specs.declared.answer.Answer.{Answer}
use Rattle.call_turns.specs.declared.answer.Answer.TheVariants.{After}
use Rattle.call_turns.specs.Answers.{answer_of}
use Rattle.job_forks.specs.Asking.{asked}

-- a call of a fork, with these registers, among these forks, at a moment of the clock
abbrev pub asked_at : ForkName → Regs → PlainTree → ℕ → ClockAsked
asked_at who regs tree clock = record { call = asked who regs tree; clock = clock }

-- a turn that ends so
abbrev pub ended : End SleepChange → Turn ⊥ SleepChange
ended e = ends e

-- a change that a fork's call may make: it changes the fork that calls alone
abbrev pub IsChange : ForkName → SleepChange → Type 0
IsChange who Nothing = Unit {0}
IsChange who (Awakes f) = f ≡ who

-- A TURN OF A CALL, whatever pages there are: its answer is that of its end, and the forks that it leaves are those that this leaves
abbrev pub Turned : PlainTree → PlainTree → Answer → (Turn ⊥ SleepChange) → Type 0
Turned tree tree' result turn =
    (p : NumberedPages) → (let c = turn_on no_files p turn in (result ≡ answer_of c.end) × (tree' ≡ parts_behind clock_changed tree tree c.end))

-- a turn that isn't done leaves the forks as they were
abbrev pub StaysPut : PlainTree → PlainTree → Answer → Type 0
StaysPut tree tree' (After regs out post) = Unit {0}
StaysPut tree tree' answer = tree' ≡ tree
