-- Of whose job an event, or a character that is typed, may change forks.
use Rattle.std.specs.Prelude.{◌≡◌, ◌⊎◌, ℕ}
use Rattle.machine_names.specs.declared.names.Tty.{Tty}
use Rattle.machine_names.specs.Bounds.{IsTerminal}
use Rattle.plain_model.specs.Forks.{ForkMap}
use Rattle.plain_model.specs.Trees.{PlainTree}
use Rattle.script_texts.specs.declared.event.Event.{Event}
use Rattle.script_texts.specs.declared.event.Event.TheVariants.{Tick}
use Rattle.step_shown.specs.declared.echo.Echo.{Echo}
use Rattle.monitor_core.specs.Reaching.{BeginsJob, ChangesJob, EventReaches}
use Rattle.monitor_typing.specs.Reaching.{EchoReaches}

-- an event changes forks of the job at this terminal alone, or there is one more
abbrev pub IsOf : Event → Tty → Type 0
IsOf e t = IsTerminal t × ((clock : ℕ) (old new : PlainTree) → EventReaches e clock old new → BeginsJob t old.forks new.forks)

-- an event is a tick, or changes no fork
abbrev pub IsOfNone : Event → Type 0
IsOfNone e = (e ≡ Tick) ⊎ ((clock : ℕ) (old new : PlainTree) → EventReaches e clock old new → new ≡ old)

-- a character that shows this at a terminal changes forks of the job at this one alone
abbrev pub IsAt : Tty → Echo → Tty → Type 0
IsAt t shown u = IsTerminal u × ((old new : ForkMap) → EchoReaches t shown old new → ChangesJob u old new)

-- or it changes no fork
abbrev pub IsNowhere : Tty → Echo → Type 0
IsNowhere t shown = (old new : ForkMap) → EchoReaches t shown old new → new ≡ old
