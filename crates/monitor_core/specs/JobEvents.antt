-- The events of a terminal's job, as events of the script.
use Rattle.std.specs.Prelude.{◌<◌, ◌^◌}
use Rattle.machine_names.specs.declared.names.Tty.{Tty}
use Rattle.script_texts.specs.declared.event.Event.{Event}
use Rattle.script_texts.specs.declared.event.Event.TheVariants.{Poke, Start, Examine, Forks}
use Rattle.machine_names.specs.Bounds.{IsAddress}
use Rattle.monitor_core.specs.declared.job_event.JobEvent.{JobEvent}
use Rattle.monitor_core.specs.declared.job_event.JobEvent.TheVariants.{Poke as ToPoke, Start as ToStart, Examine as ToExamine, Forks as ToShow}

-- the event of the script, at the job's terminal
abbrev pub event_at : Tty → JobEvent → Event
event_at t (ToPoke address word) = Poke t address word
event_at t (ToStart address) = Start t address
event_at t (ToExamine serial address) = Examine t serial address
event_at t ToShow = Forks t

-- its limits
abbrev pub FitsJobEvent : JobEvent → Type 0
FitsJobEvent (ToPoke address word) = IsAddress address × (word < 2 ^ 36)
FitsJobEvent (ToStart address) = IsAddress address
FitsJobEvent (ToExamine serial address) = (serial < 1000000) × IsAddress address
FitsJobEvent ToShow = Unit {0}
