-- Shorthands of proofs: parts of definitions that these say in place.
use Rattle.std.specs.Prelude.{ℕ, Bool, is_none, if◌then◌else◌}
use Rattle.machine_names.specs.declared.names.Tty.{Tty}
use Rattle.plain_model.specs.Forks.{ForkMap, fork_in, with_fork}
use Rattle.plain_model.specs.Trees.{end_told}
use Rattle.plain_model.specs.declared.fork.Fork.{Fork}
use Rattle.plain_model.specs.State.{PlainState}
use Rattle.plain_model.specs.declared.call.End.{End}
use Rattle.plain_model.specs.declared.call.End.TheVariants.{Waits}
use Rattle.plain_model.specs.declared.call.ForkChange.{ForkChange}
use Rattle.plain_model.specs.declared.call.ForkChange.TheVariants.{Nothing}
use Rattle.plain_units.specs.declared.registers.Regs.{Regs}
use Rattle.script_texts.specs.declared.status.ForkStatus.{ForkStatus}
use Rattle.plain_model.specs.Calls.{returning}
use Rattle.script_texts.specs.declared.status.WaitOn.TheVariants as on
use Rattle.plain_model.specs.ForkCalls.{has_ended}
use Rattle.std.specs.FinMap as map
use Rattle.std.specs.Option.{option_map_or}
use Rattle.script_texts.specs.declared.event.Refusal.TheVariants.{NoFork}
use Rattle.plain_model.specs.Unit.{Effect, refused}
use Rattle.plain_model.specs.Events.{at_job, examined_in}

-- whether no fork of a job is in a slot
abbrev pub is_free : ForkMap → Tty → ℕ → Bool
is_free forks t slot = is_none (fork_in forks t slot)

-- the forks with one that has stopped: who waits for it runs again, and its superior is told
abbrev pub with_stopped : PlainState → Fork → PlainState
with_stopped s f = let t = with_fork s f in record t { forks = end_told t.forks f }

-- who waits for a fork goes on where that has ended
abbrev pub waits_for : Regs → ForkStatus → End ForkChange
waits_for regs status = if has_ended status then returning Nothing regs else Waits on.Fork

-- EXAMINE: the word at an address of one of the job's forks; nothing is made
abbrev pub examine : PlainState → Tty → ℕ → ℕ → Effect
examine s t serial address = at_job s t (λ j. option_map_or (examined_in s t serial address) (map.get s.forks (record { tty = t; serial = serial })) (refused s (NoFork t)))
