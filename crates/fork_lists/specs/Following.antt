-- How the lists follow the forks of a job.
use Rattle.std.specs.Prelude.{ℕ, List, [], ◌∷◌, Bool, not, ◌&&◌, Option, None, Some, if◌then◌else◌}
use Rattle.machine_names.specs.declared.names.ForkName.{ForkName}
use Rattle.machine_names.specs.declared.names.Tty.{Tty}
use Rattle.plain_model.specs.declared.fork.Fork.{Fork}
use Rattle.plain_model.specs.Forks.{ForkMap, fork_in, runs_in}
use Rattle.job_sched.specs.Schedules.{Schedule, heads, started, stopped}
use Rattle.job_sched.specs.Units.{row_ran}
use Rattle.fork_lists.specs.declared.seen.Seen.{Seen}
use Rattle.fork_lists.specs.Seeing.{has_waited, job_slots, seen_in}

-- a fork that was seen is stopped where it can't run now
abbrev pub stopped_if : ForkMap → Option ForkName → Schedule → Schedule
stopped_if forks None s = s
stopped_if forks (Some f) s = if runs_in forks f then s else stopped s f

-- so each that was seen in these slots of a job, in order
abbrev pub lost_stopped : ForkMap → List Seen → Tty → Schedule → List ℕ → Schedule
lost_stopped forks seen t s [] = s
lost_stopped forks seen t s (slot ∷ slots) = lost_stopped forks seen t (stopped_if forks (seen_in seen t slot).fork s) slots

-- a fork of this choice is started where it can run now
abbrev pub started_if : ForkMap → (ForkName → Bool) → Option Fork → Schedule → Schedule
started_if forks picks None s = s
started_if forks picks (Some f) s = if picks f.name && runs_in forks f.name then started s f.name else s

-- so each in these slots of a job, in order, by a choice for each slot
abbrev pub picks_started : ForkMap → (ℕ → ForkName → Bool) → Tty → Schedule → List ℕ → Schedule
picks_started forks picks t s [] = s
picks_started forks picks t s (slot ∷ slots) = picks_started forks picks t (started_if forks (picks slot) (fork_in forks t slot) s) slots

-- THE LISTS FOLLOW THE FORKS OF A JOB: first each stops that was seen there and can't run now; then each starts that can, those first
-- that were seen in their slots to wait for a fork; each by slot
abbrev pub followed : ForkMap → List Seen → Tty → Schedule → Schedule
followed forks seen t s =
    picks_started forks (λ slot f. not (has_waited seen t slot f)) t (picks_started forks (has_waited seen t) t (lost_stopped forks seen t s job_slots) job_slots) job_slots

-- so of each of these jobs, one after another, with what was seen before the first
abbrev pub followed_all : ForkMap → List Seen → Schedule → List ℕ → Schedule
followed_all forks seen s [] = s
followed_all forks seen s (t ∷ ts) = followed_all forks seen (followed forks seen (record { 0 = t }) s) ts

-- one more unit of a fork is counted, where it still is the head
abbrev pub last_counted : ForkName → Schedule → Schedule
last_counted who s = if heads who s.ready then row_ran 1 s else s
