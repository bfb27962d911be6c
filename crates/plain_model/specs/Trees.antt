-- The forks of all jobs with their serials: how a fork is made, is changed, and stops (CACM paper, "Forks").
use Rattle.std.specs.Prelude.{ℕ, ◌+◌, List, map as each, Bool, Option, find, if◌then◌else◌, is_none, nat_le, ◌==◌, slice_index, slice_set}
use Rattle.std.specs.List.{range_with_len}
use Rattle.std.specs.Option.{option_map_or}
use Rattle.std.specs.FinMap as map
use Rattle.plain_units.specs.declared.channel.TheConstants.{INFERIOR_ENDED}
use Rattle.machine_names.specs.declared.names.Tty.{Tty}
use Rattle.machine_names.specs.declared.names.ForkName.{ForkName}
use Rattle.machine_names.specs.declared.names.TheConstants.{MOST_FORKS}
use Rattle.plain_model.specs.declared.fork.Fork.{Fork}
use Rattle.plain_model.specs.declared.fork.Body.{Body}
use Rattle.script_texts.specs.declared.status.ForkStatus.{ForkStatus}
use Rattle.script_texts.specs.declared.status.ForkStatus.TheVariants.{Run, Wait}
use Rattle.script_texts.specs.declared.status.WaitOn.TheVariants as on
use Rattle.plain_model.specs.State.{PlainState}
use Rattle.plain_model.specs.Forks.{ForkMap, fork_in, superior_of, top_fork, with_status}
use Rattle.plain_model.specs.Interrupts.{posted}

-- the forks by name, and the next fork serial of each terminal
pub record PlainTree : Type 0 where
  pub forks : ForkMap
  pub serials : List ℕ

-- those of the plain state
abbrev pub tree_of : PlainState → PlainTree
tree_of s = record { forks = s.forks; serials = s.fork_serials }

-- the next fork serial of a terminal
abbrev pub next_serial : PlainTree → Tty → ℕ
next_serial tree t = slice_index tree.serials t.0

-- the name of the fork that is made next
abbrev pub next_name : PlainTree → Tty → ForkName
next_name tree t = record { tty = t; serial = next_serial tree t }

-- the least slot of a job in which no fork is
unfoldable pub free_slot : ForkMap → Tty → Option ℕ
free_slot forks t = find (λ slot. is_none (fork_in forks t slot)) (range_with_len 1 MOST_FORKS)

-- a new fork: it is halted at address 0, with nothing in its accumulators, under a superior or as a top fork
abbrev pub new_fork : ForkName → ℕ → Option ℕ → Fork
new_fork name slot superior = record (top_fork name) { slot = slot; superior = superior }

-- a fork that is made lives, and its terminal's next serial is behind its own
abbrev pub with_made : PlainTree → Fork → PlainTree
with_made tree f = record { forks = map.insert tree.forks f.name f; serials = slice_set tree.serials f.name.tty.0 (f.name.serial + 1) }

-- a fork changed, where there is one
abbrev pub changed : ForkMap → (Fork → Fork) → Option Fork → ForkMap
changed forks change f = option_map_or (λ k. map.insert forks k.name (change k)) f forks

abbrev pub with_body : Body → Fork → Fork
with_body body f = record f { body = body }

abbrev pub with_mark : Bool → Fork → Fork
with_mark on f = record f { frozen = on }

-- the fork of a name changed; nothing changes where none lives
abbrev pub with_changed_of : PlainTree → ForkName → (Fork → Fork) → PlainTree
with_changed_of tree name change = record tree { forks = changed tree.forks change (map.get tree.forks name) }

-- who waits for a fork runs again
abbrev pub without_wait : ForkStatus → ForkStatus
without_wait (Wait on.Fork) = Run
without_wait status = status

abbrev pub unwaited : Fork → Fork
unwaited f = with_status f (without_wait f.body.status)

-- each fork changed
abbrev pub all_changed : (Fork → Fork) → ForkMap → ForkMap
all_changed change forks = map.from_entries (each (λ e. (e.0, change e.1)) (map.entries forks))

-- each fork of a job changed
abbrev pub job_changed : (Fork → Fork) → Tty → ForkMap → ForkMap
job_changed change t forks = all_changed (λ f. if f.name.tty.0 == t.0 then change f else f) forks

-- a fork of a job has ended: who waits for a fork of that job runs again
unfoldable pub waiters_woken : ForkMap → Tty → ForkMap
waiters_woken forks t = job_changed (λ f. with_status f (without_wait f.body.status)) t forks

-- who waits for a character runs again
abbrev pub without_read : ForkStatus → ForkStatus
without_read (Wait on.Input) = Run
without_read status = status

abbrev pub unread : Fork → Fork
unread f = with_status f (without_read f.body.status)

-- a character is stored for a job: whoever waits for one runs again
unfoldable pub readers_woken : ForkMap → Tty → ForkMap
readers_woken forks t = job_changed (λ f. with_status f (without_read f.body.status)) t forks

-- who sleeps to a moment that the clock has reached runs again
abbrev pub without_sleep : ℕ → ForkStatus → ForkStatus
without_sleep clock (Wait (on.Sleep moment)) = if nat_le moment clock then Run else Wait (on.Sleep moment)
without_sleep clock status = status

abbrev pub awoken : ℕ → Fork → Fork
awoken clock f = with_status f (without_sleep clock f.body.status)

-- the clock has come to a moment: each sleeper whose moment it reaches runs again
unfoldable pub sleepers_awoken : ℕ → ForkMap → ForkMap
sleepers_awoken clock forks = all_changed (λ f. with_status f (without_sleep clock f.body.status)) forks

-- a fork has halted or was forced: who waits for a fork of its job runs again, and then its superior is told by a channel
abbrev pub end_told : ForkMap → Fork → ForkMap
end_told forks f = let woken = waiters_woken forks f.name.tty in changed woken (λ k. posted k INFERIOR_ENDED) (superior_of woken f)
