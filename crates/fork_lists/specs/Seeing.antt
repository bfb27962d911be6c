-- What was seen of the slots of all jobs when their forks were last looked at.
use Rattle.std.specs.Prelude.{◌≡◌, ◌≢◌, ◌⊎◌, ◌≤◌, ◌+◌, ◌-◌, ◌*◌, ℕ, List, Bool, false, ◌&&◌, Option, None, Some, slice_index_or}
use Rattle.std.specs.List.{list_any, range_with_len}
use Rattle.std.specs.Option.{option_map_or}
use Rattle.machine_names.specs.Bounds.{IsForkName, IsTerminal}
use Rattle.machine_names.specs.Orders.{same_fork}
use Rattle.machine_names.specs.declared.names.ForkName.{ForkName}
use Rattle.machine_names.specs.declared.names.Tty.{Tty}
use Rattle.machine_names.specs.declared.names.TheConstants.{MOST_FORKS, TERMINALS}
use Rattle.plain_model.specs.declared.fork.Fork.{Fork}
use Rattle.plain_model.specs.Moves.{waits_for_one}
use Rattle.fork_lists.specs.declared.seen.Seen.{Seen}

-- the slots of a job, in order
unfoldable pub job_slots : List ℕ
job_slots = range_with_len 1 MOST_FORKS

-- the terminals, in order
unfoldable pub all_jobs : List ℕ
all_jobs = range_with_len 0 TERMINALS

-- no fork is in a slot
abbrev pub nobody : Seen
nobody = record { fork = None; waits = false }

-- what is seen of a slot in which this is
abbrev pub seen_of : Option Fork → Seen
seen_of None = nobody
seen_of (Some f) = record { fork = Some f.name; waits = waits_for_one f.body.status }

-- the place of a slot of a job among those of all jobs
abbrev pub place_at : Tty → ℕ → ℕ
place_at t slot = t.0 * MOST_FORKS + (slot - 1)

-- what was seen of a slot of a job
abbrev pub seen_in : List Seen → Tty → ℕ → Seen
seen_in seen t slot = slice_index_or seen (place_at t slot) nobody

-- whether a fork of this name is the one that was seen
abbrev pub is_seen : ForkName → Seen → Bool
is_seen f x = option_map_or (same_fork f) x.fork false

-- whether it was seen in one of these slots of a job
abbrev pub was_seen : List Seen → Tty → ForkName → List ℕ → Bool
was_seen seen t f slots = list_any (λ slot. is_seen f (seen_in seen t slot)) slots

-- whether it was seen in a slot of a job to wait for a fork
abbrev pub has_waited : List Seen → Tty → ℕ → ForkName → Bool
has_waited seen t slot f = let x = seen_in seen t slot in x.waits && is_seen f x

-- a fork that was seen in a slot of a job has a name within the limits, of that job
abbrev pub AreNamed : List Seen → Type 0
AreNamed seen = (t : Tty) (slot : ℕ) (f : ForkName) → IsTerminal t → 1 ≤ slot → slot ≤ MOST_FORKS → (seen_in seen t slot).fork ≡ Some f → IsForkName f × (f.tty.0 ≡ t.0)

-- what was seen of each slot but one is as it was
abbrev pub SeenElsewhere : List Seen → List Seen → Tty → ℕ → Type 0
SeenElsewhere old new t slot = (u : Tty) (k : ℕ) → (u.0 ≢ t.0) ⊎ (k ≢ slot) → 1 ≤ k → k ≤ MOST_FORKS → seen_in new u k ≡ seen_in old u k
