-- Which forks start first where several do.
use Rattle.std.specs.Prelude.{ℕ, List, Bool, not}
use Rattle.machine_names.specs.declared.names.ForkName.{ForkName}
use Rattle.machine_names.specs.declared.names.Tty.{Tty}
use Rattle.fork_lists.specs.declared.following.Choice.{Choice}
use Rattle.fork_lists.specs.declared.following.Choice.TheVariants.{Waiters, Others}
use Rattle.fork_lists.specs.declared.seen.Seen.{Seen}
use Rattle.fork_lists.specs.Seeing.{has_waited}

-- whether a fork in a slot of a job is of a choice
abbrev pub picked : List Seen → Tty → Choice → ℕ → ForkName → Bool
picked seen t Waiters slot f = has_waited seen t slot f
picked seen t Others slot f = not (has_waited seen t slot f)
