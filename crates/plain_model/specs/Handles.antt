-- Handles of forks (JSYS Manual, "Process handles").
use Rattle.std.specs.Prelude.{ℕ, ◌-◌, Option, None, Some, if◌then◌else◌, ◌==◌, ◌&&◌, nat_le}
use Rattle.std.specs.Option.{option_and_then}
use Rattle.std.specs.FinMap as map
use Rattle.plain_model.specs.declared.call.TheConstants.{FORK_SELF, FORK_SUPERIOR, FIRST_HANDLE, LAST_HANDLE}
use Rattle.machine_names.specs.declared.names.ForkName.{ForkName}
use Rattle.plain_model.specs.declared.fork.Fork.{Fork}
use Rattle.plain_model.specs.Forks.{ForkMap, fork_in, superior_of}

-- the fork that a handle of a living fork names: itself, its superior, or the fork of its job in a slot
abbrev pub named_by : ForkMap → ℕ → Fork → Option Fork
named_by forks handle caller =
    if handle == FORK_SELF then Some caller
    else (if handle == FORK_SUPERIOR then superior_of forks caller
    else (if nat_le FIRST_HANDLE handle && nat_le handle LAST_HANDLE then fork_in forks caller.name.tty (handle - FORK_SELF) else None))

-- the fork that a handle of a fork names
unfoldable pub named : ForkMap → ForkName → ℕ → Option Fork
named forks who handle = option_and_then (named_by forks handle) (map.get forks who)
