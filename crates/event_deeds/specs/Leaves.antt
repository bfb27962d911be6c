-- Which inferior of a fork goes first, where they are killed one by one.
use Rattle.std.specs.Prelude.{ℕ, zero, suc, Bool, not, ◌&&◌, Option, Some, None, if◌then◌else◌}
use Rattle.std.specs.List.{list_any}
use Rattle.std.specs.Option.{option_and_then, option_or}
use Rattle.std.specs.FinMap as map
use Rattle.machine_names.specs.declared.names.ForkName.{ForkName}
use Rattle.machine_names.specs.declared.names.TheConstants.{MOST_FORKS}
use Rattle.plain_model.specs.declared.fork.Fork.{Fork}
use Rattle.plain_model.specs.Forks.{ForkMap, fork_in}
use Rattle.plain_model.specs.Inferiors.{is_inferior}

-- a fork, where it is an inferior of another and has none itself
abbrev pub leaf_below : ForkMap → ForkName → Fork → Option Fork
leaf_below forks who f = if is_inferior forks who f.name && not (list_any (is_inferior forks f.name) (map.keys forks)) then Some f else None

-- of such forks in the slots up to one, that in the highest
abbrev pub last_up_to : ForkMap → ForkName → ℕ → Option Fork
last_up_to forks who zero = None
last_up_to forks who (suc n) = option_or (option_and_then (leaf_below forks who) (fork_in forks who.tty (suc n))) (last_up_to forks who n)

-- of a fork's inferiors that have none themselves, the one in the highest slot
unfoldable pub last_below : ForkMap → ForkName → Option Fork
last_below forks who = last_up_to forks who MOST_FORKS
