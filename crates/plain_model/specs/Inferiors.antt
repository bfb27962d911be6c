-- Who stands below whom among the forks of a job.
use Rattle.std.specs.Prelude.{ℕ, Bool, false, ◌||◌, Option}
use Rattle.std.specs.Option.{option_map_or}
use Rattle.std.specs.FinMap as map
use Rattle.machine_names.specs.declared.names.ForkName.{ForkName}
use Rattle.machine_names.specs.declared.names.TheConstants.{MOST_FORKS}
use Rattle.plain_model.specs.declared.fork.Fork.{Fork}
use Rattle.plain_model.specs.Forks.{ForkMap, any_upward, superior_of}
use Rattle.machine_names.specs.Orders.{same_fork}

-- whether a fork is one of a name or stands below it; so many forks are looked at
abbrev pub is_within : ℕ → ForkMap → ForkName → Option Fork → Bool
is_within n forks who f = any_upward (λ k. same_fork k.name who) n forks f

-- whether a fork is an inferior of another: it lives, and the other is its superior, that one's superior, and so on
unfoldable pub is_inferior : ForkMap → ForkName → ForkName → Bool
is_inferior forks who name = option_map_or (λ f. is_within MOST_FORKS forks who (superior_of forks f)) (map.get forks name) false

-- whether a fork is one of a name or an inferior of it
abbrev pub is_in_branch : ForkMap → ForkName → ForkName → Bool
is_in_branch forks who name = same_fork name who || is_inferior forks who name
