-- What laws say of moves.
use Rattle.std.specs.Prelude.{Bool, false}
use Rattle.machine_names.specs.declared.names.ForkName.{ForkName}
use Rattle.machine_names.specs.Orders.{same_fork}
use Rattle.plain_model.specs.Moves.{Move, Stops, Starts}

-- a move lets a fork run
abbrev pub starts_it : ForkName → Move → Bool
starts_it f (Starts g) = same_fork g f
starts_it f (Stops g) = false

-- a move stops a fork
abbrev pub stops_it : ForkName → Move → Bool
stops_it f (Stops g) = same_fork g f
stops_it f (Starts g) = false
