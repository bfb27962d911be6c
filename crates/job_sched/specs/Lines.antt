-- Who stands before whom, and how many units pass until a fork is the head.
use Rattle.std.specs.Prelude.{◌≡◌, ℕ, suc, ◌+◌, ◌-◌, ◌*◌, ◌≤◌, List, [], ◌∷◌, ◌++◌, map, Bool, true, ◌||◌, if◌then◌else◌}
use Rattle.machine_names.specs.declared.names.TheConstants.{QUANTUM}
use Rattle.machine_names.specs.declared.names.ForkName.{ForkName}
use Rattle.machine_names.specs.Orders.{same_fork}
use Rattle.job_sched.specs.Schedules.{Schedule, is_ready, is_outside}
use Rattle.job_sched.specs.Units.{IsTimed}

-- the forks of the ready list, and behind them those outside
abbrev pub line : Schedule → List ForkName
line s = map (λ m. m.fork) s.ready ++ s.outside

-- whether a fork stands in line
abbrev pub is_in_line : ForkName → Schedule → Bool
is_in_line f s = is_ready f s || is_outside f s

-- how many forks stand before the first of this name
unfoldable pub ahead : ForkName → List ForkName → ℕ
ahead f [] = 0
ahead f (g ∷ gs) = if same_fork f g then 0 else suc (ahead f gs)

-- how many units of others may pass, at most, before a fork in line is the head: a quantum for each fork before it, less what the head has run
abbrev pub ahead_of : ForkName → Schedule → ℕ
ahead_of f s = QUANTUM * ahead f (line s) - s.used

-- from one schedule to another, so many units of others have passed, and a fork still stands in line, closer by as many
pub record Nears (f : ForkName) (s t : Schedule) (n : ℕ) : Type 0 where
  pub timed : IsTimed t
  pub here : is_in_line f t ≡ true
  pub nearer : ahead_of f t + n ≤ ahead_of f s
