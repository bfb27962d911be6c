-- How a schedule stands to the forks that can run.
use Rattle.std.specs.List.{list_any}
use Rattle.std.specs.Prelude.{ℕ, ◌*◌, ◌<◌, ◌≤◌, ◌∷◌, ◌++◌, List, map, Some, false, true, ⊤, ◌≡◌, [], Bool, ◌||◌, ◌&&◌, ◌⊎◌, not}
use Rattle.frame_order.specs.FrameOrder.{IsOnce, stands_in}
use Rattle.machine_names.specs.declared.names.ForkName.{ForkName}
use Rattle.machine_names.specs.declared.names.TheConstants.{TERMINALS, MOST_FORKS}
use Rattle.machine_names.specs.Orders.{same_fork}
use Rattle.page_contracts.specs.declared.answers.Need.{Need}
use Rattle.job_sched.specs.declared.member.Waiter.{Waiter}
use Rattle.job_sched.specs.Schedules.{Schedule, count, seats_of, size, stands, wait_in}
use Rattle.job_sched.specs.Units.{IsTimed}

-- the forks that stand in a list or in page wait are those that can run
pub record AreListed (runs : ForkName → Bool) (s : Schedule) : Type 0 where
  pub each : (f : ForkName) → stands f s ≡ runs f

-- while the set has room, nobody is outside
abbrev pub IsFilled : Schedule → Type 0
IsFilled s = (s.outside ≡ []) ⊎ (s.spare ≡ [])

-- besides those that could run, this fork can
abbrev pub with_fork : (ForkName → Bool) → ForkName → ForkName → Bool
with_fork runs f g = runs g || same_fork f g

-- of those that could run, this fork can't
abbrev pub without_fork : (ForkName → Bool) → ForkName → ForkName → Bool
without_fork runs f g = runs g && not (same_fork f g)

-- the forks that stand in a list or in page wait
abbrev pub forks_of : Schedule → List ForkName
forks_of s = s.outside ++ (map (λ m. m.fork) s.ready ++ map (λ w. w.fork) s.waiting)

-- none of these names is there twice
abbrev pub AreOnce : List ForkName → Type 0
AreOnce [] = ⊤
AreOnce (f ∷ fs) = (list_any (same_fork f) fs ≡ false) × AreOnce fs

-- a fork stands in one place
abbrev pub AreApart : Schedule → Type 0
AreApart s = AreOnce (forks_of s)

-- what is so of every schedule that a `Sched` is: a fork stands in one place, no more stand than there may be forks, the set may have 1 to 63
-- members, each has a number of its own below that, the head has units left, and where nobody is ready none is used
pub record IsSound (s : Schedule) : Type 0 where
  pub apart : AreApart s
  pub few : count s ≤ TERMINALS * MOST_FORKS
  pub some : 1 ≤ size s
  pub small : size s ≤ 63
  pub seats : IsOnce (seats_of s)
  pub numbered : (k : ℕ) → stands_in k (seats_of s) ≡ true → k < size s
  pub timed : IsTimed s
  pub idle : s.ready ≡ [] → s.used ≡ 0

-- with a fork more outside
abbrev pub with_outside : Schedule → ForkName → Schedule
with_outside s f = record s { outside = f ∷ s.outside }

-- who is in page wait was, under its number, and waits for what it waited for, where each has a number of its own
abbrev pub WaitsLess : List Waiter → List Waiter → Type 0
WaitsLess old new = IsOnce (map (λ w. w.seat) old) → IsOnce (map (λ w. w.seat) new) × ((k : ℕ) (n : Need) → wait_in new k ≡ Some n → wait_in old k ≡ Some n)
