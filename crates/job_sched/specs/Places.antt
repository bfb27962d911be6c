-- How the schedule stands in memory.
use Rattle.std.specs.Prelude.{◌≡◌, ℕ, ◌+◌, ◌*◌, ◌<◌, ◌≤◌, ◌==◌, List, length, map, Option, None, Some, Bool, true, false, slice_index, slice_index_or}
use Rattle.frame_order.specs.FrameOrder.{Order, IsOrder, stands_in}
use Rattle.machine_names.specs.declared.names.ForkName.{ForkName}
use Rattle.machine_names.specs.declared.names.TheConstants.{TERMINALS, MOST_FORKS, LAST_SERIAL, QUANTUM}
use Rattle.page_contracts.specs.declared.answers.Need.TheVariants.{Frame}
use Rattle.machine_names.specs.Orders.{same_fork}
use Rattle.machine_names.specs.Bounds.{IsForkName}
use Rattle.job_sched.specs.declared.member.Waiter.{Waiter}
use Rattle.job_sched.specs.declared.rows.Row.TheVariants.{Outside, Ready, Waiting}
use Rattle.job_sched.specs.Rows.{Rows, IsRows, number, row}
use Rattle.job_sched.specs.Schedules.{Schedule, member_of}

-- what stands at a place
abbrev pub spot : List Waiter → ℕ → Waiter
spot spots p = slice_index_or spots p (record { fork = record { tty = record { 0 = 0 }; serial = 0 }; seat = 0; need = Frame })

-- where a fork's name stands among those of all terminals
abbrev pub name_index : ForkName → ℕ
name_index f = f.tty.0 * (LAST_SERIAL + 1) + f.serial

-- how many places there are
abbrev pub all_places : ℕ
all_places = TERMINALS * MOST_FORKS

-- the schedule whose forks have these places in the rows
abbrev pub schedule_of : Rows → List Waiter → List ℕ → ℕ → Schedule
schedule_of r spots spare used = record {
  ready = map (λ p. member_of (spot spots p)) (row r (number Ready));
  outside = map (λ p. (spot spots p).fork) (row r (number Outside));
  waiting = map (spot spots) (row r (number Waiting));
  spare = spare;
  used = used;
}

-- a place has a fork, whose name leads to it
pub record IsPlaced (spots : List Waiter) (places : List ℕ) (p : ℕ) : Type 0 where
  pub named : IsForkName (spot spots p).fork
  pub leads : slice_index places (name_index (spot spots p).fork) ≡ p

-- it has a number of the set, which leads to it and is not to be had
pub record IsSeated (numbers : Order) (spots : List Waiter) (seats : List ℕ) (p : ℕ) : Type 0 where
  pub below : (spot spots p).seat < numbers.frames
  pub leads : slice_index seats (spot spots p).seat ≡ p
  pub taken : stands_in (spot spots p).seat numbers.order ≡ false

-- each place but the free ones has a fork
pub record AreNamed (r : Rows) (spots : List Waiter) (places : List ℕ) : Type 0 where
  pub rows : IsRows r
  pub four : length r.rows ≡ 4
  pub bound : r.numbers ≡ all_places
  pub all_spots : length spots ≡ all_places
  pub all_names : length places ≡ TERMINALS * (LAST_SERIAL + 1)
  pub inside : (i : ℕ) → slice_index places i < all_places
  pub placed : (k p : ℕ) → 1 ≤ k → stands_in p (row r k) ≡ true → IsPlaced spots places p

-- besides, each place of a ready or a waiting fork has a number, and where none is ready, no unit of a quantum is used
pub record IsKept (r : Rows) (numbers : Order) (spots : List Waiter) (places seats : List ℕ) (used : ℕ) : Type 0 where
  pub names : AreNamed r spots places
  pub all_seats : length seats ≡ numbers.frames
  pub inside : (k : ℕ) → slice_index seats k < all_places
  pub seated : (k p : ℕ) → 2 ≤ k → stands_in p (row r k) ≡ true → IsSeated numbers spots seats p
  pub order : IsOrder numbers
  pub full : length (row r (number Ready)) + length (row r (number Waiting)) + length numbers.order ≡ numbers.frames
  pub some : 1 ≤ numbers.frames
  pub few : numbers.frames ≤ 63
  pub timed : used < QUANTUM
  pub idle : used ≤ QUANTUM * length (row r (number Ready))

-- a fork stands at a place, and that isn't free
pub record IsThere (r : Rows) (spots : List Waiter) (f : ForkName) (p : ℕ) : Type 0 where
  pub row_at : ℕ
  pub some : 1 ≤ row_at
  pub here : stands_in p (row r row_at) ≡ true
  pub below : p < all_places
  pub fork : (spot spots p).fork ≡ f

-- the place of a fork, if it has one
abbrev pub IsPlaceOf : Rows → List Waiter → ForkName → Option ℕ → Type 0
IsPlaceOf r spots f None = (k p : ℕ) → 1 ≤ k → stands_in p (row r k) ≡ true → same_fork f (spot spots p).fork ≡ false
IsPlaceOf r spots f (Some p) = IsThere r spots f p

-- whether a row begins with this place
abbrev pub is_at : Option ℕ → ℕ → Bool
is_at None p = false
is_at (Some q) p = q == p
