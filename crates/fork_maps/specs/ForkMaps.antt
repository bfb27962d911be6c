-- Whose map is which.
use Rattle.std.specs.Prelude.{◌≡◌, ℕ, suc, ◌+◌, ◌*◌, ◌<◌, ◌≤◌, List, [], ◌∷◌, Bool, false, Option, None, Some, if◌then◌else◌, slice_index_or}
use Rattle.std.specs.Option.{option_map_or}
use Rattle.machine_names.specs.declared.names.ForkName.{ForkName}
use Rattle.machine_names.specs.declared.names.Tty.{Tty}
use Rattle.machine_names.specs.declared.names.TheConstants.{MOST_FORKS}
use Rattle.machine_names.specs.Orders.{same_fork}

-- the number of the first map that a terminal's forks may have
abbrev pub first_map : Tty → ℕ
first_map t = t.0 * MOST_FORKS

-- a place of a list, as it is one place later
abbrev pub one_later : Option ℕ → Option ℕ
one_later None = None
one_later (Some k) = Some (suc k)

-- each map tells whose it is, if it is some fork's
module _ {M : Type 0} (whose : M → Option ForkName) where
  -- whether a map is that of a fork
  abbrev pub is_map_of : M → ForkName → Bool
  is_map_of m f = option_map_or (same_fork f) (whose m) false

  -- the number of the first map of a fork
  abbrev pub index_of : List M → ForkName → Option ℕ
  index_of [] f = None
  index_of (m ∷ maps) f = if is_map_of m f then Some 0 else one_later (index_of maps f)

  -- the fork whose map has a number; past the end stands this one
  abbrev pub fork_at : M → List M → ℕ → Option ForkName
  fork_at past maps k = whose (slice_index_or maps k past)

-- Each fork has one map, among those of its terminal.
pub record AreOwn (fork : ℕ → Option ForkName) : Type 0 where
  pub once : (j k : ℕ) (f : ForkName) → fork j ≡ Some f → fork k ≡ Some f → j ≡ k
  pub from : (k : ℕ) (f : ForkName) → fork k ≡ Some f → first_map f.tty ≤ k
  pub below : (k : ℕ) (f : ForkName) → fork k ≡ Some f → k < first_map f.tty + MOST_FORKS
