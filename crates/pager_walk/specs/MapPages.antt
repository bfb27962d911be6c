-- Which home has the map of each fork.
use Rattle.std.specs.Prelude.{◌≡◌, ℕ, ◌+◌, ◌<◌, ◌≤◌, List, Option, None, Some, length, slice_index_or}
use Rattle.machine_names.specs.declared.names.ForkName.{ForkName}
use Rattle.machine_names.specs.declared.names.TheConstants.{MOST_FORKS}
use Rattle.fork_maps.specs.ForkMaps as forks
pub use Rattle.fork_maps.specs.ForkMaps.{first_map, one_later}
use Rattle.page_homes.specs.declared.homes.Home.{Home}
use Rattle.pager_walk.specs.declared.map_pages.MapPage.{MapPage}
use Rattle.fork_maps.specs.declared.map_numbers.TheConstants.{MOST_MAPS}

-- the map of no fork
abbrev pub no_map : MapPage
no_map = record { fork = None; home = record { 0 = 0 } }

-- the map with a number; there is none past the end
abbrev pub map_at : List MapPage → ℕ → MapPage
map_at maps k = slice_index_or maps k no_map

-- the fork whose map has a number
abbrev pub fork_at : List MapPage → ℕ → Option ForkName
fork_at maps k = (map_at maps k).fork

-- the home of the map with a number
abbrev pub root_at : List MapPage → ℕ → Home
root_at maps k = (map_at maps k).home

-- the number of the first map of a fork
abbrev pub index_of : List MapPage → ForkName → Option ℕ
index_of = forks.index_of (λ m. m.fork)

-- Each fork has one map, among those of its terminal.
pub record AreNumbered (maps : List MapPage) : Type 0 where
  pub count : length maps ≡ MOST_MAPS
  pub once : (j k : ℕ) (f : ForkName) → fork_at maps j ≡ Some f → fork_at maps k ≡ Some f → j ≡ k
  pub from : (k : ℕ) (f : ForkName) → fork_at maps k ≡ Some f → first_map f.tty ≤ k
  pub below : (k : ℕ) (f : ForkName) → fork_at maps k ≡ Some f → k < first_map f.tty + MOST_FORKS
