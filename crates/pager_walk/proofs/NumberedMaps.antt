-- Which map is whose, of the maps that are pages.
use Rattle.std.proofs.Common.{◌≡◌, ◌≢◌, ℕ, ◌<◌, List, Option, None, Some, length, refl}
use Rattle.machine_names.specs.declared.names.ForkName.{ForkName}
use Rattle.fork_maps.proofs.ForkMaps as forks
pub use Rattle.fork_maps.proofs.ForkMaps.{SameFork, fork_tells}
use Rattle.pager_walk.specs.declared.map_pages.MapPage.{MapPage}
use Rattle.pager_walk.specs.MapPages.{fork_at, index_of, no_map}

abbrev whose : MapPage → Option ForkName
whose m = m.fork

abbrev pub Searched : List MapPage → ForkName → Type 0
Searched = forks.Searched whose no_map

pub searched : (maps : List MapPage) (f : ForkName) → Searched maps f
searched = forks.searched whose no_map refl

pub index_none : (maps : List MapPage) (f : ForkName) → ((k : ℕ) → fork_at maps k ≢ Some f) → index_of maps f ≡ None
index_none = forks.index_none whose no_map refl

pub index_fork : (maps : List MapPage) (f : ForkName) (k : ℕ) → index_of maps f ≡ Some k → fork_at maps k ≡ Some f
index_fork = forks.index_fork whose no_map refl

abbrev pub Once : List MapPage → Type 0
Once = forks.Once whose no_map

pub index_is : (maps : List MapPage) → Once maps → (f : ForkName) (k : ℕ) → fork_at maps k ≡ Some f → index_of maps f ≡ Some k
index_is = forks.index_is whose no_map refl

pub fork_within : (maps : List MapPage) (k : ℕ) (f : ForkName) → fork_at maps k ≡ Some f → k < length maps
fork_within = forks.fork_within whose no_map refl
