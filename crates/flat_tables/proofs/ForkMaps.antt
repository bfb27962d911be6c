-- Which map is whose, of the maps in memory.
use Rattle.std.proofs.Common.{◌≡◌, ◌≢◌, ℕ, ◌+◌, ◌*◌, ◌<◌, ◌≤◌, List, [], false, Option, None, Some, is_some, length, refl}
use Rattle.std.specs.Prelude.{slice_set}
use Rattle.machine_names.specs.declared.names.ForkName.{ForkName}
use Rattle.machine_names.specs.declared.names.TheConstants.{LAST_SERIAL, TERMINALS}
use Rattle.fork_maps.specs.MapNumbers.{AreListed, with_number}
use Rattle.fork_maps.proofs.Listing.{begun_listed}
use Rattle.fork_maps.proofs.ForkMaps as forks
pub use Rattle.fork_maps.proofs.ForkMaps.{SameFork, fork_tells}
use Rattle.flat_tables.specs.declared.held_entry.HeldEntry.{HeldEntry}
use Rattle.flat_tables.specs.declared.held_map.HeldMap.{HeldMap}
use Rattle.flat_tables.specs.HeldMaps.{first_map, fork_at, index_of}

abbrev whose : HeldMap → Option ForkName
whose m = m.fork

abbrev past : HeldMap
past = record { fork = None; entries = [] }

abbrev pub Searched : List HeldMap → ForkName → Type 0
Searched = forks.Searched whose past

pub searched : (maps : List HeldMap) (f : ForkName) → Searched maps f
searched = forks.searched whose past refl

pub index_none : (maps : List HeldMap) (f : ForkName) → ((k : ℕ) → fork_at maps k ≢ Some f) → index_of maps f ≡ None
index_none = forks.index_none whose past refl

pub index_fork : (maps : List HeldMap) (f : ForkName) (k : ℕ) → index_of maps f ≡ Some k → fork_at maps k ≡ Some f
index_fork = forks.index_fork whose past refl

abbrev pub Once : List HeldMap → Type 0
Once = forks.Once whose past

pub index_is : (maps : List HeldMap) → Once maps → (f : ForkName) (k : ℕ) → fork_at maps k ≡ Some f → index_of maps f ≡ Some k
index_is = forks.index_is whose past refl

pub fork_within : (maps : List HeldMap) (k : ℕ) (f : ForkName) → fork_at maps k ≡ Some f → k < length maps
fork_within = forks.fork_within whose past refl

-- a map becomes that of a fork that had none
pub listed_begun : (maps : List HeldMap) (numbers : List ℕ) → AreListed (fork_at maps) numbers → length numbers ≡ TERMINALS * (LAST_SERIAL + 1) → (k : ℕ) (f : ForkName) (entries : List HeldEntry) → k < length maps → is_some (index_of maps f) ≡ false → first_map f.tty ≤ k
    → AreListed (fork_at (slice_set maps k (record { fork = Some f; entries = entries }))) (with_number numbers f k)
listed_begun maps numbers n size k f entries within absent from = begun_listed whose past refl maps numbers n k (record { fork = Some f; entries = entries }) within size f refl (none (index_of maps f) absent) from
  where
    none : (o : Option ℕ) → is_some o ≡ false → o ≡ None
    none None e = refl
    none (Some j) e = absurd (cc e)
