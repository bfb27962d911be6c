-- What is kept beside the entries of maps, so that few steps tell whether a page may be used.
use Rattle.std.specs.Prelude.{◌≡◌, ℕ, ◌/◌, ◌-◌, ◌^◌, ◌<◌, List, [], ◌∷◌, Bool, false, Option, None, Some, if◌then◌else◌, nat_eq, length, replicate, slice_index_or}
use Rattle.machine_names.specs.declared.names.Access.{Access}
use Rattle.machine_names.specs.declared.names.ForkName.{ForkName}
use Rattle.page_homes.specs.declared.homes.Home.{Home}
use Rattle.machine_names.specs.declared.names.TheConstants.{MOST_FORKS, SPACE_PAGES}
use Rattle.flat_tables.specs.declared.chain_walk.Use.{Use}
use Rattle.flat_tables.specs.declared.chain_walk.Use.TheVariants.{Read, Write, Execute, Change}
use Rattle.flat_tables.specs.declared.held_entry.EntryAt.{EntryAt}
use Rattle.flat_tables.specs.declared.held_entry.HeldEntry.{HeldEntry}
use Rattle.flat_tables.specs.declared.held_entry.HeldEntry.TheVariants.{Empty, Page, Follows}
use Rattle.flat_tables.specs.declared.held_map.HeldMap.{HeldMap}
use Rattle.flat_tables.specs.declared.look.Look.{Look}
use Rattle.flat_tables.specs.HeldMaps.{map_at, fork_at, held_entry}
use Rattle.flat_tables.specs.Walks.{lets}

-- which of the uses one is
abbrev pub use_number : Use → ℕ
use_number Read = 0
use_number Write = 1
use_number Execute = 2
use_number Change = 3

-- which uses an access lets
abbrev pub uses_of : Access → List Bool
uses_of a = lets Read a ∷ lets Write a ∷ lets Execute a ∷ lets Change a ∷ []

abbrev pub no_uses : List Bool
no_uses = false ∷ false ∷ false ∷ false ∷ []

abbrev pub no_look : Look
no_look = record { ready = no_uses; passes = no_uses; number = 0; page = 0; map = 0 }

-- beside entries that name no page
unfoldable pub no_looks : List Look
no_looks = replicate SPACE_PAGES no_look

-- what is kept beside an entry of the map with a number
abbrev pub look_of : ℕ → HeldEntry → Look
look_of k Empty = no_look
look_of k (Page h a) = record { ready = uses_of a; passes = no_uses; number = h.0; page = 0; map = 0 }
look_of k (Follows l a) = record {
  ready = no_uses;
  passes = if nat_eq (l.map / MOST_FORKS) (k / MOST_FORKS) then uses_of a else no_uses;
  number = l.serial;
  page = l.page;
  map = l.map;
}

-- what is kept beside the entries of the map with a number
abbrev pub row_at : List (List Look) → ℕ → List Look
row_at looks k = slice_index_or looks k []

-- past the end
abbrev pub past_look : Look
past_look = record { ready = []; passes = []; number = 0; page = 0; map = 0 }

abbrev pub look_at : List (List Look) → EntryAt → Look
look_at looks at = slice_index_or (row_at looks at.map) at.page past_look

-- what is kept for a map: its fork's serial, or what is none
abbrev pub key_of : Option ForkName → ℕ
key_of None = 2 ^ 64 - 1
key_of (Some f) = f.serial

abbrev pub key_at : List ℕ → ℕ → ℕ
key_at keys k = slice_index_or keys k (2 ^ 64 - 1)

-- a home as a number, and what is the number of none
abbrev pub IsCode : ℕ → Option Home → Type 0
IsCode n None = n ≡ 2 ^ 64 - 1
IsCode n (Some h) = (n ≡ h.0) × (n < 2 ^ 32)

-- what is kept beside maps is of their entries, and of their forks
pub record AreLooked (maps : List HeldMap) (looks : List (List Look)) (keys : List ℕ) : Type 0 where
  pub rows : length looks ≡ length maps
  pub pages : (k : ℕ) → length (row_at looks k) ≡ length (map_at maps k).entries
  pub sized : (k : ℕ) → k < length maps → length (row_at looks k) ≡ SPACE_PAGES
  pub each : (at : EntryAt) (e : HeldEntry) → held_entry maps at ≡ Some e → look_at looks at ≡ look_of at.map e
  pub many : length keys ≡ length maps
  pub forks : (k : ℕ) → key_at keys k ≡ key_of (fork_at maps k)
