-- The maps of forks as they stand in memory, and the maps that they are.
use Rattle.std.specs.Prelude.{◌≡◌, ℕ, ◌+◌, ◌<◌, ◌≤◌, List, [], ◌∷◌, false, Option, None, Some, if◌then◌else◌, nat_eq, length, map, replicate, slice_get, slice_index_or, slice_set}
use Rattle.std.specs.List.{count_by, sum_by, range_with_len}
use Rattle.std.specs.Option.{option_map_or, unwrap_or}
use Rattle.std.specs.Prelude.{is_some}
use Rattle.std.specs.FinMap as map
use Rattle.machine_names.specs.declared.names.ForkName.{ForkName}
use Rattle.machine_names.specs.declared.names.Tty.{Tty}
use Rattle.machine_names.specs.declared.names.PageName.{PageName}
use Rattle.page_homes.specs.declared.homes.Home.{Home}
use Rattle.machine_names.specs.declared.names.Access.{Access}
use Rattle.machine_names.specs.declared.names.TheConstants.{SPACE_PAGES, MOST_FORKS}
use Rattle.plain_pages.specs.declared.map.MapEntry.{MapEntry}
use Rattle.plain_pages.specs.declared.map.MapEntry.TheVariants as entry
use Rattle.plain_pages.specs.PlainPages.{Map, Maps}
use Rattle.plain_pages.specs.Maps.{full_access}
use Rattle.fork_maps.specs.ForkMaps as forks
pub use Rattle.fork_maps.specs.ForkMaps.{first_map, one_later}
use Rattle.flat_tables.specs.declared.held_entry.HeldEntry.{HeldEntry}
use Rattle.flat_tables.specs.declared.held_entry.HeldEntry.TheVariants.{Empty, Page, Follows}
use Rattle.flat_tables.specs.declared.held_entry.EntryAt.{EntryAt}
use Rattle.flat_tables.specs.declared.held_entry.Link.{Link}
use Rattle.flat_tables.specs.declared.held_map.HeldMap.{HeldMap}
use Rattle.fork_maps.specs.declared.map_numbers.TheConstants.{MOST_MAPS}

-- entries that name no page
unfoldable pub no_page : List HeldEntry
no_page = replicate SPACE_PAGES Empty

-- entries each of which follows the same entry of a fork, with every right
unfoldable pub followers : ℕ → ℕ → List HeldEntry
followers serial near = map (λ page. Follows (record { serial = serial; page = page; map = near }) full_access) (range_with_len 0 SPACE_PAGES)

-- the map of no fork
abbrev pub free_map : HeldMap
free_map = record { fork = None; entries = no_page }

-- the map with a number; there is none past the end
abbrev pub map_at : List HeldMap → ℕ → HeldMap
map_at maps k = slice_index_or maps k (record { fork = None; entries = [] })

-- the fork whose map has a number
abbrev pub fork_at : List HeldMap → ℕ → Option ForkName
fork_at maps k = (map_at maps k).fork

-- the entry at a page of a map
abbrev pub held_entry : List HeldMap → EntryAt → Option HeldEntry
held_entry maps at = slice_get (map_at maps at.map).entries at.page

-- a map with another entry at a page
abbrev pub entry_set : HeldMap → ℕ → HeldEntry → HeldMap
entry_set m page e = record m { entries = slice_set m.entries page e }

-- the maps with another entry at a page of a map
abbrev pub with_entry : List HeldMap → EntryAt → HeldEntry → List HeldMap
with_entry maps at e = slice_set maps at.map (entry_set (map_at maps at.map) at.page e)

-- the number of the first map of a fork
abbrev pub index_of : List HeldMap → ForkName → Option ℕ
index_of = forks.index_of (λ m. m.fork)

-- Each fork has one map, among those of its terminal. The maps of no fork name no page.
pub record AreHeld (maps : List HeldMap) : Type 0 where
  pub count : length maps ≡ MOST_MAPS
  pub pages : (k : ℕ) → k < length maps → length (map_at maps k).entries ≡ SPACE_PAGES
  pub once : (j k : ℕ) (f : ForkName) → fork_at maps j ≡ Some f → fork_at maps k ≡ Some f → j ≡ k
  pub from : (k : ℕ) (f : ForkName) → fork_at maps k ≡ Some f → first_map f.tty ≤ k
  pub below : (k : ℕ) (f : ForkName) → fork_at maps k ≡ Some f → k < first_map f.tty + MOST_FORKS
  pub links : (at : EntryAt) (l : Link) (a : Access) → held_entry maps at ≡ Some (Follows l a) → l.page < SPACE_PAGES
  pub unused : (at : EntryAt) (e : HeldEntry) → fork_at maps at.map ≡ None → held_entry maps at ≡ Some e → e ≡ Empty

-- the name of the page of a home
abbrev pub name_at : List (Option PageName) → ℕ → Option PageName
name_at names h = slice_index_or names h None

abbrev pub nobody : PageName
nobody = record { tty = record { 0 = 0 }; serial = 0 }

-- the name of the page of a home
abbrev pub name_of : List (Option PageName) → Home → PageName
name_of names h = unwrap_or (name_at names h.0) nobody

-- the map entry that one in memory stands for
abbrev pub entry_of : List (Option PageName) → HeldEntry → MapEntry
entry_of names Empty = entry.Empty
entry_of names (Page h a) = entry.Names (name_of names h) a
entry_of names (Follows l a) = entry.Follows l.serial l.page a

abbrev pub entries_of : List (Option PageName) → HeldMap → Map
entries_of names m = map (entry_of names) m.entries

-- the maps of the living forks
abbrev pub with_held : List (Option PageName) → HeldMap → Maps → Maps
with_held names m rest = option_map_or (λ f. map.insert rest f (entries_of names m)) m.fork rest

abbrev pub maps_from : List (Option PageName) → List HeldMap → Maps
maps_from names [] = map.empty
maps_from names (m ∷ maps) = with_held names m (maps_from names maps)

unfoldable pub maps_held : List (Option PageName) → List HeldMap → Maps
maps_held names maps = maps_from names maps

-- a number for each entry, summed over all maps
abbrev pub entries_total : (HeldEntry → ℕ) → List HeldMap → ℕ
entries_total w maps = sum_by (λ m. sum_by w m.entries) maps

-- whether an entry names the page of a home, as a number
abbrev pub points_at : ℕ → HeldEntry → ℕ
points_at h Empty = 0
points_at h (Page k a) = if nat_eq k.0 h then 1 else 0
points_at h (Follows l a) = 0

-- how many forks live
abbrev pub living_in : List HeldMap → ℕ
living_in maps = count_by (λ m. is_some m.fork) maps

-- how many forks of a terminal live
abbrev pub living_of : List HeldMap → Tty → ℕ
living_of maps t = count_by (λ m. option_map_or (λ f. nat_eq f.tty.0 t.0) m.fork false) maps
