-- Maps that are pages, as the maps in memory that their words stand for.
use Rattle.std.specs.Prelude.{ℕ, List, Option, None, Some, map}
use Rattle.std.specs.Option.{option_map_or}
use Rattle.machine_names.specs.declared.names.ForkName.{ForkName}
use Rattle.page_homes.specs.declared.homes.Home.{Home}
use Rattle.pager_walk.specs.declared.map_pages.MapPage.{MapPage}
use Rattle.pager_walk.specs.declared.paged_entry.PagedEntry.{PagedEntry}
use Rattle.pager_walk.specs.declared.paged_entry.PagedEntry.TheVariants as paged
use Rattle.pager_walk.specs.PagedMaps.{Tables, entry_in, words_in}
use Rattle.flat_tables.specs.declared.held_entry.HeldEntry.{HeldEntry}
use Rattle.flat_tables.specs.declared.held_entry.HeldEntry.TheVariants.{Empty, Page, Follows}
use Rattle.flat_tables.specs.declared.held_map.HeldMap.{HeldMap}
use Rattle.flat_tables.specs.HeldMaps.{no_page}

-- the same entry in memory
abbrev pub in_memory : PagedEntry → HeldEntry
in_memory paged.Empty = Empty
in_memory (paged.Page home a) = Page home a
in_memory (paged.Follows serial page a) = Follows (record { serial = serial; page = page; map = 0 }) a

-- the entry of a word; an empty one where it stands for none
abbrev pub entry_held : Tables → ℕ → HeldEntry
entry_held t w = option_map_or in_memory (entry_in t w) Empty

-- the entries of a map, whose words are those of its home; the map of no fork has none
abbrev pub entries_held : Tables → (ℕ → Option (List ℕ)) → Home → Option ForkName → List HeldEntry
entries_held t words home None = no_page
entries_held t words home (Some f) = map (entry_held t) (words_in (words home.0))

abbrev pub map_held : Tables → (ℕ → Option (List ℕ)) → MapPage → HeldMap
map_held t words m = record { fork = m.fork; entries = entries_held t words m.home m.fork }

-- the maps that are pages, over the content of the homes
unfoldable pub maps_in_memory : Tables → (ℕ → Option (List ℕ)) → List HeldMap
maps_in_memory t words = map (map_held t words) t.maps
