-- What adding a fork leaves.
use Rattle.std.specs.Prelude.{◌≡◌, ℕ, ◌+◌, ◌<◌, ◌≤◌, List, None, Some, length, slice_index}
use Rattle.machine_names.specs.declared.names.Access.{Access}
use Rattle.machine_names.specs.declared.names.ForkName.{ForkName}
use Rattle.machine_names.specs.declared.names.TheConstants.{MOST_FORKS, SPACE_PAGES}
use Rattle.machine_names.specs.PageWords.{zero_words}
use Rattle.page_homes.specs.declared.homes.Home.{Home}
use Rattle.page_contracts.specs.DrumWords.{DrumWords}
use Rattle.page_contracts.specs.Stores.{IsMade, StoreMeaning, here}
use Rattle.plain_pages.specs.declared.map.NewMap.{NewMap}
use Rattle.plain_pages.specs.declared.map.NewMap.TheVariants.{Empty, FollowAll}
use Rattle.plain_pages.specs.NewMaps.{with_map}
use Rattle.pager_walk.specs.declared.paged_entry.PagedEntry.TheVariants.{Page}
use Rattle.pager_walk.specs.MapPages.{first_map, fork_at, index_of}
use Rattle.pager_walk.specs.NewPages.{following_words}
use Rattle.pager_walk.specs.PagedMaps.{Tables, entry_in}
use Rattle.paged_tables.specs.PagedMeaning.{with_fork}
use Rattle.paged_tables.specs.PagedTables.{Beside, FitsPages, plain_over}

-- no word of a map names a page
abbrev pub AreBareWords : Tables → List ℕ → Type 0
AreBareWords t words = (page : ℕ) (h : Home) (a : Access) → entry_in t (slice_index words page) ≡ Some (Page h a) → ⊥

-- the words of the map of a new fork
abbrev pub new_words : NewMap → List ℕ
new_words Empty = zero_words
new_words (FollowAll leader) = following_words leader.serial SPACE_PAGES

-- The map of a new fork was made at a home that was free, under a number of its terminal that no fork had, and names no page.
pub record AddsFork {S : Type 0} (store : StoreMeaning S) (old new : S) (b b' : Beside) (fork : ForkName) (map : NewMap) : Type 0 where
  pub number : ℕ
  pub home : Home
  pub from : first_map fork.tty ≤ number
  pub last : number < first_map fork.tty + MOST_FORKS
  pub below : number < length b.tables.maps
  pub unused : fork_at b.tables.maps number ≡ None
  pub absent : index_of b.tables.maps fork ≡ None
  pub made : IsMade store home.0 (here (new_words map)) old new
  pub beside : b' ≡ with_fork b number fork home
  pub bare : AreBareWords b.tables (new_words map)
  pub told : (d : DrumWords) → FitsPages b (store.homes old) d → FitsPages b' (store.homes new) d × (plain_over b' (store.homes new) d ≡ with_map (plain_over b (store.homes old) d) fork map)
