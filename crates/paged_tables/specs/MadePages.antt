-- What making a page leaves.
use Rattle.std.specs.Prelude.{◌≡◌, ℕ, ◌+◌, List, Option, None, Some, slice_set}
use Rattle.std.specs.FinMap as map
use Rattle.machine_names.specs.declared.names.Access.{Access}
use Rattle.machine_names.specs.declared.names.Slot.{Slot}
use Rattle.machine_names.specs.declared.names.Tty.{Tty}
use Rattle.machine_names.specs.PageWords.{zero_words}
use Rattle.page_homes.specs.declared.homes.Home.{Home}
use Rattle.page_contracts.specs.DrumWords.{DrumWords}
use Rattle.page_contracts.specs.Stores.{HomePlace, IsMade, IsUsed, StoreMeaning, here, place, with_word_in}
use Rattle.machine_names.specs.Orders.{FilePage}
use Rattle.share_table.specs.declared.pointer.Pointer.{Pointer}
use Rattle.share_table.specs.declared.pointer.Pointer.TheVariants.{Private, Shared}
use Rattle.share_table.specs.declared.shares.Share.{Share}
use Rattle.share_table.specs.Pointers.{pointer_word}
use Rattle.share_table.specs.Shares.{Shares}
use Rattle.flat_tables.specs.Serials.{with_next}
use Rattle.flat_tables.specs.TableSteps.{next_name}
use Rattle.pager_walk.specs.MapPages.{index_of, root_at}
use Rattle.pager_walk.specs.PagedMaps.{FitsMaps, with_name}
use Rattle.paged_tables.specs.NameCounts.{share_at}
use Rattle.paged_tables.specs.PagedTables.{Beside}

-- a home has a page with an owner's next name, which has no share
abbrev pub page_named : Beside → Home → Tty → Beside
page_named b home owner = record b {
  tables = with_name b.tables home (next_name b.serials owner);
  shared = slice_set b.shared home.0 None;
  serials = with_next b.serials owner;
  taken = b.taken + 1;
}

-- the shares become these
abbrev pub with_shares : Beside → Shares → Beside
with_shares b shares = record b { tables = record b.tables { shares = shares } }

-- A page was made at a home that was free, for an owner, and the entry of a slot names it now, alone; the shares are these.
pub record MakesPage {S : Type 0} (store : StoreMeaning S) (old new : S) (b b' : Beside) (at : Slot) (page : HomePlace) (access : Access) (shares : Shares) (owner : Tty) : Type 0 where
  pub home : Home
  pub mid : S
  pub number : ℕ
  pub numbered : index_of b.tables.maps at.fork ≡ Some number
  pub made : IsMade store home.0 page old mid
  pub homes : store.homes new ≡ slice_set (store.homes mid) (root_at b.tables.maps number).0 (with_word_in (place (store.homes mid) (root_at b.tables.maps number).0) at.page (pointer_word (Private home access)))
  pub used : IsUsed store (root_at b.tables.maps number).0 mid new
  pub beside : b' ≡ page_named (with_shares b shares) home owner
  pub fits : (d : DrumWords) → FitsMaps b.tables (store.homes old) d → FitsMaps b'.tables (store.homes new) d

-- a page that is made is a zero page, or has the words of that of a home
abbrev pub page_like : List HomePlace → Option Home → HomePlace
page_like places None = here zero_words
page_like places (Some h) = place places h.0

-- the pointer that names the page of a home: by its share, where it has one
abbrev pub pointer_by : Option Share → Home → Access → Pointer
pointer_by None home access = Private home access
pointer_by (Some s) home access = Shared s access

abbrev pub pointer_to : Beside → Home → Access → Pointer
pointer_to b home access = pointer_by (share_at b.shared home.0) home access

-- the page of a home has an owner's next name
abbrev pub page_renamed : Beside → Home → Tty → Beside
page_renamed b home owner = record b { tables = with_name b.tables home (next_name b.serials owner); serials = with_next b.serials owner }

-- The page of a home was used and became that of an owner, and the entry of a slot names it.
pub record RenamesPage {S : Type 0} (store : StoreMeaning S) (old new : S) (b b' : Beside) (at : Slot) (home : Home) (access : Access) (owner : Tty) : Type 0 where
  pub mid : S
  pub number : ℕ
  pub numbered : index_of b.tables.maps at.fork ≡ Some number
  pub page_used : IsUsed store home.0 old mid
  pub same : store.homes mid ≡ store.homes old
  pub homes : store.homes new ≡ slice_set (store.homes old) (root_at b.tables.maps number).0 (with_word_in (place (store.homes old) (root_at b.tables.maps number).0) at.page (pointer_word (pointer_to b home access)))
  pub used : IsUsed store (root_at b.tables.maps number).0 mid new
  pub beside : b' ≡ page_renamed b home owner
  pub fits : (d : DrumWords) → FitsMaps b.tables (store.homes old) d → FitsMaps b'.tables (store.homes new) d

-- a home has a page with an owner's next name, which a file names
abbrev pub page_filed : Beside → FilePage ℕ → Home → Tty → Beside
page_filed b f home owner = record (page_named b home owner) { filed = slice_set b.filed home.0 1; files = map.insert b.files f home }

-- A zero page was made at a home that was free, for an owner, and a file names it.
pub record FilesPage {S : Type 0} (store : StoreMeaning S) (old new : S) (b b' : Beside) (f : FilePage ℕ) (owner : Tty) : Type 0 where
  pub home : Home
  pub made : IsMade store home.0 (here zero_words) old new
  pub beside : b' ≡ page_filed b f home owner
  pub fits : (d : DrumWords) → FitsMaps b.tables (store.homes old) d → FitsMaps b'.tables (store.homes new) d
