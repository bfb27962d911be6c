-- What setting an entry leaves.
use Rattle.std.specs.Prelude.{◌≡◌, ℕ, ◌-◌, ◌<◌, List, MatchOption, Option, None, Some, if◌then◌else◌, slice_set}
use Rattle.machine_names.specs.declared.names.Access.{Access}
use Rattle.machine_names.specs.declared.names.ForkName.{ForkName}
use Rattle.machine_names.specs.declared.names.Slot.{Slot}
use Rattle.page_homes.specs.declared.homes.Home.{Home}
use Rattle.page_contracts.specs.DrumWords.{DrumWords}
use Rattle.page_contracts.specs.Pages.{StaysInCore}
use Rattle.page_contracts.specs.Stores.{IsFreed, IsUsed, Loses, RenewsLeft, RenewsNone, StoreMeaning, place, traffic, with_word_in}
use Rattle.plain_pages.specs.declared.map.NewEntry.{NewEntry}
use Rattle.plain_pages.specs.Maps.{narrowed}
use Rattle.plain_pages.specs.NewEntries.{changed}
use Rattle.plain_pages.specs.References.{with_entry as entry_put}
use Rattle.share_table.specs.declared.pointer.Pointer.{Pointer}
use Rattle.share_table.specs.declared.pointer.Pointer.TheVariants as pointer
use Rattle.share_table.specs.Pointers.{pointer_word}
use Rattle.share_table.specs.declared.shares.Share.{Share}
use Rattle.share_table.specs.Shares.{Shares, joined, page_at, with_page}
use Rattle.pager_walk.specs.declared.paged_entry.Looked.TheVariants.{Is, Absent, Missing, Refused}
use Rattle.pager_walk.specs.declared.paged_entry.Looked.{Looked}
use Rattle.pager_walk.specs.declared.paged_entry.PagedEntry.{PagedEntry}
use Rattle.pager_walk.specs.declared.paged_entry.PagedEntry.TheVariants.{Empty, Page, Follows}
use Rattle.pager_walk.specs.MapPages.{index_of, root_at}
use Rattle.pager_walk.specs.PagedMaps.{FitsMaps, look_at, plain_entry}
use Rattle.paged_tables.specs.LeftShares.{left_by_one}
use Rattle.paged_tables.specs.MadePages.{pointer_to, with_shares}
use Rattle.paged_tables.specs.NameCounts.{share_at}
use Rattle.paged_tables.specs.PagedMeaning.{forks_in, lives_in}
use Rattle.paged_tables.specs.PagedTables.{Beside, FitsPages, plain_over}
use Rattle.paged_tables.specs.PagedTouches.{has_one_name, scene_over}
use Rattle.paged_tables.specs.PagedSlots.{filed_over, map_home_over}

-- the home of the page that an entry alone names
abbrev pub alone_home : Beside → Looked → Option Home
alone_home b (Is Empty) = None
alone_home b (Is (Page home a)) = if has_one_name b home.0 then Some home else None
alone_home b (Is (Follows serial page a)) = None
alone_home b (Absent home) = None
alone_home b Missing = None
alone_home b Refused = None

-- the page of a home has gone
abbrev pub page_freed : Beside → Home → Beside
page_freed b home = record b {
  tables = record b.tables { names = slice_set b.tables.names home.0 None; shares = left_by_one b.tables.shares (share_at b.shared home.0) };
  shared = slice_set b.shared home.0 None;
  taken = b.taken - 1;
}

-- the entry that a pointer is which names no page
abbrev pub bare_entry : Pointer → Option PagedEntry
bare_entry pointer.Empty = Some Empty
bare_entry (pointer.Private home access) = None
bare_entry (pointer.Shared share access) = None
bare_entry (pointer.Indirect serial page access) = Some (Follows serial page access)

-- The word of a pointer was put into a map, and the shares are these, and those of homes these.
pub record PutsPointer {S : Type 0} (store : StoreMeaning S) (old new : S) (b b' : Beside) (shares : Shares) (shared : List (Option Share)) (at : Slot) (pointer : Pointer) : Type 0 where
  pub number : ℕ
  pub numbered : index_of b.tables.maps at.fork ≡ Some number
  pub homes : store.homes new ≡ slice_set (store.homes old) (root_at b.tables.maps number).0 (with_word_in (place (store.homes old) (root_at b.tables.maps number).0) at.page (pointer_word pointer))
  pub used : IsUsed store (root_at b.tables.maps number).0 old new
  pub beside : b' ≡ record (with_shares b shares) { shared = shared }
  pub fits : (d : DrumWords) → FitsMaps b.tables (store.homes old) d → FitsMaps b'.tables (store.homes new) d

-- the page of a home, which had no share, has this one
abbrev pub shared_anew : Beside → Home → Share → Beside
shared_anew b home s = record b { tables = record b.tables { shares = with_page b.tables.shares s.0 (record { home = home; count = 1 }) }; shared = slice_set b.shared home.0 (Some s) }

-- The page of a home has a share, a new one where it had none.
pub record SharesPage (b b' : Beside) (home : Home) (s : Share) : Type 0 where
  pub had : (t : Share) → share_at b.shared home.0 ≡ Some t → (t ≡ s) × (b' ≡ b)
  pub anew : share_at b.shared home.0 ≡ None → (page_at b.tables.shares s.0 ≡ None) × (s.0 < b.tables.shares.room) × (b' ≡ shared_anew b home s)

-- The page of a home is named once more.
pub record JoinsPage (b b' : Beside) (home : Home) : Type 0 where
  pub share : Share
  pub mid : Beside
  pub first : SharesPage b mid home share
  pub beside : b' ≡ with_shares mid (joined mid.tables.shares share.0)

-- The page of a home is named once more, by the word of a pointer that was put into a map.
pub record JoinsEntry {S : Type 0} (store : StoreMeaning S) (old new : S) (b b' : Beside) (home : Home) (at : Slot) (access : Access) : Type 0 where
  pub joins : JoinsPage b b' home
  pub number : ℕ
  pub numbered : index_of b.tables.maps at.fork ≡ Some number
  pub homes : store.homes new ≡ slice_set (store.homes old) (root_at b.tables.maps number).0 (with_word_in (place (store.homes old) (root_at b.tables.maps number).0) at.page (pointer_word (pointer_to b' home access)))
  pub used : IsUsed store (root_at b.tables.maps number).0 old new

-- The page of a home was given up, and then the word of a pointer was put into a map.
pub record FreesPage {S : Type 0} (store : StoreMeaning S) (old new : S) (b b' : Beside) (home : Home) (at : Slot) (pointer : Pointer) : Type 0 where
  pub mid : S
  pub number : ℕ
  pub numbered : index_of b.tables.maps at.fork ≡ Some number
  pub freed : IsFreed store home.0 old mid
  pub homes : store.homes new ≡ slice_set (store.homes mid) (root_at b.tables.maps number).0 (with_word_in (place (store.homes mid) (root_at b.tables.maps number).0) at.page (pointer_word pointer))
  pub used : IsUsed store (root_at b.tables.maps number).0 mid new
  pub beside : b' ≡ page_freed b home

-- no page was used, or came into a frame, but the map of a fork; pages may have been given up
abbrev pub UsesMapOf : {S : Type 0} → StoreMeaning S → S → S → Beside → ForkName → Type 0
UsesMapOf store old new b fork = MatchOption (map_home_over b fork) (RenewsNone (traffic store old) (traffic store new)) (λ home. RenewsLeft home (traffic store old) (traffic store new))

-- An entry was set: what no entry names any more was given up, and nothing has left its frame.
pub record SetsSlot {S : Type 0} (store : StoreMeaning S) (old new : S) (b b' : Beside) (at : Slot) (e : PagedEntry) : Type 0 where
  pub told : (d : DrumWords) → FitsPages b (store.homes old) d → FitsPages b' (store.homes new) d × (plain_over b' (store.homes new) d ≡ entry_put (plain_over b (store.homes old) d) at (plain_entry b.tables.names e))
  pub look : look_at b'.tables (store.homes new) at ≡ Is e
  pub maps : b'.tables.maps ≡ b.tables.maps
  pub files : b'.files ≡ b.files
  pub filed : filed_over b' ≡ filed_over b
  pub serials : b'.serials ≡ b.serials
  pub living : b'.living ≡ b.living
  pub limit : b'.limit ≡ b.limit
  pub core : StaysInCore (scene_over b (store.homes old) (store.spare old)) (scene_over b' (store.homes new) (store.spare new)) 0
  pub lost : Loses (traffic store old) (traffic store new)
  pub uses : UsesMapOf store old new b' at.fork

-- an entry of which no more is permitted than is given
abbrev pub narrow_paged : Access → PagedEntry → PagedEntry
narrow_paged given Empty = Empty
narrow_paged given (Page home a) = Page home (narrowed a given)
narrow_paged given (Follows serial page a) = Follows serial page (narrowed a given)

-- the pointer of an entry
abbrev pub pointer_of : Beside → PagedEntry → Pointer
pointer_of b Empty = pointer.Empty
pointer_of b (Page home a) = pointer_to b home a
pointer_of b (Follows serial page a) = pointer.Indirect serial page a

-- a look finds an entry
pub record FindsEntry (l : Looked) : Type 0 where
  pub entry : PagedEntry
  pub is : l ≡ Is entry

-- An entry was set anew: what no entry names any more was given up, and nothing has left its frame.
pub record ChangesEntry {S : Type 0} (store : StoreMeaning S) (old new : S) (b b' : Beside) (at : Slot) (what : NewEntry) : Type 0 where
  pub told : (d : DrumWords) → FitsPages b (store.homes old) d → FitsPages b' (store.homes new) d × (plain_over b' (store.homes new) d ≡ changed (plain_over b (store.homes old) d) at what)
  pub core : StaysInCore (scene_over b (store.homes old) (store.spare old)) (scene_over b' (store.homes new) (store.spare new)) 0
  pub filed : filed_over b' ≡ filed_over b
  pub lost : Loses (traffic store old) (traffic store new)
  pub uses : UsesMapOf store old new b' at.fork
  pub maps : b'.tables.maps ≡ b.tables.maps
  pub lives : lives_in b' ≡ lives_in b
  pub forks : forks_in b' ≡ forks_in b
  pub serials : b'.serials ≡ b.serials
  pub most : b'.limit ≡ b.limit
