-- What steps on pages of files do to a store and to what is kept beside it.
use Rattle.std.specs.Prelude.{◌≡◌, ◌≢◌, ℕ, ◌<◌, ◌≤◌, List, Option, None, Some, is_some}
use Rattle.std.specs.FinMap as fin
use Rattle.std.specs.Option.{option_map}
use Rattle.machine_names.specs.declared.names.Slot.{Slot}
use Rattle.machine_names.specs.Orders.{FilePage, file_page}
use Rattle.page_homes.specs.declared.homes.Home.{Home}
use Rattle.page_contracts.specs.DrumWords.{DrumWords}
use Rattle.page_contracts.specs.Pages.{StaysInCore}
use Rattle.page_contracts.specs.Stores.{HomePlace, Loses, RenewsNone, StoreMeaning, place, traffic}
use Rattle.plain_pages.specs.FilePages.{filed_by, with_file}
use Rattle.share_table.specs.declared.shares.Share.{Share}
use Rattle.share_table.specs.Shares.{page_at}
use Rattle.flat_tables.specs.SlotSteps.{Stays}
use Rattle.flat_pages.specs.FileSteps.{AreFewerFiled, FileHas, IsFiled}
use Rattle.pager_walk.specs.PagedMaps.{map_away, name_at, name_of}
use Rattle.paged_tables.specs.FiledTables.{with_share}
use Rattle.paged_tables.specs.NameCounts.{share_at}
use Rattle.paged_tables.specs.PagedSlots.{filed_over}
use Rattle.paged_tables.specs.PagedTables.{Beside, FitsPages, plain_over}
use Rattle.paged_tables.specs.PagedTouches.{scene_over}

-- the page of a home and its name stay, or the home is given up, and then this is so
abbrev pub PageStays : Beside → List HomePlace → Beside → List HomePlace → ℕ → Type 0 → Type 0
PageStays b places b' places' home named = Stays (place places home) (place places' home) (name_at b.tables.names home) (name_at b'.tables.names home) named

-- a page of a file was set, to that of a home or to none: what nothing names any more was given up, and nothing has left its frame
pub record SetsFiled {S : Type 0} (store : StoreMeaning S) (old new : S) (b b' : Beside) (f : FilePage ℕ) (home : Option Home) : Type 0 where
  pub told : (d : DrumWords) → FitsPages b (store.homes old) d
      → FitsPages b' (store.homes new) d × (plain_over b' (store.homes new) d ≡ with_file (plain_over b (store.homes old) d) f (option_map (name_of b.tables.names) home))
  pub here : fin.get b'.files f ≡ home
  pub others : (g : FilePage ℕ) → g ≢ f → fin.get b'.files g ≡ fin.get b.files g
  pub filed : (g : FilePage ℕ) → g ≢ f → filed_over b' g ≡ filed_over b g
  pub maps : b'.tables.maps ≡ b.tables.maps
  pub serials : b'.serials ≡ b.serials
  pub living : b'.living ≡ b.living
  pub limit : b'.limit ≡ b.limit
  pub homes : (k : ℕ) → PageStays b (store.homes old) b' (store.homes new) k (IsFiled b.files f k)
  pub frames : fin.get b.files f ≡ None → store.spare new ≡ store.spare old
  pub away : map_away b'.tables (store.homes new) ≡ map_away b.tables (store.homes old)
  pub core : StaysInCore (scene_over b (store.homes old) (store.spare old)) (scene_over b' (store.homes new) (store.spare new)) 0
  pub lost : Loses (traffic store old) (traffic store new)
  pub used : RenewsNone (traffic store old) (traffic store new)

-- a page of a file was set to that of a slot, or to none: the page of this home, or none
pub record SetsFilePage {S : Type 0} (store : StoreMeaning S) (old new : S) (b b' : Beside) (f : FilePage ℕ) (from : Option Slot) : Type 0 where
  pub home : Option Home
  pub named : is_some home ≡ is_some from
  pub sets : SetsFiled store old new b b' f home
  pub told : (d : DrumWords) → FitsPages b (store.homes old) d → FitsPages b' (store.homes new) d × (plain_over b' (store.homes new) d ≡ filed_by (plain_over b (store.homes old) d) f from)

-- the page of a home has a share: it had one, or got one that counts its one name
pub data SharesPage (b b' : Beside) (h : Home) : Type 0 where
  had : (s : Share) → share_at b.shared h.0 ≡ Some s → b' ≡ b → SharesPage b b' h
  got : (s : Share) → share_at b.shared h.0 ≡ None → page_at b.tables.shares s.0 ≡ None → s.0 < b.tables.shares.room → b' ≡ with_share b h s → SharesPage b b' h

-- the first pages of a file were dropped: what nothing names any more was given up, and nothing has left its frame
pub record EmptiesFiled {S : Type 0} (store : StoreMeaning S) (old new : S) (b b' : Beside) (file pages : ℕ) : Type 0 where
  pub told : (d : DrumWords) → FitsPages b (store.homes old) d → FitsPages b' (store.homes new) d × AreFewerFiled (plain_over b (store.homes old) d) (plain_over b' (store.homes new) d) file
  pub gone : (page : ℕ) → page < pages → fin.get b'.files (file_page file page) ≡ None
  pub rest : (page : ℕ) → pages ≤ page → fin.get b'.files (file_page file page) ≡ fin.get b.files (file_page file page)
  pub filed : (f : FilePage ℕ) → f.file ≢ file → filed_over b' f ≡ filed_over b f
  pub maps : b'.tables.maps ≡ b.tables.maps
  pub serials : b'.serials ≡ b.serials
  pub living : b'.living ≡ b.living
  pub limit : b'.limit ≡ b.limit
  pub homes : (k : ℕ) → PageStays b (store.homes old) b' (store.homes new) k (FileHas b.files file k)
  pub frames : ((k : ℕ) → FileHas b.files file k → ⊥) → store.spare new ≡ store.spare old
  pub away : map_away b'.tables (store.homes new) ≡ map_away b.tables (store.homes old)
  pub core : StaysInCore (scene_over b (store.homes old) (store.spare old)) (scene_over b' (store.homes new) (store.spare new)) 0
  pub lost : Loses (traffic store old) (traffic store new)
  pub used : RenewsNone (traffic store old) (traffic store new)
