-- What steps on pages of files do to a store and to the tables beside it.
use Rattle.std.specs.Prelude.{◌≡◌, ◌≢◌, ℕ, ◌<◌, ◌≤◌, List, None, Some, Option}
use Rattle.std.specs.FinMap as map
use Rattle.machine_names.specs.Orders.{FilePage, file_page}
use Rattle.machine_names.specs.PageWords.{zero_words}
use Rattle.machine_names.specs.declared.names.Tty.{Tty}
use Rattle.page_files.specs.Pages.{PagesOf}
use Rattle.page_homes.specs.declared.homes.Home.{Home}
use Rattle.page_contracts.specs.DrumWords.{DrumWords}
use Rattle.page_contracts.specs.Pages.{StaysInCore}
use Rattle.page_contracts.specs.Stores.{StoreMeaning, IsMade, IsUsed, FitsHomes, Loses, RenewsNone, here, traffic}
use Rattle.plain_pages.specs.PlainPages.{NumberedPages}
use Rattle.plain_pages.specs.FilePages.{with_file}
use Rattle.std.specs.Option.{option_map}
use Rattle.flat_tables.specs.declared.held_entry.EntryAt.{EntryAt}
use Rattle.flat_tables.specs.declared.held_map.HeldMap.{HeldMap}
use Rattle.flat_tables.specs.declared.map_tables.MapTables.{MapTables}
use Rattle.flat_tables.specs.HeldMaps.{name_of}
use Rattle.flat_tables.specs.SlotTables.{plain_of}
use Rattle.flat_pages.specs.Emptying.{NamesFewer}
use Rattle.flat_pages.specs.SlotMeaning.{filed_in}
use Rattle.flat_tables.specs.SlotTouches.{scene_of}
use Rattle.flat_tables.specs.SlotSteps.{HomeStays, NamesHome}
use Rattle.flat_tables.specs.TableSteps.{tables_of, home_filed}

-- a free home was taken, for a new page of an owner that a file names now
pub record FilesHome {S : Type 0} (store : StoreMeaning S) (old new : S) (tables tables' : MapTables) (f : FilePage ℕ) (owner : Tty) : Type 0 where
  pub home : Home
  pub made : IsMade store home.0 (here zero_words) old new
  pub taken : tables_of (store.homes new) tables' ≡ home_filed (tables_of (store.homes old) tables) f home (here zero_words) owner

-- a page of a file that was there was used
pub record UsesFiled {S : Type 0} (store : StoreMeaning S) (old new : S) (tables tables' : MapTables) (home : Home) : Type 0 where
  pub used : IsUsed store home.0 old new
  pub homes : store.homes new ≡ store.homes old
  pub same : tables' ≡ tables

-- and else one was made
abbrev pub SettlesFiled : {S : Type 0} → StoreMeaning S → S → S → MapTables → MapTables → FilePage ℕ → Tty → Option Home → Type 0
SettlesFiled store old new tables tables' f owner (Some home) = UsesFiled store old new tables tables' home
SettlesFiled store old new tables tables' f owner None = FilesHome store old new tables tables' f owner

-- a file names the page of a home
abbrev pub IsFiled : PagesOf Home → FilePage ℕ → ℕ → Type 0
IsFiled files f home = map.get files f ≡ Some (record { 0 = home })

-- some file does
pub record HasHome (files : PagesOf Home) (home : Home) : Type 0 where
  pub at : FilePage ℕ
  pub there : map.get files at ≡ Some home

-- some entry names the page of a home
pub record IsNamed (maps : List HeldMap) (home : ℕ) : Type 0 where
  pub at : EntryAt
  pub there : NamesHome maps at home

-- a page of a file was set, to that of a home or to none: what nothing names any more was given up, and nothing has left its frame
pub record SetsFile {S : Type 0} (store : StoreMeaning S) (old new : S) (tables tables' : MapTables) (f : FilePage ℕ) (home : Option Home) : Type 0 where
  pub told : (d : DrumWords) → FitsHomes (store.homes old) d
      → FitsHomes (store.homes new) d × (plain_of (tables_of (store.homes new) tables') d ≡ with_file (plain_of (tables_of (store.homes old) tables) d) f (option_map (name_of tables.names.items) home))
  pub here : map.get tables'.files f ≡ home
  pub others : (g : FilePage ℕ) → g ≢ f → map.get tables'.files g ≡ map.get tables.files g
  pub filed : (g : FilePage ℕ) → g ≢ f → filed_in (tables_of (store.homes new) tables') g ≡ filed_in (tables_of (store.homes old) tables) g
  pub maps : tables'.maps.held.items ≡ tables.maps.held.items
  pub serials : tables'.serials ≡ tables.serials
  pub living : tables'.living ≡ tables.living
  pub limit : tables'.limit ≡ tables.limit
  pub homes : (k : ℕ) → HomeStays (tables_of (store.homes old) tables) (tables_of (store.homes new) tables') k (IsFiled tables.files f k)
  pub frames : map.get tables.files f ≡ None → store.spare new ≡ store.spare old
  pub core : StaysInCore (scene_of (tables_of (store.homes old) tables) (store.spare old)) (scene_of (tables_of (store.homes new) tables') (store.spare new)) 0
  pub lost : Loses (traffic store old) (traffic store new)
  pub used : RenewsNone (traffic store old) (traffic store new)

-- pages of which one file alone names fewer
pub record AreFewerFiled (p q : NumberedPages) (file : ℕ) : Type 0 where
  pub pages : NamesFewer p q
  pub others : (f : FilePage ℕ) → f.file ≢ file → map.get q.files f ≡ map.get p.files f
  pub maps : q.maps ≡ p.maps

-- a file names the page of a home
pub record FileHas (files : PagesOf Home) (file home : ℕ) : Type 0 where
  pub page : ℕ
  pub there : IsFiled files (file_page file page) home

-- the first pages of a file were dropped: what nothing names any more was given up, and nothing has left its frame
pub record EmptiesFile {S : Type 0} (store : StoreMeaning S) (old new : S) (tables tables' : MapTables) (file pages : ℕ) : Type 0 where
  pub told : (d : DrumWords) → FitsHomes (store.homes old) d → FitsHomes (store.homes new) d × AreFewerFiled (plain_of (tables_of (store.homes old) tables) d) (plain_of (tables_of (store.homes new) tables') d) file
  pub gone : (page : ℕ) → page < pages → map.get tables'.files (file_page file page) ≡ None
  pub rest : (page : ℕ) → pages ≤ page → map.get tables'.files (file_page file page) ≡ map.get tables.files (file_page file page)
  pub filed : (f : FilePage ℕ) → f.file ≢ file → filed_in (tables_of (store.homes new) tables') f ≡ filed_in (tables_of (store.homes old) tables) f
  pub maps : tables'.maps.held.items ≡ tables.maps.held.items
  pub serials : tables'.serials ≡ tables.serials
  pub living : tables'.living ≡ tables.living
  pub limit : tables'.limit ≡ tables.limit
  pub homes : (k : ℕ) → HomeStays (tables_of (store.homes old) tables) (tables_of (store.homes new) tables') k (FileHas tables.files file k)
  pub frames : ((k : ℕ) → FileHas tables.files file k → ⊥) → store.spare new ≡ store.spare old
  pub core : StaysInCore (scene_of (tables_of (store.homes old) tables) (store.spare old)) (scene_of (tables_of (store.homes new) tables') (store.spare new)) 0
  pub lost : Loses (traffic store old) (traffic store new)
  pub used : RenewsNone (traffic store old) (traffic store new)
