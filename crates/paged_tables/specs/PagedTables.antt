-- What is kept beside the store, and the tables in memory that it stands for over the words of a drum.
use Rattle.std.specs.Prelude.{◌≡◌, ℕ, ◌+◌, ◌<◌, ◌≤◌, List, true, Option, Some, count_by, is_some, length, map}
use Rattle.std.specs.FinMap as fin
use Rattle.std.specs.Option.{option_map}
use Rattle.machine_names.specs.declared.names.PageName.{PageName}
use Rattle.machine_names.specs.declared.names.TheConstants.{FILE_PAGES, MOST_FILES, TERMINALS}
use Rattle.machine_names.specs.Orders.{FilePage}
use Rattle.page_files.specs.Pages.{PagesOf}
use Rattle.page_homes.specs.declared.homes.Home.{Home}
use Rattle.page_homes.specs.declared.homes.TheConstants.{MOST_HOMES}
use Rattle.page_contracts.specs.DrumWords.{DrumWords}
use Rattle.page_contracts.specs.Stores.{HomePlace, content, free_homes, is_taken}
use Rattle.plain_pages.specs.PlainPages.{NumberedPages}
use Rattle.share_table.specs.declared.shares.Share.{Share}
use Rattle.share_table.specs.declared.shares.SharedPage.{SharedPage}
use Rattle.share_table.specs.Shares.{Shares, page_at}
use Rattle.flat_tables.specs.declared.page_serials.PageSerials.{PageSerials}
use Rattle.flat_tables.specs.Serials.{serial_of}
use Rattle.flat_tables.specs.SlotTables.{Tables as FlatTables, AreTables, filed_total, plain_of, share_of}
use Rattle.pager_walk.specs.PagedMaps.{Tables, AreRooted, FitsMaps, name_at, tables_of}
use Rattle.paged_tables.specs.declared.paged_tables.PagedTables.{PagedTables}
use Rattle.paged_tables.specs.PagedPlaces.{page_places}
use Rattle.paged_tables.specs.NameCounts.{count_of, counts, share_at}
use Rattle.paged_tables.specs.MapsInMemory.{maps_in_memory}

-- the maps, the names of pages and the shares; the share of each home's page, and how many pages of files name it; the pages of files; the next page
-- serials; how many pages and forks there are, and how many of both there may be
pub record Beside : Type 0 where
  pub tables : Tables
  pub shared : List (Option Share)
  pub filed : List ℕ
  pub files : PagesOf Home
  pub serials : PageSerials
  pub taken : ℕ
  pub living : ℕ
  pub limit : ℕ

abbrev pub beside_of : PagedTables → Beside
beside_of t = record { tables = tables_of t.tables; shared = t.shared.items; filed = t.filed.items; files = t.files; serials = t.serials; taken = t.taken; living = t.living; limit = t.limit }

-- the tables in memory, whose maps are those that the words of their pages stand for
abbrev pub in_memory_over : Beside → List HomePlace → DrumWords → FlatTables
in_memory_over b places d = record {
  places = page_places b.tables.maps places;
  names = b.tables.names;
  shares = counts b.tables.shares b.tables.names b.shared;
  maps = maps_in_memory b.tables (content places d);
  files = b.files;
  serials = b.serials;
  taken = b.taken;
  living = b.living;
  limit = b.limit;
}

-- the plain pages over the words of a drum
abbrev pub plain_over : Beside → List HomePlace → DrumWords → NumberedPages
plain_over b places d = plain_of (in_memory_over b places d) d

-- The words of a drum fit: each word of each map stands for an entry, and the entries agree with the tables; so the page of each home has as many
-- names as is counted.
pub record FitsPages (b : Beside) (places : List HomePlace) (d : DrumWords) : Type 0 where
  pub maps : FitsMaps b.tables places d
  pub agree : AreTables (in_memory_over b places d)

-- No two homes have one name, each name is older than its owner's next one, and so many homes have a name as there are pages.
pub record AreNamed (names : List (Option PageName)) (serials : PageSerials) (taken : ℕ) : Type 0 where
  pub once : (h k : ℕ) (n : PageName) → name_at names h ≡ Some n → name_at names k ≡ Some n → h ≡ k
  pub old : (h : ℕ) (n : PageName) → name_at names h ≡ Some n → n.serial < serial_of serials n.tty
  pub owners : length serials.terminals ≡ TERMINALS
  pub count : taken ≡ count_by is_some names

-- Each share is that of the page of its home, which has a name; and there is room for one of each home.
pub record AreShared (shares : Shares) (names : List (Option PageName)) (shared : List (Option Share)) : Type 0 where
  pub stands : (h : ℕ) (s : Share) → share_at shared h ≡ Some s → option_map (λ p. p.home) (page_at shares s.0) ≡ Some (record { 0 = h })
  pub back : (s : ℕ) (p : SharedPage) → page_at shares s ≡ Some p → share_at shared p.home.0 ≡ Some (record { 0 = s })
  pub named : (h : ℕ) (s : Share) → share_at shared h ≡ Some s → is_some (name_at names h) ≡ true
  pub homes : length shared ≡ length names
  pub room : shares.room ≡ length names
  pub below : (s : ℕ) (p : SharedPage) → page_at shares s ≡ Some p → s < shares.room
  pub count : fin.len shares.pages ≡ count_by is_some shared

-- So many pages of files name the page of each home as is counted, and no more than its names are.
pub record AreFiled (b : Beside) : Type 0 where
  pub within : (f : FilePage ℕ) (h : Home) → fin.get b.files f ≡ Some h → (f.file < MOST_FILES) × (f.page < FILE_PAGES)
  pub homes : length b.filed ≡ length b.tables.names
  pub count : (h : ℕ) → share_of b.filed h ≡ filed_total h b.files
  pub few : (h : ℕ) → share_of b.filed h ≤ count_of b.tables.shares (name_at b.tables.names h) (share_at b.shared h)

-- What is kept beside a store agrees with it, whatever its drum says: each map has a taken home of its own, a page of a file has a name, and the homes that are not free are
-- as many as the pages and forks.
pub record AreKept (b : Beside) (places : List HomePlace) : Type 0 where
  pub rooted : AreRooted b.tables (map is_taken places)
  pub filed : (f : FilePage ℕ) (h : Home) → fin.get b.files f ≡ Some h → is_some (name_at b.tables.names h.0) ≡ true
  pub named : AreNamed b.tables.names b.serials b.taken
  pub shared : AreShared b.tables.shares b.tables.names b.shared
  pub files : AreFiled b
  pub sized : length b.tables.names ≡ b.limit
  pub living : b.living ≡ count_by (λ m. is_some m.fork) b.tables.maps
  pub homes : length places ≡ b.limit
  pub free : b.taken + b.living + free_homes places ≡ b.limit
  pub few : b.limit ≤ MOST_HOMES
