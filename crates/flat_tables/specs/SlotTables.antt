-- What maps in memory over a store are kept in, and the plain pages that they are.
use Rattle.std.specs.Prelude.{◌≡◌, ℕ, suc, ◌+◌, ◌<◌, ◌≤◌, List, [], ◌∷◌, Option, None, Some, is_some, length, map as each, nat_eq, nat_lt, slice_index, count_by, if◌then◌else◌}
use Rattle.std.specs.List.{sum_by}
use Rattle.std.specs.Ordering.{nat_cmp}
use Rattle.std.specs.FinMap as map
use Rattle.outside.specs.declared.TheConstants.{PAGE_WORDS}
use Rattle.machine_names.specs.declared.names.PageName.{PageName}
use Rattle.machine_names.specs.declared.names.TheConstants.{TERMINALS, MOST_FILES, FILE_PAGES}
use Rattle.page_homes.specs.declared.homes.Home.{Home}
use Rattle.page_homes.specs.declared.homes.TheConstants.{MOST_HOMES}
use Rattle.page_contracts.specs.DrumWords.{DrumWords}
use Rattle.machine_names.specs.Orders.{FilePage, page_cmp, file_page_cmp}
use Rattle.page_files.specs.Pages.{PagesOf}
use Rattle.plain_pages.specs.PlainPages.{NumberedPages}
use Rattle.page_contracts.specs.Stores.{HomePlace, place, is_taken, free_homes, content}
use Rattle.flat_tables.specs.declared.held_map.HeldMap.{HeldMap}
use Rattle.flat_tables.specs.declared.page_serials.PageSerials.{PageSerials}
use Rattle.flat_tables.specs.Serials.{serial_of}
use Rattle.flat_tables.specs.HeldMaps.{AreHeld, name_at, name_of, maps_held, entries_total, points_at, living_in}

abbrev pub Objects : Type 0
Objects = map.FinMap page_cmp (List ℕ)

-- the objects with the page of a home, where that has a name and words
abbrev pub with_object : Option PageName → Option (List ℕ) → Objects → Objects
with_object None words objects = objects
with_object (Some n) None objects = objects
with_object (Some n) (Some words) objects = map.insert objects n words

abbrev pub objects_from : (ℕ → Option (List ℕ)) → ℕ → List (Option PageName) → Objects
objects_from words home [] = map.empty
objects_from words home (n ∷ names) = with_object n (words home) (objects_from words (suc home) names)

-- the objects: the pages of the homes that have names
unfoldable pub objects_of : List (Option PageName) → (ℕ → Option (List ℕ)) → Objects
objects_of names words = objects_from words 0 names

-- what files name, by the homes of the pages
unfoldable pub files_held : List (Option PageName) → PagesOf Home → map.FinMap (file_page_cmp nat_cmp) PageName
files_held names files = map.from_sorted (each (λ e. (e.0, name_of names e.1)) (map.entries files))

-- whether a home is another, as a number
abbrev pub is_at : ℕ → Home → ℕ
is_at h k = if nat_eq k.0 h then 1 else 0

-- how many pages of files are that of a home
abbrev pub filed_total : ℕ → PagesOf Home → ℕ
filed_total h files = sum_by (is_at h) (map.values files)

-- where the page of each home is, its name and how many entries and files name it; the maps; the pages of files; the next page serials; how many homes are
-- taken and how many forks live, and how many of both there may be
pub record Tables : Type 0 where
  pub places : List HomePlace
  pub names : List (Option PageName)
  pub shares : List ℕ
  pub maps : List HeldMap
  pub files : PagesOf Home
  pub serials : PageSerials
  pub taken : ℕ
  pub living : ℕ
  pub limit : ℕ

-- the plain pages over the words of a drum
abbrev pub plain_of : Tables → DrumWords → NumberedPages
plain_of t d = record {
  objects = objects_of t.names (content t.places d);
  maps = maps_held t.names t.maps;
  files = files_held t.names t.files;
  page_serials = t.serials.terminals;
  console_serial = t.serials.console;
  limit = t.limit;
}

abbrev pub share_of : List ℕ → ℕ → ℕ
share_of shares h = slice_index shares h

-- The tables agree: a home is taken where its page has a name, which is no other's; and so many entries and pages of files name it as its count says.
pub record AreTables (t : Tables) : Type 0 where
  pub held : AreHeld t.maps
  pub homes : length t.places ≡ t.limit
  pub named : length t.names ≡ t.limit
  pub counted : length t.shares ≡ t.limit
  pub shares : (h : ℕ) → share_of t.shares h ≡ entries_total (points_at h) t.maps + filed_total h t.files
  pub filed : (f : FilePage ℕ) (h : Home) → map.get t.files f ≡ Some h → (f.file < MOST_FILES) × (f.page < FILE_PAGES)
  pub shared : (h : ℕ) → is_some (name_at t.names h) ≡ nat_lt 0 (share_of t.shares h)
  pub is_taken : (h : ℕ) → is_taken (place t.places h) ≡ is_some (name_at t.names h)
  pub once : (h k : ℕ) (n : PageName) → name_at t.names h ≡ Some n → name_at t.names k ≡ Some n → h ≡ k
  pub old : (h : ℕ) (n : PageName) → name_at t.names h ≡ Some n → n.serial < serial_of t.serials n.tty
  pub owners : length t.serials.terminals ≡ TERMINALS
  pub taken : t.taken ≡ count_by is_some t.names
  pub free : t.taken + free_homes t.places ≡ t.limit
  pub living : t.living ≡ living_in t.maps
  pub room : t.taken + t.living ≤ t.limit
  pub few : t.limit ≤ MOST_HOMES

-- the words of each page are as many as a page has
abbrev pub AreSized : List HomePlace → DrumWords → Type 0
AreSized places d = (h : ℕ) (words : List ℕ) → content places d h ≡ Some words → length words ≡ PAGE_WORDS
