-- Tables agree by two halves: the pages of homes with their names, and what names them.
use Rattle.std.proofs.Common.{◌≡◌, ℕ, ◌+◌, ◌<◌, ◌≤◌, List, Option, Some, length, is_some}
use Rattle.std.specs.Prelude.{count_by, nat_lt}
use Rattle.std.specs.FinMap as fin
use Rattle.machine_names.specs.declared.names.PageName.{PageName}
use Rattle.machine_names.specs.declared.names.TheConstants.{FILE_PAGES, MOST_FILES, TERMINALS}
use Rattle.machine_names.specs.Orders.{FilePage}
use Rattle.page_files.specs.Pages.{PagesOf}
use Rattle.page_homes.specs.declared.homes.Home.{Home}
use Rattle.page_homes.specs.declared.homes.TheConstants.{MOST_HOMES}
use Rattle.page_contracts.specs.Stores.{HomePlace, free_homes, is_taken, place}
use Rattle.flat_tables.specs.declared.held_map.HeldMap.{HeldMap}
use Rattle.flat_tables.specs.declared.page_serials.PageSerials.{PageSerials}
use Rattle.flat_tables.specs.HeldMaps.{AreHeld, entries_total, living_in, name_at, points_at}
use Rattle.flat_tables.specs.Serials.{serial_of}
use Rattle.flat_tables.specs.SlotTables.{AreTables, Tables, filed_total, share_of}

-- a home is taken where its page has a name, which is no other's
pub record AreNamed (places : List HomePlace) (names : List (Option PageName)) (serials : PageSerials) (many limit : ℕ) : Type 0 where
  pub homes : length places ≡ limit
  pub named : length names ≡ limit
  pub is_taken : (h : ℕ) → is_taken (place places h) ≡ is_some (name_at names h)
  pub once : (h k : ℕ) (n : PageName) → name_at names h ≡ Some n → name_at names k ≡ Some n → h ≡ k
  pub old : (h : ℕ) (n : PageName) → name_at names h ≡ Some n → n.serial < serial_of serials n.tty
  pub owners : length serials.terminals ≡ TERMINALS
  pub taken : many ≡ count_by is_some names
  pub free : many + free_homes places ≡ limit
  pub few : limit ≤ MOST_HOMES

-- so many entries and pages of files name the page of a home as its count says
pub record AreCounted (names : List (Option PageName)) (counts : List ℕ) (maps : List HeldMap) (files : PagesOf Home) (limit : ℕ) : Type 0 where
  pub held : AreHeld maps
  pub counted : length counts ≡ limit
  pub shares : (h : ℕ) → share_of counts h ≡ entries_total (points_at h) maps + filed_total h files
  pub filed : (f : FilePage ℕ) (h : Home) → fin.get files f ≡ Some h → (f.file < MOST_FILES) × (f.page < FILE_PAGES)
  pub shared : (h : ℕ) → is_some (name_at names h) ≡ nat_lt 0 (share_of counts h)

pub agreed : (t : Tables) → AreNamed t.places t.names t.serials t.taken t.limit → AreCounted t.names t.shares t.maps t.files t.limit → t.living ≡ living_in t.maps → t.taken + t.living ≤ t.limit → AreTables t
agreed t n c living room = record {
  held = c.held;
  homes = n.homes;
  named = n.named;
  counted = c.counted;
  shares = c.shares;
  filed = c.filed;
  shared = c.shared;
  is_taken = n.is_taken;
  once = n.once;
  old = n.old;
  owners = n.owners;
  taken = n.taken;
  free = n.free;
  living = living;
  room = room;
  few = n.few;
}

pub named_in : (t : Tables) → AreTables t → AreNamed t.places t.names t.serials t.taken t.limit
named_in t a = record { homes = a.homes; named = a.named; is_taken = a.is_taken; once = a.once; old = a.old; owners = a.owners; taken = a.taken; free = a.free; few = a.few }
