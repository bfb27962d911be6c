-- What holds of the plain pages wherever a run comes.
use Rattle.std.specs.Prelude.{◌≡◌, ℕ, ◌<◌, List, length, true, nat_lt, Some}
use Rattle.std.specs.declared.cmp.Ordering.{Ordering}
use Rattle.std.specs.FinMap as map
use Rattle.outside.specs.declared.TheConstants.{PAGE_WORDS}
use Rattle.machine_names.specs.declared.names.ForkName.{ForkName}
use Rattle.machine_names.specs.declared.names.PageName.{PageName}
use Rattle.machine_names.specs.declared.names.TheConstants.{TERMINALS, SPACE_PAGES}
use Rattle.plain_pages.specs.PlainPages.{PlainPages, Map, page_serial}
use Rattle.plain_pages.specs.Room.{uses}

-- the objects are the pages that are named, with their words; each map has its entries, and is of a fork of a terminal; and an owner's next serial stands above those of its pages
pub record AreWhole {K : Type 0} {file_cmp : K → K → Ordering} (p : PlainPages file_cmp) : Type 0 where
  pub named : (n : PageName) → map.contains_key p.objects n ≡ nat_lt 0 (uses p n)
  pub words : (n : PageName) (w : List ℕ) → map.get p.objects n ≡ Some w → length w ≡ PAGE_WORDS
  pub entries : (f : ForkName) (m : Map) → map.get p.maps f ≡ Some m → length m ≡ SPACE_PAGES
  pub owned : (f : ForkName) → map.contains_key p.maps f ≡ true → f.tty.0 < TERMINALS
  pub old : (n : PageName) → map.contains_key p.objects n ≡ true → n.serial < page_serial p n.tty
  pub owners : length p.page_serials ≡ TERMINALS
