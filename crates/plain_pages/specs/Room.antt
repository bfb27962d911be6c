-- Room: how many pages and forks there may be.
use Rattle.std.specs.Prelude.{ℕ, ◌+◌, ◌≤◌, List, [], ◌∷◌, ◌++◌, Bool, ◌&&◌, ◌==◌, nat_le, if◌then◌else◌, Option, None, Some}
use Rattle.std.specs.List.{count_by, flat_map, filter_map, list_any}
use Rattle.std.specs.declared.cmp.Ordering.{Ordering}
use Rattle.std.specs.FinMap as map
use Rattle.machine_names.specs.declared.names.Tty.{Tty}
use Rattle.machine_names.specs.declared.names.PageName.{PageName}
use Rattle.plain_pages.specs.declared.map.MapEntry.{MapEntry}
use Rattle.plain_pages.specs.declared.map.MapEntry.TheVariants.{Names}
use Rattle.plain_pages.specs.PlainPages.{PlainPages}

abbrev pub same_page : PageName → PageName → Bool
same_page n m = (n.tty.0 == m.tty.0) && (n.serial == m.serial)

-- the page that an entry names
abbrev pub page_in : MapEntry → Option PageName
page_in (Names n a) = Some n
page_in e = None

-- how many different pages are in a list
abbrev pub different : List PageName → ℕ
different [] = 0
different (n ∷ ns) = if list_any (same_page n) ns then different ns else different ns + 1

module _ {K : Type 0} {file_cmp : K → K → Ordering} where
  -- the pages that map entries and pages of files name, each as often as it is named
  unfoldable pub names : PlainPages file_cmp → List PageName
  names p = flat_map (filter_map page_in) (map.values p.maps) ++ map.values p.files

  -- how many map entries and pages of files name a page
  unfoldable pub uses : PlainPages file_cmp → PageName → ℕ
  uses p n = count_by (same_page n) (names p)

  -- the different pages that are named, and the forks that live
  unfoldable pub live : PlainPages file_cmp → ℕ
  live p = different (names p) + map.len p.maps

  -- there are not more of them than there may be
  abbrev pub FitsLimit : PlainPages file_cmp → Type 0
  FitsLimit p = live p ≤ p.limit

  -- whether the pages after a making have room for what its owner made
  unfoldable pub HasRoom : PlainPages file_cmp → Tty → Bool
  HasRoom p owner = nat_le (live p) p.limit
