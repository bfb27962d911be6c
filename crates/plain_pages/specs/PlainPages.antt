-- The pages of the plain machine: numbers, lists and finite maps.
use Rattle.std.specs.Prelude.{ℕ, List, Bool, replicate, if◌then◌else◌, ◌==◌, slice_index}
use Rattle.std.specs.Ordering.{nat_cmp}
use Rattle.std.specs.declared.cmp.Ordering.{Ordering}
use Rattle.std.specs.FinMap as map
use Rattle.machine_names.specs.declared.names.Tty.{Tty}
use Rattle.machine_names.specs.declared.names.PageName.{PageName}
use Rattle.machine_names.specs.declared.names.TheConstants.{TERMINALS}
use Rattle.plain_pages.specs.declared.map.MapEntry.{MapEntry}
use Rattle.machine_names.specs.Orders.{fork_cmp, page_cmp, name_cmp, file_page_cmp}

-- a fork's map: its entries, one for each page of its space
abbrev pub Map : Type 0
Map = List MapEntry

abbrev pub Maps : Type 0
Maps = map.FinMap fork_cmp Map

-- the pages: objects of 512 words under their names, the maps of the living forks, the pages of files,
-- the next page serial of each terminal and of the console, and how many pages and forks there may be
pub record PlainPages {K : Type 0} (file_cmp : K → K → Ordering) : Type 0 where
  pub objects : map.FinMap page_cmp (List ℕ)
  pub maps : Maps
  pub files : map.FinMap (file_page_cmp file_cmp) PageName
  pub page_serials : List ℕ
  pub console_serial : ℕ
  pub limit : ℕ

-- the pages of a state know files by their names, the calls on pages by their numbers
abbrev pub NamedPages : Type 0
NamedPages = PlainPages name_cmp

abbrev pub NumberedPages : Type 0
NumberedPages = PlainPages nat_cmp

-- the same pages, with the pages of files under other keys
abbrev pub refiled : {K L : Type 0} {file_cmp : K → K → Ordering} (other_cmp : L → L → Ordering) → PlainPages file_cmp → map.FinMap (file_page_cmp other_cmp) PageName → PlainPages other_cmp
refiled other_cmp p files = record { objects = p.objects; maps = p.maps; files = files; page_serials = p.page_serials; console_serial = p.console_serial; limit = p.limit }

-- each terminal's first serial is 1
unfoldable pub first_serials : List ℕ
first_serials = replicate TERMINALS 1

unfoldable pub opening_pages : {K : Type 0} (file_cmp : K → K → Ordering) → ℕ → PlainPages file_cmp
opening_pages file_cmp limit = record { objects = map.empty; maps = map.empty; files = map.empty; page_serials = first_serials; console_serial = 1; limit = limit }

-- whoever writes the script
abbrev pub is_console : Tty → Bool
is_console t = t.0 == 255

-- the next page serial of a terminal, or of the console
abbrev pub page_serial : {K : Type 0} {file_cmp : K → K → Ordering} → PlainPages file_cmp → Tty → ℕ
page_serial p t = if is_console t then p.console_serial else slice_index p.page_serials t.0
