-- What an entry becomes that is set anew.
use Rattle.std.specs.Prelude.{ℕ, ◌<◌, Option, IsSome}
use Rattle.std.specs.Option.{option_map_or}
use Rattle.std.specs.FinMap as map
use Rattle.machine_names.specs.declared.names.TheConstants.{SPACE_PAGES}
use Rattle.machine_names.specs.declared.names.PageName.{PageName}
use Rattle.plain_pages.specs.declared.map.MapEntry.{MapEntry}
use Rattle.plain_pages.specs.declared.map.MapEntry.TheVariants.{Empty, Names, Follows}
use Rattle.machine_names.specs.declared.names.Slot.{Slot}
use Rattle.machine_names.specs.Bounds.{IsFilePage}
use Rattle.machine_names.specs.Orders.{FilePage, file_page}
use Rattle.plain_pages.specs.declared.map.NewEntry.{NewEntry}
use Rattle.plain_pages.specs.declared.map.NewEntry.TheVariants.{Empty as SetEmpty, FilePage as SetFilePage, Follows as SetFollows, Narrow as SetNarrow}
use Rattle.plain_pages.specs.PlainPages.{NumberedPages}
use Rattle.plain_pages.specs.Maps.{narrow}
use Rattle.plain_pages.specs.References.{with_changed}

-- what an entry becomes that is set anew
abbrev pub entry_to : NumberedPages → NewEntry → MapEntry → MapEntry
entry_to p SetEmpty e = Empty
entry_to p (SetFilePage f page a) e = option_map_or (λ n. Names n a) (map.get p.files (file_page f.0 page)) e
entry_to p (SetFollows serial page a) e = Follows serial page a
entry_to p (SetNarrow a) e = narrow a e

-- the pages with an entry set anew, where there is one
unfoldable pub changed : NumberedPages → Slot → NewEntry → NumberedPages
changed p s new = with_changed p s (entry_to p new)

-- what an entry may be set to, by what files name: it may name a page that a file has, and follow a page of a space
abbrev pub IsNewEntry : (FilePage ℕ → Option PageName) → NewEntry → Type 0
IsNewEntry filed (SetFilePage f page a) = IsFilePage f page × IsSome (filed (file_page f.0 page))
IsNewEntry filed (SetFollows serial page a) = page < SPACE_PAGES
IsNewEntry filed new = Unit {0}
