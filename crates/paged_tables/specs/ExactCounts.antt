-- How many names are kept of each page, beside how many map entries and pages of files name it.
use Rattle.std.specs.Prelude.{◌≡◌, ℕ, List, Some}
use Rattle.machine_names.specs.declared.names.PageName.{PageName}
use Rattle.outside.specs.Drums.{IsPage}
use Rattle.page_contracts.specs.DrumWords.{DrumWords}
use Rattle.page_contracts.specs.Stores.{HomePlace, here, place}
use Rattle.plain_pages.specs.Room.{uses}
use Rattle.share_table.specs.declared.shares.SharedPage.{SharedPage}
use Rattle.pager_walk.specs.PagedMaps.{name_at}
use Rattle.paged_tables.specs.PagedTables.{Beside, AreKept, FitsPages, plain_over}

-- What is kept beside a store agrees with it, each page in a frame has as many words as a page has, and the words of a drum fit.
pub record AreTold (b : Beside) (places : List HomePlace) (d : DrumWords) : Type 0 where
  pub kept : AreKept b places
  pub pages : (home : ℕ) (words : List ℕ) → place places home ≡ here words → IsPage words
  pub fits : FitsPages b places d

-- The page of a share has a name, and so many map entries and pages of files name it as the share counts.
pub record CountsExactly (b : Beside) (places : List HomePlace) (d : DrumWords) (p : SharedPage) : Type 0 where
  pub name : PageName
  pub named : name_at b.tables.names p.home.0 ≡ Some name
  pub count : p.count ≡ uses (plain_over b places d) name
