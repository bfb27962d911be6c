-- What is told of the files that pages and tables keep.
use Rattle.std.specs.Prelude.{ℕ, List, [], map as each}
use Rattle.std.specs.Option.{option_map_or}
use Rattle.machine_names.specs.Orders.{name_cmp}
use Rattle.plain_files.specs.NamedFiles.{AreFiled, pages_named}
use Rattle.plain_files.specs.Sizes.{PlainFile}
use Rattle.plain_pages.specs.PlainPages.{NamedPages, NumberedPages, refiled}
use Rattle.page_contracts.specs.DrumWords.{DrumWords}
use Rattle.page_contracts.specs.Pages.{PagesMeaning}
use Rattle.file_tables.specs.declared.tables.FileTables.{FileTables}
use Rattle.file_tables.specs.Tables.{files_of}
use Rattle.file_image.specs.Parts.{page, part_bytes, parts_bytes}
use Rattle.file_image.specs.Images.{ImageFile, file_parts}
use Rattle.file_image.specs.Files.{image_file, image_files, page_in, pages_below}

-- the words of a drum fit the pages, and only files that are there have pages
pub record AreTold {P : Type 0} (means : PagesMeaning P) (files : FileTables) (pages : P) (d : DrumWords) : Type 0 where
  pub fits : means.fits pages d
  pub filed : AreFiled files.dir (means.plain pages d).files

-- the pages, which know files by number, by the names of files
abbrev pub named : FileTables → NumberedPages → NamedPages
named files p = refiled name_cmp p (pages_named files.dir p.files)

-- the files that are kept, over the words of a drum
abbrev pub files_told : {P : Type 0} → PagesMeaning P → FileTables → P → DrumWords → List ImageFile
files_told means files pages d = image_files (files_of files) (named files (means.plain pages d))

-- the bytes of a file at one of its pages
abbrev pub page_text : NumberedPages → ℕ → ℕ → List ℕ
page_text p file n = option_map_or (λ q. part_bytes (page q)) (page_in p file n) []

-- and of all its pages below one
abbrev pub pages_text : NumberedPages → ℕ → ℕ → List ℕ
pages_text p file n = parts_bytes (each page (pages_below p file n))

-- the bytes of a file
abbrev pub file_text : NamedPages → List ℕ × PlainFile → List ℕ
file_text p file = parts_bytes (file_parts (image_file p file))
