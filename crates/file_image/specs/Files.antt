-- The files of a state, as an image has them.
use Rattle.std.specs.Prelude.{ℕ, List, map as each, Option}
use Rattle.std.specs.List.{filter_map, range_with_len}
use Rattle.std.specs.Option.{option_map}
use Rattle.std.specs.declared.cmp.Ordering.{Ordering}
use Rattle.std.specs.FinMap as map
use Rattle.machine_names.specs.declared.names.TheConstants.{FILE_PAGES}
use Rattle.machine_names.specs.Orders.{name_cmp}
use Rattle.plain_files.specs.Sizes.{PlainFile}
use Rattle.plain_pages.specs.PlainPages.{NamedPages, PlainPages}
use Rattle.plain_pages.specs.References.{words_of}
use Rattle.plain_model.specs.State.{PlainState}
use Rattle.file_image.specs.Parts.{ImagePage}
use Rattle.file_image.specs.Images.{ImageFile}

module _ {K : Type 0} {file_cmp : K → K → Ordering} where
  -- the page of a file at a number, where the file has one
  abbrev pub page_in : PlainPages file_cmp → K → ℕ → Option ImagePage
  page_in p file n = option_map (λ page. record { number = n; words = words_of p page }) (map.get p.files (record { file = file; page = n }))

  -- the pages of a file below a number, in the order of their numbers
  unfoldable pub pages_below : PlainPages file_cmp → K → ℕ → List ImagePage
  pages_below p file n = filter_map (page_in p file) (range_with_len 0 n)

  -- all pages of a file
  abbrev pub pages_in : PlainPages file_cmp → K → List ImagePage
  pages_in p file = pages_below p file FILE_PAGES

-- a file with its pages
abbrev pub image_file : NamedPages → List ℕ × PlainFile → ImageFile
image_file p file = record { name = file.0; size = file.1.size; length = file.1.length; pages = pages_in p file.0 }

-- files in the order of their names
abbrev pub image_files : map.FinMap name_cmp PlainFile → NamedPages → List ImageFile
image_files files p = each (image_file p) (map.entries files)

-- THE FILES OF A STATE
abbrev pub files_of : PlainState → List ImageFile
files_of s = image_files s.files s.pages
