-- What a change of a file's pages leaves.
use Rattle.std.specs.Prelude.{List, not, Option, None, Some}
use Rattle.std.specs.Option.{option_map_or}
use Rattle.std.specs.Ordering.{eq_by_cmp}
use Rattle.std.specs.declared.cmp.Ordering.{Ordering}
use Rattle.std.specs.FinMap as map
use Rattle.machine_names.specs.declared.names.PageName.{PageName}
use Rattle.machine_names.specs.declared.names.Slot.{Slot}
use Rattle.machine_names.specs.Orders.{FilePage, file_page_cmp}
use Rattle.plain_pages.specs.PlainPages.{PlainPages}
use Rattle.plain_pages.specs.References.{in_map, page_at, drop_unnamed, drop_all_unnamed}

module _ {K : Type 0} {file_cmp : K → K → Ordering} where
  -- what files name with a page at one of theirs, or without one there
  abbrev pub files_with : PlainPages file_cmp → FilePage K → Option PageName → map.FinMap (file_page_cmp file_cmp) PageName
  files_with p f (Some n) = map.insert p.files f n
  files_with p f None = map.remove p.files f

  -- the pages with a page named, or none, at a page of a file; a page that loses its last name there is dropped
  unfoldable pub with_file : PlainPages file_cmp → FilePage K → Option PageName → PlainPages file_cmp
  with_file p f new = let q = record p { files = files_with p f new } in option_map_or (drop_unnamed q) (map.get p.files f) q

  -- the pages with the page of a slot at a page of a file
  abbrev pub filed_from : PlainPages file_cmp → FilePage K → Slot → PlainPages file_cmp
  filed_from p f s = with_file p f (page_at p (in_map s))

  -- the same, and without a slot none at that page of the file
  abbrev pub filed_by : PlainPages file_cmp → FilePage K → Option Slot → PlainPages file_cmp
  filed_by p f from = option_map_or (filed_from p f) from (with_file p f None)

  -- the pages of the other files
  abbrev pub other_files : PlainPages file_cmp → K → map.FinMap (file_page_cmp file_cmp) PageName
  other_files p file = map.retain_keys p.files (λ f. not (eq_by_cmp file_cmp f.file file))

  -- the pages that a file names, each as often as it is named there
  abbrev pub names_of_file : PlainPages file_cmp → K → List PageName
  names_of_file p file = map.values (map.retain_keys p.files (λ f. eq_by_cmp file_cmp f.file file))

  -- the pages without those of a file; those that lose their last name are dropped
  unfoldable pub without_file : PlainPages file_cmp → K → PlainPages file_cmp
  without_file p file = drop_all_unnamed (record p { files = other_files p file }) (names_of_file p file)
