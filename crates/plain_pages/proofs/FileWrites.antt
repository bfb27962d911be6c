-- What a write of a file's page makes.
use Rattle.std.proofs.Common.{◌≡◌, cond, [], ◌∷◌, None, Some, refl, ◌∙◌, ap, Ordering}
use Rattle.std.specs.FinMap as map
use Rattle.machine_names.specs.declared.names.Tty.{Tty}
use Rattle.machine_names.specs.declared.names.PageName.{PageName}
use Rattle.machine_names.specs.declared.names.Kind.TheVariants.{Write}
use Rattle.machine_names.specs.Orders.{FilePage}
use Rattle.plain_pages.specs.PlainPages.{PlainPages}
use Rattle.plain_pages.specs.Room.{HasRoom}
use Rattle.plain_pages.specs.References.{in_file, blank, in_its_file, makings, make, make_all, next_page, granted, full, reference}
use Rattle.plain_pages.proofs.ReferencesMade.{make_first, reference_makes, reference_stays}

module _ {K : Type 0} {file_cmp : K → K → Ordering} (p : PlainPages file_cmp) (owner : Tty) (f : FilePage K) where
  -- the pages with a zero page in the file
  abbrev pub filled : PlainPages file_cmp
  filled = make p owner (blank (in_file f))

  -- a page that is there may be written, and nothing is made
  pub written_there : (n : PageName) → map.get p.files f ≡ Some n → reference p (in_file f) Write owner ≡ granted p
  unfolding makings
  written_there n is = reference_stays p owner (in_file f) Write (ap (in_its_file Write f) is)

  -- one that is not is made, where there is room
  pub written_absent : map.get p.files f ≡ None → reference p (in_file f) Write owner ≡ cond (HasRoom filled owner) (granted filled) full
  unfolding makings make_all
  written_absent none = reference_makes p owner (in_file f) Write (blank (in_file f) ∷ []) (ap (in_its_file Write f) none) ∙ make_first p owner (blank (in_file f)) []

  -- that leaves the maps, and the file names the page
  pub filled_maps : filled.maps ≡ p.maps
  unfolding make
  filled_maps = refl

  pub filled_files : filled.files ≡ map.insert p.files f (next_page p owner)
  unfolding make
  filled_files = refl
