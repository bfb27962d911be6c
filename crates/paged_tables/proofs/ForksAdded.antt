-- The map of a new fork names no page.
use Rattle.std.proofs.Common.{◌≡◌, ℕ, zero, suc, ◌≤◌, List, [], ◌∷◌, Option, Some, map, sym, ◌∙◌, ap, subst}
use Rattle.std.specs.Option.{option_and_then, option_map_or}
use Rattle.machine_names.specs.PageWords.{zero_words}
use Rattle.machine_names.specs.declared.names.Access.{Access}
use Rattle.machine_names.specs.declared.names.ForkName.{ForkName}
use Rattle.machine_names.specs.declared.names.TheConstants.{LAST_SERIAL, SPACE_PAGES}
use Rattle.page_homes.specs.declared.homes.Home.{Home}
use Rattle.share_table.specs.declared.pointer.Pointer.{Pointer}
use Rattle.share_table.specs.declared.pointer.Pointer.TheVariants as pointer
use Rattle.pager_walk.specs.declared.paged_entry.PagedEntry.{PagedEntry}
use Rattle.pager_walk.specs.declared.paged_entry.PagedEntry.TheVariants as paged
use Rattle.pager_walk.specs.Decoding.{pointer_in}
use Rattle.pager_walk.specs.NewPages.{following_words}
use Rattle.pager_walk.specs.PagedMaps.{Tables, entry_for, entry_in}
use Rattle.pager_walk.proofs.DecodedWords.{pointer_back}
use Rattle.flat_tables.specs.declared.held_entry.HeldEntry.TheVariants.{Empty}
use Rattle.paged_tables.specs.AddedForks.{AreBareWords}
use Rattle.paged_tables.specs.MapsInMemory.{entry_held, in_memory}
use Rattle.paged_tables.proofs.NewForks.{AreBare, IsBare, bare_followers, bare_none, empty_entries, following_entries}

-- the word 0 is that of an empty entry
zero_pointer : pointer_in 0 ≡ Some pointer.Empty
zero_pointer = pointer_back pointer.Empty tt

zero_names : (t : Tables) (h : Home) (a : Access) → entry_in t 0 ≡ Some (paged.Page h a) → ⊥
zero_names t h a e = let z : Some paged.Empty ≡ Some (paged.Page h a) = sym (ap (λ (o : Option Pointer). option_and_then (entry_for t) o) zero_pointer) ∙ e in cc z

names_none : (t : Tables) (w : ℕ) → IsBare (entry_held t w) → (h : Home) (a : Access) → entry_in t w ≡ Some (paged.Page h a) → ⊥
names_none t w bare h a e = subst (λ (o : Option PagedEntry). IsBare (option_map_or in_memory o Empty)) e bare

bare_words : (t : Tables) (words : List ℕ) → AreBare (map (entry_held t) words) → AreBareWords t words
bare_words t [] bare page h a e = zero_names t h a e
bare_words t (w ∷ words) bare zero h a e = names_none t w bare.0 h a e
bare_words t (w ∷ words) bare (suc page) h a e = bare_words t words bare.1 page h a e

-- an empty map
pub zero_bare : (t : Tables) → AreBareWords t zero_words
zero_bare t = bare_words t zero_words (subst AreBare (sym (empty_entries t)) bare_none)

-- and one each of whose entries follows that of another fork
pub following_bare : (t : Tables) (f : ForkName) → 1 ≤ f.serial → f.serial ≤ LAST_SERIAL → AreBareWords t (following_words f.serial SPACE_PAGES)
following_bare t f one last = bare_words t (following_words f.serial SPACE_PAGES) (subst AreBare (sym (following_entries t f one last)) (bare_followers f.serial))
