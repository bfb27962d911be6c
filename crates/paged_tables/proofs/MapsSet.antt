-- In which map an entry is set to what a page is made of that is settled.
use Rattle.std.proofs.Common.{◌≡◌, ◌<◌, ℕ, List, true, Option, None, Some, is_some, refl, ◌∙◌}
use Rattle.std.specs.Prelude.{slice_get}
use Rattle.std.specs.Option.{option_and_then}
use Rattle.std.specs.FinMap as fin
use Rattle.machine_names.specs.declared.names.ForkName.{ForkName}
use Rattle.machine_names.specs.declared.names.Kind.{Kind}
use Rattle.machine_names.specs.declared.names.Kind.TheVariants.{Execute, Read, Write}
use Rattle.machine_names.specs.declared.names.PageName.{PageName}
use Rattle.machine_names.specs.declared.names.Slot.{Slot}
use Rattle.machine_names.specs.declared.names.Tty.{Tty}
use Rattle.machine_names.specs.declared.names.TheConstants.{SPACE_PAGES}
use Rattle.machine_names.specs.Bounds.{IsOwner}
use Rattle.machine_names.specs.Orders.{FilePage}
use Rattle.page_homes.specs.declared.homes.Home.{Home}
use Rattle.page_contracts.specs.DrumWords.{DrumWords}
use Rattle.page_contracts.specs.Pages.{can_settle, map_set}
use Rattle.page_contracts.specs.Stores.{HomePlace}
use Rattle.plain_pages.specs.PlainPages.{NumberedPages}
use Rattle.plain_pages.specs.References.{in_file, in_its_file, in_map, makings, next_making}
use Rattle.pager_walk.specs.declared.chain_walk.Walked.TheVariants.{Along}
use Rattle.pager_walk.specs.MapPages.{index_of}
use Rattle.pager_walk.specs.Walks.{Way, WayStands, walk_at}
use Rattle.pager_walk.proofs.Looking.{ArePages}
use Rattle.flat_tables.specs.SlotTables.{AreSized, Tables as FlatTables}
use Rattle.flat_pages.proofs.Settled.{Announced, copy_set, stays_set, zero_set}
use Rattle.flat_pages.proofs.Settling.{sized_of}
use Rattle.paged_tables.specs.PagedTables.{AreKept, Beside, FitsPages, in_memory_over, plain_over}
use Rattle.fork_maps.specs.ChainWalks.{copy_for}
use Rattle.paged_tables.specs.PagedTouches.{walk_touched}
use Rattle.paged_tables.proofs.Homed.{flat_pages}
use Rattle.paged_tables.proofs.MemoryWays.{MemoryWay, copy_entry, copy_none, memory_announced, memory_way}
use Rattle.paged_tables.proofs.Places.{fits_places}

-- for a page of a fork's space
module _ (b : Beside) (places : List HomePlace) (kept : AreKept b places) (pages : ArePages places) (s : Slot) (kind : Kind) (owner : Tty) (own : IsOwner owner) (lives : is_some (index_of b.tables.maps s.fork) ≡ true) (within : s.page < SPACE_PAGES)
    (w : Way) (walks : Along w ≡ walk_at b.tables places s) (stands : WayStands b.tables places w) (frames : ℕ) (ready : can_settle (walk_touched b places frames kind (Along w)) ≡ true) (d : DrumWords) (fits : FitsPages b places d) where
  abbrev u : FlatTables
  u = in_memory_over b places d

  way : MemoryWay b places d s w
  way = memory_way b places kept pages d fits s lives within w walks

  announced : Announced u frames s kind way.way
  announced = memory_announced b places kept pages d fits s lives within w walks way stands frames kind ready

  sized : AreSized u.places d
  sized = sized_of u.places d (fits_places b.tables.maps places d fits.maps.drum) (flat_pages b places kept pages d fits)

  abbrev set_in : Option ForkName
  set_in = map_set (next_making (plain_over b places d) (in_map s) kind)

  pub zero_map : w.home ≡ None → Some w.end.fork ≡ set_in
  zero_map none = zero_set u fits.agree frames s kind way.way announced d sized owner own (way.same.home ∙ none) w.end way.same.end

  pub copy_map : (h : Home) (m : Slot) → w.home ≡ Some h → copy_for kind w ≡ Some m → Some m.fork ≡ set_in
  copy_map h m home some =
      let copy = copy_entry b places d w way.way way.same kind m some in
      copy_set u fits.agree frames s kind way.way announced d sized owner own h copy.entry m (way.same.home ∙ home) copy.some copy.slot

  pub ready_map : (h : Home) → w.home ≡ Some h → copy_for kind w ≡ None → None ≡ set_in
  ready_map h home none = stays_set u fits.agree frames s kind way.way announced d sized owner own h (way.same.home ∙ home) (copy_none b places d w way.way way.same kind none)

-- for a page of a file there is none
pub file_map : (p : NumberedPages) (f : FilePage ℕ) (kind : Kind) → None ≡ map_set (next_making p (in_file f) kind)
unfolding makings
file_map p f kind = by kind (fin.get p.files f)
  where
    by : (k : Kind) (o : Option PageName) → None ≡ map_set (option_and_then (λ ms. slice_get ms 0) (in_its_file k f o))
    by Read None = refl
    by Read (Some n) = refl
    by Write None = refl
    by Write (Some n) = refl
    by Execute None = refl
    by Execute (Some n) = refl
