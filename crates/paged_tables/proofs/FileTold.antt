-- What is told of a page of a file that is settled.
use Rattle.std.proofs.Common.{◌≡◌, ℕ, ◌<◌, List, true, Option, None, Some, is_some, refl, sym, ◌∙◌, ap, subst, arith}
use Rattle.std.specs.Prelude.{slice_set}
use Rattle.std.specs.FinMap as fin
use Rattle.outside.specs.Drums.{IsPage}
use Rattle.machine_names.specs.declared.names.FileNo.{FileNo}
use Rattle.machine_names.specs.declared.names.Kind.{Kind}
use Rattle.machine_names.specs.declared.names.Kind.TheVariants.{Read, Write, Execute}
use Rattle.machine_names.specs.declared.names.PageName.{PageName}
use Rattle.machine_names.specs.declared.names.Place.TheVariants.{File}
use Rattle.machine_names.specs.declared.names.Tty.{Tty}
use Rattle.machine_names.specs.Bounds.{IsFilePage, IsOwner}
use Rattle.machine_names.specs.Orders.{FilePage, file_page}
use Rattle.machine_names.specs.PageWords.{zero_words}
use Rattle.page_homes.specs.declared.homes.Home.{Home}
use Rattle.page_contracts.specs.declared.answers.Touch.TheVariants.{Ready}
use Rattle.page_contracts.specs.DrumWords.{DrumWords}
use Rattle.page_contracts.specs.Pages.{absent_or, can_settle}
use Rattle.page_contracts.specs.Stores.{HomePlace, StoreMeaning, away_at, content, free, here, place}
use Rattle.plain_pages.specs.References.{in_file, settled}
use Rattle.pager_walk.specs.MapPages.{root_at}
use Rattle.pager_walk.specs.PagedMaps.{Tables, with_name}
use Rattle.pager_walk.proofs.Changing.{content_other}
use Rattle.pager_walk.proofs.Looking.{ArePages}
use Rattle.pager_walk.proofs.NamedPages.{same_word}
use Rattle.flat_tables.specs.SlotTables.{Tables as FlatTables, AreTables, plain_of}
use Rattle.flat_tables.specs.SlotTouches.{scene_of, touch_filed, touch_of_place}
use Rattle.flat_tables.specs.TableSteps.{home_filed, next_name}
use Rattle.flat_pages.proofs.FileSettles.{used_settles, zero_settles}
use Rattle.flat_tables.proofs.Taking.{filed_tables}
use Rattle.paged_tables.specs.MadePages.{FilesPage}
use Rattle.paged_tables.specs.MapsInMemory.{maps_in_memory}
use Rattle.paged_tables.specs.NameCounts.{counts}
use Rattle.paged_tables.specs.PagedPlaces.{page_places}
use Rattle.paged_tables.specs.PagedTables.{Beside, AreKept, FitsPages, in_memory_over, plain_over}
use Rattle.paged_tables.specs.PagedTouches.{file_touched, roomy, scene_over}
use Rattle.paged_tables.proofs.Counted.{counts_set}
use Rattle.paged_tables.proofs.EntrySet.{memory_still}
use Rattle.paged_tables.proofs.Homed.{flat_pages}
use Rattle.paged_tables.proofs.NewForks.{free_apart}
use Rattle.paged_tables.proofs.Places.{IsNoRoot, fits_places, place_here, place_same, places_set}
use Rattle.paged_tables.proofs.Touched.{away_same}
use Rattle.paged_tables.proofs.ZeroPages.{room_left}

module _ (b : Beside) (places : List HomePlace) (kept : AreKept b places) (pages : ArePages places) (d : DrumWords) (fits : FitsPages b places d) (file : FileNo) (page : ℕ) (kind : Kind) (frames : ℕ)
    (ready : can_settle (file_touched (away_at places) b (scene_over b places frames) kind (fin.get b.files (file_page file.0 page))) ≡ true) where
  abbrev u : FlatTables
  u = in_memory_over b places d

  abbrev f : FilePage ℕ
  f = file_page file.0 page

  same_touch : (o : Option Home) (k : Kind) → ((h : Home) → o ≡ Some h → is_some (Rattle.pager_walk.specs.PagedMaps.name_at b.tables.names h.0) ≡ true) → touch_filed (away_at u.places) u (scene_of u frames) k o ≡ file_touched (away_at places) b (scene_over b places frames) k o
  same_touch (Some h) Read named = ap (λ o. absent_or o Ready) (away_same b places kept.rooted h.0 (named h refl))
  same_touch (Some h) Write named = ap (λ o. absent_or o Ready) (away_same b places kept.rooted h.0 (named h refl))
  same_touch (Some h) Execute named = ap (λ o. absent_or o Ready) (away_same b places kept.rooted h.0 (named h refl))
  same_touch None Read named = refl
  same_touch None Write named = refl
  same_touch None Execute named = refl

  pub ready_memory : can_settle (touch_of_place u frames (File file page) kind) ≡ true
  ready_memory = ap can_settle (same_touch (fin.get b.files f) kind (kept.filed f)) ∙ ready

  -- a page that is there stays
  pub used_told : (h : Home) → fin.get b.files f ≡ Some h → (owner : Tty) → IsOwner owner → plain_over b places d ≡ settled (plain_over b places d) (in_file f) kind owner
  used_told h there owner own = ((used_settles u fits.agree (flat_pages b places kept pages d fits) frames file page kind ready_memory h there frames refl owner own).told d (fits_places b.tables.maps places d fits.maps.drum)).1

module _ {S : Type 0} (store : StoreMeaning S) (old new : S) (b b' : Beside) (kept : AreKept b (store.homes old)) (pages : ArePages (store.homes old)) (pages' : ArePages (store.homes new)) (file : FileNo) (page : ℕ) (bounds : IsFilePage file page) (kind : Kind) (owner : Tty) (own : IsOwner owner)
    (none : fin.get b.files (file_page file.0 page) ≡ None) (ready : can_settle (file_touched (away_at (store.homes old)) b (scene_over b (store.homes old) (store.spare old)) kind (fin.get b.files (file_page file.0 page))) ≡ true) (room : roomy b 1 ≡ true)
    (z : FilesPage store old new b b' (file_page file.0 page) owner) (d : DrumWords) (fits : FitsPages b (store.homes old) d) where
  abbrev places : List HomePlace
  places = store.homes old

  abbrev before : FlatTables
  before = in_memory_over b places d

  abbrev title : PageName
  title = next_name b.serials owner

  abbrev named : Tables
  named = with_name b.tables z.home title

  apart : IsNoRoot b.tables.maps z.home.0
  apart = free_apart b.tables places kept.rooted z.home.0 z.made.was_free

  below : z.home.0 < before.limit
  below = omega (arith, z.made.below, kept.homes)

  was_free : place before.places z.home.0 ≡ free
  was_free = place_same b.tables.maps places z.home.0 apart ∙ z.made.was_free

  abbrev after : FlatTables
  after = home_filed before (file_page file.0 page) z.home (here zero_words) owner

  agree : AreTables after
  agree = filed_tables before fits.agree owner own z.home.0 below (file_page file.0 page) (here zero_words) bounds none was_free refl (room_left b room)

  pages_are : page_places b.tables.maps (store.homes new) ≡ slice_set before.places z.home.0 (here zero_words)
  pages_are = ap (page_places b.tables.maps) z.made.homes ∙ places_set b.tables.maps places z.home.0 (here zero_words) apart

  maps_are : maps_in_memory named (content (store.homes new) d) ≡ before.maps
  maps_are =
      memory_still b.tables named places (store.homes new) d kept.rooted pages fits.maps (λ x some. (same_word b.tables places kept.rooted z.home title (here zero_words) refl z.made.below z.made.was_free x some).0) refl
      (λ j g e. ap (λ ps. content ps d (root_at b.tables.maps j).0) z.made.homes ∙ content_other places d z.home.0 (root_at b.tables.maps j).0 (here zero_words) (apart j g e))

  shares_are : counts b.tables.shares (slice_set b.tables.names z.home.0 (Some title)) (slice_set b.shared z.home.0 None) ≡ slice_set before.shares z.home.0 1
  shares_are = counts_set b.tables.shares b.tables.names b.shared z.home.0 title (omega (arith, below, kept.sized))

  over : in_memory_over b' (store.homes new) d ≡ after
  over = ap (λ (x : Beside). in_memory_over x (store.homes new) d) z.beside ∙ (λ i. record after { places = pages_are i; shares = shares_are i; maps = maps_are i })

  pages_after : (h : ℕ) (ws : List ℕ) → place after.places h ≡ here ws → IsPage ws
  pages_after h ws k =
      let k' : place (page_places b.tables.maps (store.homes new)) h ≡ here ws = ap (λ ps. place ps h) pages_are ∙ k in
      pages' h ws (sym (place_same b.tables.maps (store.homes new) h (place_here b.tables.maps (store.homes new) h ws k')) ∙ k')

  pub filed_told : FitsPages b' (store.homes new) d × (plain_over b' (store.homes new) d ≡ settled (plain_over b places d) (in_file (file_page file.0 page)) kind owner)
  filed_told = (
    record { maps = z.fits d fits.maps; agree = subst AreTables (sym over) agree },
    ap (λ (t : FlatTables). plain_of t d) over
        ∙ ((zero_settles before fits.agree (flat_pages b places kept pages d fits) (store.spare old) file page kind (ready_memory b places kept pages d fits file page kind (store.spare old) ready) none z.home below was_free owner own (store.spare new) z.made.spare agree pages_after).told d
        (fits_places b.tables.maps places d fits.maps.drum)).1,
  )
