-- Pages that are used, put into, or moved between frames and the drum: what is told of them stays told.
use Rattle.std.proofs.Common.{◌≡◌, inl, inr, ℕ, suc, List, [], ◌∷◌, false, Option, None, Some, is_some, length, map, refl, sym, ◌∙◌, ap, subst, arith}
use Rattle.std.specs.Prelude.{IsSome, slice_index, slice_set}
use Rattle.std.specs.Option.{option_map_or}
use Rattle.std.proofs.Math.Path.{fun_ext}
use Rattle.std.proofs.lemmas.Bool.{cases_eq, cases_lt}
use Rattle.std.proofs.lemmas.List.{get_or-set_same, get_or_past, length-map, length-set, map-set}
use Rattle.outside.specs.Drums.{page_at as drum_page}
use Rattle.machine_names.specs.declared.names.ForkName.{ForkName}
use Rattle.machine_names.specs.declared.names.Place.{Place}
use Rattle.page_homes.specs.declared.homes.Home.{Home}
use Rattle.page_contracts.specs.DrumWords.{DrumWords}
use Rattle.page_contracts.specs.Pages.{IsPlace, spot_of}
use Rattle.page_contracts.specs.Stores.{HomePlace, FitsHomes, content, free, here, free_homes, is_taken, over_drum, place, with_word_in}
use Rattle.page_contracts.proofs.HomeCounts.{free_mapped}
use Rattle.plain_pages.specs.References.{stored}
use Rattle.pager_walk.specs.declared.map_pages.MapPage.{MapPage}
use Rattle.pager_walk.specs.MapPages.{fork_at, root_at, index_of}
use Rattle.pager_walk.specs.PagedMaps.{Tables, AreRooted, FitsMaps, entry_in, words_in}
use Rattle.pager_walk.proofs.Changing.{content_other, fits_still, taken_still}
use Rattle.pager_walk.proofs.Looking.{ArePages}
use Rattle.flat_tables.specs.SlotTables.{Tables as FlatTables, AreTables, AreSized, plain_of, objects_of}
use Rattle.flat_pages.proofs.Putting.{moved_tables, put_tables, replaced, stored_at}
use Rattle.flat_pages.proofs.Settling.{sized_of}
use Rattle.paged_tables.specs.declared.page_home.PageHome.TheVariants.{At}
use Rattle.paged_tables.specs.MapsInMemory.{entries_held, map_held, maps_in_memory}
use Rattle.paged_tables.specs.PageHomes.{homed_over}
use Rattle.paged_tables.specs.PagedPlaces.{page_places}
use Rattle.paged_tables.specs.PagedTables.{Beside, AreKept, FitsPages, in_memory_over, plain_over}
use Rattle.paged_tables.proofs.Homed.{homed_named, place_stands, place_tells, reached_there, sized}
use Rattle.paged_tables.proofs.Places.{IsNoRoot, fits_places, place_here, place_same, places_set}
use Rattle.paged_tables.proofs.Touched.{named_apart}

-- what is kept beside a store rests on which homes are taken alone
pub kept_moved : (b : Beside) (places places' : List HomePlace) → AreKept b places → map is_taken places' ≡ map is_taken places → AreKept b places'
kept_moved b places places' kept same = record {
  rooted = subst (AreRooted b.tables) (sym same) kept.rooted;
  filed = kept.filed;
  named = kept.named;
  shared = kept.shared;
  files = kept.files;
  sized = kept.sized;
  living = kept.living;
  homes = (let many : length places' ≡ length places = sym (length-map places' is_taken) ∙ ap length same ∙ length-map places is_taken in omega (arith, many, kept.homes));
  free = (let homes : free_homes places' ≡ free_homes places = free_mapped places' places same in omega (arith, homes, kept.free));
  few = kept.few;
}

-- the maps in memory rest on the pages of maps alone
pub maps_same : (t : Tables) (words words' : ℕ → Option (List ℕ)) (maps : List MapPage) → ((k : ℕ) (f : ForkName) → fork_at maps k ≡ Some f → words' (root_at maps k).0 ≡ words (root_at maps k).0)
    → map (map_held t words') maps ≡ map (map_held t words) maps
maps_same t words words' [] same = refl
maps_same t words words' (m ∷ maps) same = λ i. record { fork = m.fork; entries = own m.fork refl i } ∷ maps_same t words words' maps (λ k f e. same (suc k) f e) i
  where
    own : (o : Option ForkName) → m.fork ≡ o → entries_held t words' m.home o ≡ entries_held t words m.home o
    own None e = refl
    own (Some f) e = ap (λ (c : Option (List ℕ)). entries_held t (λ h. c) m.home (Some f)) (same 0 f e)

pub memory_same : (t : Tables) (words words' : ℕ → Option (List ℕ)) → ((k : ℕ) (f : ForkName) → fork_at t.maps k ≡ Some f → words' (root_at t.maps k).0 ≡ words (root_at t.maps k).0) → maps_in_memory t words' ≡ maps_in_memory t words
unfolding maps_in_memory
memory_same t words words' same = maps_same t words words' t.maps same

-- and so does it whether the maps fit
pub maps_fit : (t : Tables) (places places' : List HomePlace) (d e : DrumWords) → FitsMaps t places d → FitsHomes places' e
    → ((k : ℕ) (f : ForkName) → fork_at t.maps k ≡ Some f → content places' e (root_at t.maps k).0 ≡ content places d (root_at t.maps k).0) → FitsMaps t places' e
maps_fit t places places' d e fits drum same = record { drum = drum; entries = λ k page f is below. subst (λ (c : Option (List ℕ)). IsSome (entry_in t (slice_index (words_in c) page))) (sym (same k f is)) (fits.entries k page f is below) }

-- a word is put into the page of a place
module _ (b : Beside) (places : List HomePlace) (kept : AreKept b places) (pages : ArePages places) (at : Place) (there : IsPlace (λ f. is_some (index_of b.tables.maps f)) at) (h : Home) (is : homed_over b places at ≡ At h)
    (words : List ℕ) (held : place places h.0 ≡ here words) (offset word : ℕ) where
  abbrev pub put_places : List HomePlace
  put_places = slice_set places h.0 (with_word_in (place places h.0) offset word)

  pub put_apart : IsNoRoot b.tables.maps h.0
  put_apart = named_apart b places kept.rooted h.0 (homed_named b places kept at h (place_stands b places kept at there) is)

  taken_put : (p : HomePlace) → p ≡ here words → is_taken (with_word_in p offset word) ≡ is_taken p
  taken_put p e = ap (λ (q : HomePlace). is_taken (with_word_in q offset word)) e ∙ sym (ap is_taken e)

  pub put_kept : AreKept b put_places
  put_kept = kept_moved b places put_places kept (taken_still places h.0 (with_word_in (place places h.0) offset word) (taken_put (place places h.0) held))

  module _ (d : DrumWords) (fits : FitsPages b places d) (pages' : ArePages put_places) where
    abbrev u : FlatTables
    u = in_memory_over b places d

    stays : (k : ℕ) (f : ForkName) → fork_at b.tables.maps k ≡ Some f → content put_places d (root_at b.tables.maps k).0 ≡ content places d (root_at b.tables.maps k).0
    stays k f e = content_other places d h.0 (root_at b.tables.maps k).0 (with_word_in (place places h.0) offset word) (put_apart k f e)

    drum' : FitsHomes put_places d
    drum' = fits_still places d h.0 (with_word_in (place places h.0) offset word) fits.maps.drum

    same_place : place u.places h.0 ≡ place places h.0
    same_place = place_same b.tables.maps places h.0 put_apart

    put_over : in_memory_over b put_places d ≡ replaced u (slice_set u.places h.0 (with_word_in (place u.places h.0) offset word))
    put_over =
        let pages_set = places_set b.tables.maps places h.0 (with_word_in (place places h.0) offset word) put_apart ∙ ap (λ q. slice_set u.places h.0 (with_word_in q offset word)) (sym same_place) in
        let maps_stay = memory_same b.tables (content places d) (content put_places d) stays in
        λ i. record u { places = pages_set i; maps = maps_stay i }

    sized_put : AreSized (slice_set u.places h.0 (with_word_in (place u.places h.0) offset word)) d
    sized_put = subst (λ (ps : List HomePlace). AreSized ps d) (ap (λ (t : FlatTables). t.places) put_over)
        (sized_of (page_places b.tables.maps put_places) d (fits_places b.tables.maps put_places d drum') (λ k ws e. pages' k ws (sym (place_same b.tables.maps put_places k (place_here b.tables.maps put_places k ws e)) ∙ e)))

    pub put_told : FitsPages b put_places d × (plain_over b put_places d ≡ stored (plain_over b places d) (spot_of at) offset word)
    put_told = (
      record { maps = maps_fit b.tables places put_places d d fits.maps drum' stays; agree = subst AreTables (sym put_over) (put_tables u fits.agree h.0 words (same_place ∙ held) offset word) },
      ap (λ (t : FlatTables). plain_of t d) put_over
          ∙ stored_at u fits.agree at h (reached_there b places kept pages d fits at there (place_stands b places kept at there) (place_tells b places kept pages d fits at there) h is) words (same_place ∙ held) offset word d (sized b places kept pages d fits) sized_put,
    )

-- pages moved between frames and the drum, whose words are as they were
taken_places : (maps : List MapPage) (places places' : List HomePlace) → map is_taken places' ≡ map is_taken places → map is_taken (page_places maps places') ≡ map is_taken (page_places maps places)
unfolding page_places
taken_places [] places places' same = same
taken_places (m ∷ maps) places places' same = by m.fork (taken_places maps places places' same)
  where
    by : (o : Option ForkName) → map is_taken (page_places maps places') ≡ map is_taken (page_places maps places)
        → map is_taken (option_map_or (λ f. slice_set (page_places maps places') m.home.0 free) o (page_places maps places')) ≡ map is_taken (option_map_or (λ f. slice_set (page_places maps places) m.home.0 free) o (page_places maps places))
    by None rest = rest
    by (Some f) rest = map-set is_taken (page_places maps places') m.home.0 free ∙ ap (λ bs. slice_set bs m.home.0 false) rest ∙ sym (map-set is_taken (page_places maps places) m.home.0 free)

cleared : (places : List HomePlace) (h : ℕ) → place (slice_set places h free) h ≡ free
cleared places h = elim (cases_lt h (length places)) [
  | inl l ↦ get_or-set_same places h free free l
  | inr past ↦ get_or_past (slice_set places h free) h free (omega (arith, past, length-set places h free))
]

content_cleared : (places : List HomePlace) (d : DrumWords) (h : ℕ) → content (slice_set places h free) d h ≡ None
unfolding content
content_cleared places d h = ap (λ p. over_drum p (drum_page d h)) (cleared places h)

content_places : (maps : List MapPage) (places places' : List HomePlace) (d e : DrumWords) → content places' e ≡ content places d → (h : ℕ) → content (page_places maps places') e h ≡ content (page_places maps places) d h
unfolding page_places
content_places [] places places' d e same h = ap (λ (c : ℕ → Option (List ℕ)). c h) same
content_places (m ∷ maps) places places' d e same h = by m.fork (content_places maps places places' d e same h)
  where
    by : (o : Option ForkName) → content (page_places maps places') e h ≡ content (page_places maps places) d h
        → content (option_map_or (λ f. slice_set (page_places maps places') m.home.0 free) o (page_places maps places')) e h ≡ content (option_map_or (λ f. slice_set (page_places maps places) m.home.0 free) o (page_places maps places)) d h
    by None rest = rest
    by (Some f) rest = elim (cases_eq h m.home.0) [
      | inl own ↦ ap (content (slice_set (page_places maps places') m.home.0 free) e) own ∙ content_cleared (page_places maps places') e m.home.0
          ∙ sym (ap (content (slice_set (page_places maps places) m.home.0 free) d) own ∙ content_cleared (page_places maps places) d m.home.0)
      | inr other ↦ content_other (page_places maps places') e m.home.0 h free other ∙ rest ∙ sym (content_other (page_places maps places) d m.home.0 h free other)
    ]

module _ (b : Beside) (places places' : List HomePlace) (d e : DrumWords) (fits : FitsPages b places d) (taken : map is_taken places' ≡ map is_taken places) (drum : FitsHomes places' e) (same : content places' e ≡ content places d) where
  abbrev old_tables : FlatTables
  old_tables = in_memory_over b places d

  moved_over : in_memory_over b places' e ≡ replaced old_tables (page_places b.tables.maps places')
  moved_over = let maps_stay = memory_same b.tables (content places d) (content places' e) (λ k f x. ap (λ (c : ℕ → Option (List ℕ)). c (root_at b.tables.maps k).0) same) in λ i. record old_tables { places = page_places b.tables.maps places'; maps = maps_stay i }

  pub moved_told : FitsPages b places' e × (plain_over b places' e ≡ plain_over b places d)
  moved_told = (
    record {
      maps = maps_fit b.tables places places' d e fits.maps drum (λ k f x. ap (λ (c : ℕ → Option (List ℕ)). c (root_at b.tables.maps k).0) same);
      agree = subst AreTables (sym moved_over) (moved_tables old_tables fits.agree (page_places b.tables.maps places') (taken_places b.tables.maps places places' taken));
    },
    ap (λ (t : FlatTables). plain_of t e) moved_over ∙ (λ i. record (plain_of old_tables d) { objects = objects_of old_tables.names (words i) }),
  )
    where
      words : content (page_places b.tables.maps places') e ≡ content old_tables.places d
      words = fun_ext (content_places b.tables.maps places places' d e same)
