-- The home of the page of a place is that of the tables in memory, and what is read there is told.
use Rattle.std.proofs.Common.{◌≡◌, ℕ, List, true, Option, None, Some, is_some, refl, sym, ◌∙◌, ap, subst}
use Rattle.std.specs.Prelude.{slice_index}
use Rattle.std.specs.Option.{option_map_or, option_and_then}
use Rattle.std.specs.FinMap as fin
use Rattle.machine_names.specs.declared.names.Kind.{Kind}
use Rattle.machine_names.specs.declared.names.Place.{Place}
use Rattle.machine_names.specs.declared.names.Place.TheVariants.{Fork, File}
use Rattle.machine_names.specs.declared.names.Slot.{Slot}
use Rattle.machine_names.specs.declared.names.Tty.{Tty}
use Rattle.machine_names.specs.Bounds.{IsOwner}
use Rattle.machine_names.specs.Orders.{file_page}
use Rattle.outside.specs.Drums.{IsPage}
use Rattle.page_homes.specs.declared.homes.Home.{Home}
use Rattle.page_contracts.specs.declared.answers.Peeked.{Peeked}
use Rattle.page_contracts.specs.declared.answers.Peeked.TheVariants.{Is, Absent as Away, NoPage as Nothing}
use Rattle.page_contracts.specs.DrumWords.{DrumWords}
use Rattle.page_contracts.specs.Pages.{Scene, IsPlace, PeekNeeds, TouchNeeds, touch_of, away_or, counted, map_away as maps_away, peek_of, spot_of}
use Rattle.page_contracts.specs.Stores.{HomePlace, StoreMeaning, free, away, here, is_taken, place}
use Rattle.plain_pages.specs.References.{page_at as named_at, word_at, words_of}
use Rattle.pager_walk.specs.declared.chain_walk.Walked.{Walked}
use Rattle.pager_walk.specs.declared.chain_walk.Walked.TheVariants.{Along, Absent, NoChain}
use Rattle.pager_walk.specs.MapPages.{index_of}
use Rattle.pager_walk.specs.PagedMaps.{map_away, name_at, name_of}
use Rattle.pager_walk.specs.Walks.{Way, TellsWalk, WalkStands, walk_at}
use Rattle.pager_walk.proofs.Looking.{ArePages, taken_map}
use Rattle.pager_walk.proofs.Walking.{stood, walked}
use Rattle.flat_tables.specs.HeldMaps as flat
use Rattle.flat_tables.specs.Walks.{Walk, walk}
use Rattle.flat_tables.specs.SlotTables.{Tables as FlatTables, AreSized}
use Rattle.flat_tables.specs.SlotTouches.{home_at, scene_of, walk_of}
use Rattle.flat_pages.proofs.Meeting.{Reached, reached, unreached, reached_counted, reached_word, peek_here, peek_away, peek_none}
use Rattle.flat_pages.proofs.Settling.{sized_of}
use Rattle.paged_tables.specs.declared.page_home.PageHome.{PageHome}
use Rattle.paged_tables.specs.declared.page_home.PageHome.TheVariants.{At, MapAway, NoPage}
use Rattle.paged_tables.specs.PageHomes.{homed, homed_along, homed_over, peeked_at}
use Rattle.paged_tables.specs.PagedTables.{Beside, AreKept, FitsPages, in_memory_over, plain_over}
use Rattle.paged_tables.specs.PagedTouches.{names_at, scene_over, touched_over}
use Rattle.paged_tables.proofs.Counted.{counts_at}
use Rattle.paged_tables.proofs.Places.{fits_places, place_here, place_same}
use Rattle.paged_tables.proofs.Needing.{walk_needs, file_needs}
use Rattle.paged_tables.proofs.Touched.{named_apart, pages_away, on_way, slot_touched, file_touch_told}
use Rattle.paged_tables.proofs.WalksTold.{IsSameWalk, index_same, maps, walk_told}

-- what a walk tells of a place, where it is one of a fork's space
abbrev pub PlaceStands : Beside → List HomePlace → Place → Type 0
PlaceStands b places (Fork s) = WalkStands b.tables places (walk_at b.tables places s)
PlaceStands b places (File f page) = Unit {0}

abbrev pub PlaceTells : Beside → List HomePlace → DrumWords → Place → Type 0
PlaceTells b places d (Fork s) = TellsWalk b.tables places d s (walk_at b.tables places s)
PlaceTells b places d (File f page) = Unit {0}

pub place_stands : (b : Beside) (places : List HomePlace) → AreKept b places → (at : Place) → IsPlace (λ f. is_some (index_of b.tables.maps f)) at → PlaceStands b places at
place_stands b places kept (Fork s) there = stood b.tables places kept.rooted s there.1
place_stands b places kept (File f page) there = tt

pub place_tells : (b : Beside) (places : List HomePlace) → AreKept b places → ArePages places → (d : DrumWords) → FitsPages b places d → (at : Place) → IsPlace (λ f. is_some (index_of b.tables.maps f)) at → PlaceTells b places d at
place_tells b places kept pages d fits (Fork s) there = walked b.tables places d kept.rooted pages fits.maps s there.1
place_tells b places kept pages d fits (File f page) there = tt

-- a touch answers as told
pub touch_told : (b : Beside) (places : List HomePlace) → AreKept b places → ArePages places → (d : DrumWords) → FitsPages b places d → (frames : ℕ) (at : Place) → IsPlace (λ f. is_some (index_of b.tables.maps f)) at → (kind : Kind) (owner : Tty) → IsOwner owner
    → touch_of (plain_over b places d) (scene_over b places frames) (spot_of at) kind owner ≡ touched_over b places frames at kind
touch_told b places kept pages d fits frames (Fork s) there kind owner own = slot_touched b places kept.rooted pages d fits kept.files.count frames s kind owner own there.0 there.1 (stood b.tables places kept.rooted s there.1) (walked b.tables places d kept.rooted pages fits.maps s there.1)
touch_told b places kept pages d fits frames (File f page) there kind owner own = file_touch_told b places kept.rooted pages d fits frames (file_page f.0 page) kind owner own (kept.filed (file_page f.0 page))

-- and what it needs is needed
pub touch_needed : {P : Type 0} (store : StoreMeaning P) (p : P) (b : Beside) → AreKept b (store.homes p) → (at : Place) → IsPlace (λ f. is_some (index_of b.tables.maps f)) at → (kind : Kind) → TouchNeeds store p (touched_over b (store.homes p) (store.spare p) at kind)
touch_needed store p b kept (Fork s) there kind = walk_needs store p b kind (walk_at b.tables (store.homes p) s) (stood b.tables (store.homes p) kept.rooted s there.1)
touch_needed store p b kept (File f page) there kind = file_needs store p b kind (fin.get b.files (file_page f.0 page))

-- the home of a page has a name, and so is taken
pub homed_named : (b : Beside) (places : List HomePlace) → AreKept b places → (at : Place) (h : Home) → PlaceStands b places at → homed_over b places at ≡ At h → is_some (name_at b.tables.names h.0) ≡ true
homed_named b places kept (Fork s) h stands is = by (walk_at b.tables places s) stands is
  where
    ended : (w : Way) → WalkStands b.tables places (Along w) → (o : Option Home) → w.home ≡ o → homed o ≡ At h → is_some (name_at b.tables.names h.0) ≡ true
    ended w stands None e is = absurd (cc is)
    ended w stands (Some g) e is = let same : g ≡ h = cc is in subst (λ (x : Home). is_some (name_at b.tables.names x.0) ≡ true) same (stands.named g e)

    by : (w : Walked) → WalkStands b.tables places w → homed_along w ≡ At h → is_some (name_at b.tables.names h.0) ≡ true
    by (Along w) stands is = ended w stands w.home refl is
    by (Absent home) stands is = absurd (cc is)
    by NoChain stands is = absurd (cc is)
homed_named b places kept (File f page) h stands is = by (fin.get b.files (file_page f.0 page)) refl is
  where
    by : (o : Option Home) → fin.get b.files (file_page f.0 page) ≡ o → homed o ≡ At h → is_some (name_at b.tables.names h.0) ≡ true
    by None e is = absurd (cc is)
    by (Some g) e is = let same : g ≡ h = cc is in subst (λ (x : Home). is_some (name_at b.tables.names x.0) ≡ true) same (kept.filed (file_page f.0 page) g e)

-- and that of a map that is away is away
pub homed_away : (b : Beside) (places : List HomePlace) (at : Place) (h : Home) → PlaceStands b places at → homed_over b places at ≡ MapAway h → place places h.0 ≡ away
homed_away b places (Fork s) h stands is = by (walk_at b.tables places s) stands is
  where
    ended : (o : Option Home) → homed o ≡ MapAway h → place places h.0 ≡ away
    ended None is = absurd (cc is)
    ended (Some g) is = absurd (cc is)

    by : (w : Walked) → WalkStands b.tables places w → homed_along w ≡ MapAway h → place places h.0 ≡ away
    by (Along w) stands is = ended w.home is
    by (Absent home) stands is = let same : home ≡ h = cc is in ap (λ (x : Home). place places x.0) (sym same) ∙ stands.away
    by NoChain stands is = absurd (cc is)
homed_away b places (File f page) h stands is = by (fin.get b.files (file_page f.0 page)) is
  where
    by : (o : Option Home) → homed o ≡ MapAway h → place places h.0 ≡ away
    by None is = absurd (cc is)
    by (Some g) is = absurd (cc is)

pub homed_taken : (b : Beside) (places : List HomePlace) → AreKept b places → (at : Place) (h : Home) → PlaceStands b places at → homed_over b places at ≡ At h → is_taken (place places h.0) ≡ true
homed_taken b places kept at h stands is = sym (taken_map places h.0) ∙ kept.rooted.named h.0 (homed_named b places kept at h stands is)

module _ (b : Beside) (places : List HomePlace) (kept : AreKept b places) (pages : ArePages places) (d : DrumWords) (fits : FitsPages b places d) where
  abbrev u : FlatTables
  u = in_memory_over b places d

  pub flat_pages : (h : ℕ) (words : List ℕ) → place u.places h ≡ here words → IsPage words
  flat_pages h words e = pages h words (sym (place_same b.tables.maps places h (place_here b.tables.maps places h words e)) ∙ e)

  pub sized : AreSized u.places d
  sized = sized_of u.places d (fits_places b.tables.maps places d fits.maps.drum) flat_pages

  -- a place is there alike
  pub place_there : (at : Place) → IsPlace (λ f. is_some (index_of b.tables.maps f)) at → IsPlace (λ f. is_some (flat.index_of u.maps f)) at
  place_there (Fork s) is = (ap is_some (index_same b.tables places d s.fork) ∙ is.0, is.1)
  place_there (File f page) is = is

  -- the walk in memory from a living fork's slot
  pub walk_is : (s : Slot) (k : ℕ) → index_of b.tables.maps s.fork ≡ Some k → walk_of u.maps s ≡ walk (maps b.tables places d) (record { map = k; page = s.page })
  walk_is s k is = ap (option_and_then (λ j. walk (maps b.tables places d) (record { map = j; page = s.page }))) (index_same b.tables places d s.fork ∙ is)

  -- the home in memory, where each map on the way is in a frame
  abbrev IsHome : PageHome → Option Home → Type 0
  IsHome (At h) o = o ≡ Some h
  IsHome (MapAway home) o = Unit {0}
  IsHome NoPage o = o ≡ None

  home_is : (o q : Option Home) → q ≡ o → IsHome (homed o) q
  home_is None q e = e
  home_is (Some h) q e = e

  pub home_told : (at : Place) → IsPlace (λ f. is_some (index_of b.tables.maps f)) at → IsHome (homed_over b places at) (home_at u at)
  home_told (File f page) there = home_is (fin.get b.files (file_page f.0 page)) (fin.get b.files (file_page f.0 page)) refl
  home_told (Fork s) there = numbered (index_of b.tables.maps s.fork) refl there.0
    where
      by : (k : ℕ) → index_of b.tables.maps s.fork ≡ Some k → (w : Walked) (o : Option Walk) → walk (maps b.tables places d) (record { map = k; page = s.page }) ≡ o → IsSameWalk (maps b.tables places d) w o → IsHome (homed_along w) (home_at u (Fork s))
      by k is (Along w) None e same = absurd same
      by k is (Along w) (Some v) e same = home_is w.home (home_at u (Fork s)) (ap (option_and_then (λ (x : Walk). x.home)) (walk_is s k is ∙ e) ∙ same.home)
      by k is (Absent home) o e same = tt
      by k is NoChain None e same = ap (option_and_then (λ (x : Walk). x.home)) (walk_is s k is ∙ e)
      by k is NoChain (Some v) e same = absurd same

      numbered : (o : Option ℕ) → index_of b.tables.maps s.fork ≡ o → is_some o ≡ true → IsHome (homed_along (walk_at b.tables places s)) (home_at u (Fork s))
      numbered None is l = absurd (cc l)
      numbered (Some k) is l = by k is (walk_at b.tables places s) (walk (maps b.tables places d) (record { map = k; page = s.page })) refl (walk_told b.tables places d kept.rooted pages fits.maps s k is there.1)

  -- the maps on the way are in frames, or the first that isn't is this
  abbrev pub Passes : Place → ℕ → PageHome → Type 0
  Passes at frames (At h) = maps_away (plain_over b places d) (scene_over b places frames) (spot_of at) ≡ None
  Passes at frames (MapAway home) = maps_away (plain_over b places d) (scene_over b places frames) (spot_of at) ≡ Some home.0
  Passes at frames NoPage = maps_away (plain_over b places d) (scene_over b places frames) (spot_of at) ≡ None

  passes_homed : (at : Place) (frames : ℕ) (o : Option Home) → maps_away (plain_over b places d) (scene_over b places frames) (spot_of at) ≡ None → Passes at frames (homed o)
  passes_homed at frames None e = e
  passes_homed at frames (Some h) e = e

  pub passes : (at : Place) (frames : ℕ) → PlaceTells b places d at → Passes at frames (homed_over b places at)
  passes (File f page) frames tells = passes_homed (File f page) frames (fin.get b.files (file_page f.0 page)) refl
  passes (Fork s) frames tells = by (walk_at b.tables places s) tells
    where
      by : (w : Walked) → TellsWalk b.tables places d s w → Passes (Fork s) frames (homed_along w)
      by (Along w) t = passes_homed (Fork s) frames w.home (on_way b places kept.rooted pages d fits frames s ∙ t.0)
      by (Absent home) t = on_way b places kept.rooted pages d fits frames s ∙ t
      by NoChain t = on_way b places kept.rooted pages d fits frames s ∙ t.0

  abbrev mapped : ℕ → Scene
  mapped frames = record (scene_of u frames) { map_away = map_away b.tables places }

  scene_same : (frames : ℕ) → mapped frames ≡ scene_over b places frames
  scene_same frames = λ i. record { map_away = map_away b.tables places; page_away = pages_away b places kept.rooted d frames i; free_frames = frames }

  -- where the maps on the way are in frames a look finds what it finds of the tables in memory
  peek_near : (frames : ℕ) (at : Place) (offset : ℕ) → maps_away (plain_over b places d) (scene_over b places frames) (spot_of at) ≡ None → maps_away (plain_over b places d) (scene_of u frames) (spot_of at) ≡ None
      → peek_of (plain_over b places d) (scene_over b places frames) (spot_of at) offset ≡ peek_of (plain_over b places d) (scene_of u frames) (spot_of at) offset
  unfolding peek_of
  peek_near frames at offset near none =
      ap (λ o. away_or o (rest (scene_over b places frames))) near ∙ ap (λ (x : Scene). rest x) (sym (scene_same frames)) ∙ sym (ap (λ o. away_or o (rest (scene_of u frames))) none)
    where
      rest : Scene → Peeked
      rest scene = away_or (option_and_then scene.page_away (named_at (plain_over b places d) (spot_of at))) (option_map_or (λ n. Is (slice_index (words_of (plain_over b places d) n) offset)) (named_at (plain_over b places d) (spot_of at)) Nothing)

  peek_gone : (frames : ℕ) (at : Place) (offset home : ℕ) → maps_away (plain_over b places d) (scene_over b places frames) (spot_of at) ≡ Some home → peek_of (plain_over b places d) (scene_over b places frames) (spot_of at) offset ≡ Away (record { 0 = home })
  unfolding peek_of
  peek_gone frames at offset home gone =
      ap (λ o. away_or o (away_or (option_and_then (scene_over b places frames).page_away (named_at (plain_over b places d) (spot_of at))) (option_map_or (λ n. Is (slice_index (words_of (plain_over b places d) n) offset)) (named_at (plain_over b places d) (spot_of at)) Nothing))) gone

  module _ (at : Place) (there : IsPlace (λ f. is_some (index_of b.tables.maps f)) at) (stands : PlaceStands b places at) (tells : PlaceTells b places d at) where
    -- the page of a place that has a home
    module _ (h : Home) (is : homed_over b places at ≡ At h) where
      home_there : home_at u at ≡ Some h
      home_there = subst (λ (x : PageHome). IsHome x (home_at u at)) is (home_told at there)

      pub reached_there : Reached u at h
      reached_there = reached u fits.agree at h (place_there at there) (sym home_there)

      near_there : (frames : ℕ) → maps_away (plain_over b places d) (scene_over b places frames) (spot_of at) ≡ None
      near_there frames = subst (λ (x : PageHome). Passes at frames x) is (passes at frames tells)

      pub page_place : place u.places h.0 ≡ place places h.0
      page_place = place_same b.tables.maps places h.0 (named_apart b places kept.rooted h.0 (homed_named b places kept at h stands is))

      pub word_told : (offset : ℕ) (words : List ℕ) → place places h.0 ≡ here words → word_at (plain_over b places d) (spot_of at) offset ≡ slice_index words offset
      word_told offset words e = reached_word u fits.agree at h reached_there d sized words offset (page_place ∙ e)

      pub peek_is : (frames offset : ℕ) (words : List ℕ) → place places h.0 ≡ here words → peek_of (plain_over b places d) (scene_over b places frames) (spot_of at) offset ≡ Is (slice_index words offset)
      peek_is frames offset words e = peek_near frames at offset (near_there frames) (reached_there.passes d frames) ∙ peek_here u fits.agree at h reached_there d sized frames offset words (page_place ∙ e)

      pub peek_absent : (frames offset : ℕ) → place places h.0 ≡ away → peek_of (plain_over b places d) (scene_over b places frames) (spot_of at) offset ≡ Away h
      peek_absent frames offset e = peek_near frames at offset (near_there frames) (reached_there.passes d frames) ∙ peek_away u fits.agree at h reached_there d frames offset (page_place ∙ e)

      pub counted_told : counted (plain_over b places d) (named_at (plain_over b places d) (spot_of at)) ≡ Some (name_of b.tables.names h, names_at b h.0)
      counted_told = reached_counted u fits.agree at h reached_there d sized ∙ ap (λ n. Some (name_of b.tables.names h, n)) (counts_at b.tables.shares b.tables.names b.shared h.0)

    -- a map on the way is in no frame
    pub map_gone : (home : Home) → homed_over b places at ≡ MapAway home → (frames : ℕ) → maps_away (plain_over b places d) (scene_over b places frames) (spot_of at) ≡ Some home.0
    map_gone home is frames = subst (λ (x : PageHome). Passes at frames x) is (passes at frames tells)

    pub peek_map : (home : Home) → homed_over b places at ≡ MapAway home → (frames offset : ℕ) → peek_of (plain_over b places d) (scene_over b places frames) (spot_of at) offset ≡ Away home
    peek_map home is frames offset = peek_gone frames at offset home.0 (map_gone home is frames)

    -- no page is named
    module _ (is : homed_over b places at ≡ NoPage) where
      none_there : home_at u at ≡ None
      none_there = subst (λ (x : PageHome). IsHome x (home_at u at)) is (home_told at there)

      pub peek_nothing : (frames offset : ℕ) → peek_of (plain_over b places d) (scene_over b places frames) (spot_of at) offset ≡ Nothing
      peek_nothing frames offset =
          let x = unreached u fits.agree at (place_there at there) (sym none_there) in
          peek_near frames at offset (subst (λ (x : PageHome). Passes at frames x) is (passes at frames tells)) (x.passes d frames) ∙ peek_none u at x d frames offset

      pub none_named : named_at (plain_over b places d) (spot_of at) ≡ None
      none_named = (unreached u fits.agree at (place_there at there) (sym none_there)).none d

-- what a look at a place needs is needed
pub peek_needed : {P : Type 0} (store : StoreMeaning P) (p : P) (h : Home) (offset : ℕ) → is_taken (place (store.homes p) h.0) ≡ true → PeekNeeds store p (peeked_at (place (store.homes p) h.0) h offset)
peek_needed store p h offset taken = by (place (store.homes p) h.0) refl taken
  where
    by : (q : HomePlace) → place (store.homes p) h.0 ≡ q → is_taken q ≡ true → PeekNeeds store p (peeked_at q h offset)
    by free is t = absurd (cc t)
    by away is t = is
    by (here words) is t = tt

module _ (b : Beside) (places : List HomePlace) (kept : AreKept b places) (pages : ArePages places) (d : DrumWords) (fits : FitsPages b places d)
    (at : Place) (there : IsPlace (λ f. is_some (index_of b.tables.maps f)) at) (h : Home) (is : homed_over b places at ≡ At h) where
  -- a look at the home of a page finds what is told
  pub peek_told : (frames offset : ℕ) → peeked_at (place places h.0) h offset ≡ peek_of (plain_over b places d) (scene_over b places frames) (spot_of at) offset
  peek_told frames offset = by (place places h.0) refl (homed_taken b places kept at h (place_stands b places kept at there) is)
    where
      by : (q : HomePlace) → place places h.0 ≡ q → is_taken q ≡ true → peeked_at q h offset ≡ peek_of (plain_over b places d) (scene_over b places frames) (spot_of at) offset
      by free e t = absurd (cc t)
      by away e t = sym (peek_absent b places kept pages d fits at there (place_stands b places kept at there) (place_tells b places kept pages d fits at there) h is frames offset e)
      by (here words) e t = sym (peek_is b places kept pages d fits at there (place_stands b places kept at there) (place_tells b places kept pages d fits at there) h is frames offset words e)
