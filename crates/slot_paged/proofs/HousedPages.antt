-- What holds of pages that have a store, in which the maps are too, and of the plain pages that they stand for.
use Rattle.std.proofs.Common.{◌≡◌, ◌≢◌, inl, inr, ℕ, zero, suc, ◌<◌, List, [], ◌∷◌, true, false, cond, Option, None, Some, is_some, refl, sym, ◌∙◌, ap, subst, arith}
use Rattle.std.specs.Prelude.{◌+◌, IsSome, count_by, nat_eq}
use Rattle.std.specs.FinMap as fin
use Rattle.std.specs.Option.{option_and_then, option_map, option_map_or, unwrap_or}
use Rattle.std.proofs.lemmas.Bool.Decides.{eqb_tells}
use Rattle.std.proofs.lemmas.List.Sums.{sum_by-cons}
use Rattle.machine_names.specs.declared.names.ForkName.{ForkName}
use Rattle.machine_names.specs.declared.names.PageName.{PageName}
use Rattle.machine_names.specs.declared.names.TheConstants.{FILE_PAGES, MOST_FILES}
use Rattle.machine_names.specs.Orders.{FilePage}
use Rattle.page_homes.specs.declared.homes.Home.{Home}
use Rattle.page_contracts.specs.DrumWords.{DrumWords}
use Rattle.page_contracts.specs.Pages.{Agrees, AreHoused, AreThere, Housed, a_map, a_page, home_for}
use Rattle.page_contracts.specs.Stores.{HomePlace, IsSound, StoreMeaning, away, away_at, away_home, away_of, free, here, is_taken, place}
use Rattle.page_contracts.proofs.HomeCounts.{taken_or_free}
use Rattle.plain_pages.specs.WholePages.{AreWhole}
use Rattle.flat_pages.specs.SlotMeaning.{AreTold, sound_within}
use Rattle.flat_tables.specs.SlotTouches.{home_named}
use Rattle.flat_pages.proofs.Agreement.{tables_whole}
use Rattle.flat_tables.proofs.FiledHomes.{get_filed}
use Rattle.flat_pages.proofs.Telling.{named_home, tables_told}
use Rattle.flat_pages.proofs.Touching.{home_is}
use Rattle.pager_walk.specs.declared.map_pages.MapPage.{MapPage}
use Rattle.pager_walk.specs.MapPages.{fork_at, index_of, root_at}
use Rattle.pager_walk.specs.PagedMaps.{map_away, name_at, name_of, nobody}
use Rattle.pager_walk.proofs.Looking.{root_taken, taken_map}
use Rattle.pager_walk.proofs.NumberedMaps.{index_fork, searched}
use Rattle.paged_tables.specs.PagedMeaning.{forks_in, lives_in}
use Rattle.paged_tables.specs.PagedSlots.{filed_over, map_home_over, paged_slots}
use Rattle.paged_tables.specs.PagedTables.{Beside, AreKept, FitsPages, in_memory_over, plain_over}
use Rattle.paged_tables.proofs.Homed.{flat_pages, sized}
use Rattle.paged_tables.proofs.Places.{content_same, fits_places}
use Rattle.paged_tables.proofs.Touched.{named_apart}
use Rattle.paged_tables.proofs.WalksTold.{index_same}

-- what is away is at a home that is
pub away_is : (places : List HomePlace) (h home : ℕ) → away_at places h ≡ Some home → place places home ≡ away
away_is places h home e = by (place places h) refl e
  where
    by : (p : HomePlace) → place places h ≡ p → away_home p h ≡ Some home → place places home ≡ away
    by free is k = absurd (cc k)
    by away is k = let same : h ≡ home = cc k in ap (place places) (sym same) ∙ is
    by (here words) is k = absurd (cc k)

-- so has a home
away_some : (places : List HomePlace) (o : Option ℕ) (home : ℕ) → option_and_then (away_at places) o ≡ Some home → (is_some o ≡ true) × (place places home ≡ away)
away_some places None home e = absurd (cc e)
away_some places (Some h) home e = (refl, away_is places h home e)

-- a terminal of which no fork lives has none of that name
none_counted : (maps : List MapPage) (f : ForkName) → count_by (λ (m : MapPage). option_map_or (λ g. nat_eq g.tty.0 f.tty.0) m.fork false) maps ≡ 0 → (k : ℕ) → fork_at maps k ≢ Some f
none_counted [] f none k e = cc e
none_counted (m ∷ maps) f none zero e =
    let one : ◌≡◌ {A = ℕ} (cond (option_map_or (λ g. nat_eq g.tty.0 f.tty.0) m.fork false) 1 0) 1 = ap (λ (o : Option ForkName). cond (option_map_or (λ g. nat_eq g.tty.0 f.tty.0) o false) 1 0) e ∙ itself f.tty.0 in
    (omega (arith, none, one, sum_by-cons (λ (x : MapPage). cond (option_map_or (λ g. nat_eq g.tty.0 f.tty.0) x.fork false) 1 0) m maps))
  where
    itself : (n : ℕ) → ◌≡◌ {A = ℕ} (cond (nat_eq n n) 1 0) 1
    itself n = elim (eqb_tells n n) [ inl t ↦ ap (λ b. cond b 1 0) t.0 | inr t ↦ absurd (t.1 refl) ]
none_counted (m ∷ maps) f none (suc k) e = none_counted maps f (omega (arith, none, sum_by-cons (λ (x : MapPage). cond (option_map_or (λ g. nat_eq g.tty.0 f.tty.0) x.fork false) 1 0) m maps)) k e

pub paged_alone : (b : Beside) (f : ForkName) → forks_in b f.tty ≡ 0 → lives_in b f ≡ false
paged_alone b f none = elim (searched b.tables.maps f) [ inl r ↦ absurd (none_counted b.tables.maps f none r.0 r.2) | inr r ↦ ap is_some r.0 ]

-- the home of a fork's map is that of the map of its number
map_stands : (b : Beside) (f : ForkName) (home : ℕ) → map_home_over b f ≡ Some home → (k : ℕ) × (index_of b.tables.maps f ≡ Some k) × ((root_at b.tables.maps k).0 ≡ home)
map_stands b f home is = by (index_of b.tables.maps f) refl is
  where
    by : (o : Option ℕ) → index_of b.tables.maps f ≡ o → option_map (λ k. (root_at b.tables.maps k).0) o ≡ Some home → (k : ℕ) × (index_of b.tables.maps f ≡ Some k) × ((root_at b.tables.maps k).0 ≡ home)
    by None at e = absurd (cc e)
    by (Some k) at e = (k, at, cc e)

-- exactly the maps of forks that live have homes
maps_living : (b : Beside) (f : ForkName) → is_some (map_home_over b f) ≡ lives_in b f
maps_living b f = by (index_of b.tables.maps f)
  where
    by : (o : Option ℕ) → is_some (option_map (λ k. (root_at b.tables.maps k).0) o) ≡ is_some o
    by None = refl
    by (Some k) = refl

module _ (b : Beside) (places : List HomePlace) (kept : AreKept b places) where
  -- the home of a map is taken, and is that of no other map and of no page
  map_taken : (f : ForkName) (home : ℕ) → map_home_over b f ≡ Some home → is_taken (place places home) ≡ true
  map_taken f home is = let k = map_stands b f home is in ap (λ h. is_taken (place places h)) (sym k.2) ∙ root_taken b.tables places kept.rooted f k.0 k.1

  maps_apart : (f g : ForkName) (home : ℕ) → map_home_over b f ≡ Some home → map_home_over b g ≡ Some home → f ≡ g
  maps_apart f g home is it =
      let j = map_stands b f home is in
      let k = map_stands b g home it in
      let own = index_fork b.tables.maps f j.0 j.1 in
      let other = index_fork b.tables.maps g k.0 k.1 in
      let same : j.0 ≡ k.0 = kept.rooted.apart j.0 k.0 f g own other (j.2 ∙ sym k.2) in
      let z : Some f ≡ Some g = sym own ∙ ap (fork_at b.tables.maps) same ∙ other in cc z

  map_no_page : (f : ForkName) (n : PageName) (home : ℕ) → map_home_over b f ≡ Some home → home_named b.tables.names n ≡ Some home → ⊥
  map_no_page f n home is it =
      let k = map_stands b f home is in
      let z : None ≡ Some n = sym (kept.rooted.unnamed k.0 f (index_fork b.tables.maps f k.0 k.1)) ∙ ap (name_at b.tables.names) k.2 ∙ named_home b.tables.names n home it in cc z

  -- as many homes are taken as pages and forks live
  homes_taken : count_by is_taken places ≡ b.taken + b.living
  homes_taken = omega (arith, taken_or_free places, kept.free, kept.homes)

  -- the home of a page that has a name
  pub named_is : (home : ℕ) (n : PageName) → name_at b.tables.names home ≡ Some n → home_named b.tables.names n ≡ Some home
  named_is home n named = home_is b.tables.names home n named (λ j e. kept.named.once j home n e named)

  named_taken : (n : PageName) (home : ℕ) → home_named b.tables.names n ≡ Some home → is_taken (place places home) ≡ true
  named_taken n home is = sym (taken_map places home) ∙ kept.rooted.named home (ap is_some (named_home b.tables.names n home is))

  pub some_named : (h : ℕ) (n : PageName) (o : Option PageName) → name_at b.tables.names h ≡ o → is_some o ≡ true → unwrap_or o nobody ≡ n → name_at b.tables.names h ≡ Some n
  some_named h n None is some same = absurd (cc some)
  some_named h n (Some m) is some same = is ∙ ap Some same

  filed_is : (f : FilePage ℕ) (n : PageName) → filed_over b f ≡ Some n → (f.file < MOST_FILES) × (f.page < FILE_PAGES) × IsSome (home_named b.tables.names n)
  filed_is f n is = by (fin.get b.files f) refl (sym (get_filed b.tables.names b.files f) ∙ is)
    where
      by : (o : Option Home) → fin.get b.files f ≡ o → option_map (name_of b.tables.names) o ≡ Some n → (f.file < MOST_FILES) × (f.page < FILE_PAGES) × IsSome (home_named b.tables.names n)
      by None filed k = absurd (cc k)
      by (Some h) filed k =
          let bounds = kept.files.within f h filed in
          let same : name_of b.tables.names h ≡ n = cc k in
          let named = some_named h.0 n (name_at b.tables.names h.0) refl (kept.filed f h filed) same in
          (bounds.0, bounds.1, subst IsSome (sym (named_is h.0 n named)) refl)

  apart_are : (n m : PageName) (home : ℕ) → home_named b.tables.names n ≡ Some home → home_named b.tables.names m ≡ Some home → n ≡ m
  apart_are n m home is it = let z : Some n ≡ Some m = sym (named_home b.tables.names n home is) ∙ named_home b.tables.names m home it in cc z

  map_homes_are : (f : ForkName) → map_away b.tables places f ≡ away_of places (map_home_over b f)
  map_homes_are f = by (index_of b.tables.maps f)
    where
      by : (o : Option ℕ) → option_and_then (λ k. away_at places (root_at b.tables.maps k).0) o ≡ away_of places (option_map (λ k. (root_at b.tables.maps k).0) o)
      by None = refl
      by (Some k) = refl

  map_is_away : (f : ForkName) (home : ℕ) → map_away b.tables places f ≡ Some home → (lives_in b f ≡ true) × (place places home ≡ away)
  map_is_away f home e = by (index_of b.tables.maps f) e
    where
      by : (o : Option ℕ) → option_and_then (λ k. away_at places (root_at b.tables.maps k).0) o ≡ Some home → (is_some o ≡ true) × (place places home ≡ away)
      by None k = absurd (cc k)
      by (Some j) k = (refl, away_is places (root_at b.tables.maps j).0 home k)

module _ {P S : Type 0} (store : StoreMeaning S) (part : P → S) (beside : P → Beside) (p : P) (kept : AreKept (beside p) (store.homes (part p))) (sound : IsSound store (part p)) where
  abbrev b : Beside
  b = beside p

  abbrev places : List HomePlace
  places = store.homes (part p)

  housed_taken : (x : Housed) (home : ℕ) → home_for (paged_slots store part beside) p x ≡ Some home → is_taken (place places home) ≡ true
  housed_taken (a_page n) home is = named_taken b places kept n home is
  housed_taken (a_map f) home is = map_taken b places kept f home is

  housed_apart : (x y : Housed) (home : ℕ) → home_for (paged_slots store part beside) p x ≡ Some home → home_for (paged_slots store part beside) p y ≡ Some home → x ≡ y
  housed_apart (a_page n) (a_page m) home is it = ap a_page (apart_are b places kept n m home is it)
  housed_apart (a_page n) (a_map f) home is it = absurd (map_no_page b places kept f n home it is)
  housed_apart (a_map f) (a_page n) home is it = absurd (map_no_page b places kept f n home is it)
  housed_apart (a_map f) (a_map g) home is it = ap a_map (maps_apart b places kept f g home is it)

  -- the pages and maps stand in the store
  pub paged_housed : AreHoused (paged_slots store part beside) p
  paged_housed = record {
    sound = sound_within store part p sound;
    maps = λ f home is. (map_is_away b places kept f home is).1;
    pages = λ n home is. (away_some places (home_named b.tables.names n) home is).1;
    map_homes = map_homes_are b places kept;
    page_homes = λ n. refl;
    taken = housed_taken;
    apart = housed_apart;
    mapped = maps_living b;
    filed = filed_is b places kept;
    frames = refl;
    homes = kept.homes;
    flat = refl;
  }

  module _ (d : DrumWords) (fits : FitsPages (beside p) (store.homes (part p)) d) where
    memory_told : AreTold (in_memory_over b places d)
    memory_told = tables_told (in_memory_over b places d) fits.agree (flat_pages b places kept sound.pages d fits)

    -- the plain pages have the numbers that are told
    pub paged_agrees : Agrees (paged_slots store part beside) p (plain_over (beside p) (store.homes (part p)) d)
    paged_agrees =
        let drum = fits_places b.tables.maps places d fits.maps.drum in
        let living : (f : ForkName) → lives_in b f ≡ fin.contains_key (plain_over b places d).maps f = λ f. ap is_some (sym (index_same b.tables places d f)) ∙ memory_told.lives f in
        record {
          living = living;
          filed = refl;
          next = λ t owner. refl;
          number = memory_told.number d drum;
          bound = refl;
          room = memory_told.room d drum;
          housed = λ n. memory_told.housed d n drum;
          taken = homes_taken b places kept ∙ memory_told.number d drum;
          absent_pages = λ n home is. sym (memory_told.housed d n drum) ∙ (away_some places (home_named b.tables.names n) home is).0;
          absent_maps = λ f home is. sym (living f) ∙ (map_is_away b places kept f home is).0;
        }

    -- and are whole
    pub paged_whole : AreWhole (plain_over (beside p) (store.homes (part p)) d)
    paged_whole = tables_whole (in_memory_over b places d) fits.agree d (sized b places kept sound.pages d fits)

    -- each page has the words that are at its home
    pub paged_there : AreThere (paged_slots store part beside) p d
    paged_there n home is =
        memory_told.words d n home is
        ∙ content_same b.tables.maps places d home (named_apart b places kept.rooted home (ap is_some (named_home b.tables.names n home is)))
