-- A fork whose map was emptied ends: what the pages are then.
use Rattle.std.proofs.Common.{◌≡◌, ◌≢◌, ℕ, zero, suc, ◌+◌, ◌-◌, ◌<◌, List, [], ◌∷◌, true, false, cond, Option, None, Some, is_some, length, map, replicate, refl, sym, ◌∙◌, ap, subst, arith}
use Rattle.std.specs.Prelude.{count_by, slice_get, slice_set}
use Rattle.std.specs.FinMap as fin
use Rattle.std.specs.Option.{option_and_then, option_map, option_map_or}
use Rattle.std.proofs.lemmas.List.{length-set, map-set}
use Rattle.std.proofs.lemmas.List.Sums.{sum_by-set}
use Rattle.std.proofs.lemmas.Option.{slice_get-map}
use Rattle.machine_names.specs.declared.names.ForkName.{ForkName}
use Rattle.machine_names.specs.declared.names.PageName.{PageName}
use Rattle.machine_names.specs.declared.names.TheConstants.{SPACE_PAGES}
use Rattle.page_contracts.specs.DrumWords.{DrumWords}
use Rattle.page_contracts.specs.Stores.{HomePlace, StoreMeaning, content, free, is_free, is_taken, here, away, place}
use Rattle.plain_pages.specs.declared.map.MapEntry.TheVariants as map_entry
use Rattle.plain_pages.specs.PlainPages.{Map, Maps, NumberedPages}
use Rattle.plain_pages.specs.Maps.{entry_at}
use Rattle.plain_pages.specs.References.{without_fork}
use Rattle.plain_pages.specs.WholePages.{AreWhole}
use Rattle.pager_walk.specs.declared.map_pages.MapPage.{MapPage}
use Rattle.pager_walk.specs.MapPages.{fork_at, index_of, no_map, root_at}
use Rattle.pager_walk.specs.PagedMaps.{without_root}
use Rattle.pager_walk.proofs.Ended.{content_is, fits_ended, root_is, rooted_ended, whose}
use Rattle.pager_walk.proofs.Looking.{ArePages, taken_map, taken_within}
use Rattle.pager_walk.proofs.NumberedMaps.{fork_within, index_fork}
use Rattle.flat_tables.specs.declared.held_entry.HeldEntry.{HeldEntry}
use Rattle.flat_tables.specs.declared.held_entry.HeldEntry.TheVariants.{Empty, Page, Follows}
use Rattle.flat_tables.specs.HeldMaps as flat
use Rattle.flat_pages.specs.Emptying.{AreFewer}
use Rattle.flat_tables.specs.SlotTables.{Tables as FlatTables, AreTables, plain_of}
use Rattle.flat_tables.specs.TableSteps.{fork_ended}
use Rattle.flat_pages.proofs.Agreement.{tables_whole}
use Rattle.flat_pages.proofs.Ending.{ended_maps, ended_tables, fewer_without, none_named}
use Rattle.flat_tables.proofs.ForkMaps.{fork_within as flat_within}
use Rattle.flat_tables.proofs.LivingMaps.{get_living}
use Rattle.paged_tables.specs.EndedForks.{EmptiesFork, fork_gone}
use Rattle.paged_tables.specs.MapsInMemory.{map_held, maps_in_memory}
use Rattle.paged_tables.specs.PagedPlaces.{page_places}
use Rattle.paged_tables.specs.PagedTables.{Beside, AreKept, FitsPages, in_memory_over, plain_over}
use Rattle.paged_tables.proofs.Homed.{sized}
use Rattle.paged_tables.proofs.Moved.{maps_same}
use Rattle.paged_tables.proofs.Places.{places_set}
use Rattle.paged_tables.proofs.WalksTold.{fork_same}

-- a map's home that is free, and no map's any more, leaves the pages where they are
places_ended : (maps : List MapPage) (places : List HomePlace) (k : ℕ) (f : ForkName) → fork_at maps k ≡ Some f → ((j : ℕ) (g : ForkName) → fork_at maps j ≡ Some g → j ≢ k → (root_at maps j).0 ≢ (root_at maps k).0)
    → page_places (slice_set maps k (record { fork = None; home = root_at maps k })) (slice_set places (root_at maps k).0 free) ≡ page_places maps places
unfolding page_places
places_ended [] places k f e apart = absurd (cc e)
places_ended (m ∷ maps) places zero f e apart =
    places_set maps places m.home.0 free (λ j g h. apart (suc j) g h (λ z. omega (arith, z)))
    ∙ sym (ap (λ o. option_map_or (λ g. slice_set (page_places maps places) m.home.0 free) o (page_places maps places)) e)
places_ended (m ∷ maps) places (suc k) f e apart =
    ap (λ ps. option_map_or (λ g. slice_set ps m.home.0 free) m.fork ps) (places_ended maps places k f e (λ j g h ne. apart (suc j) g h (λ z. ne (omega (arith, z)))))

-- an entry of a list is within it
entry_within : (xs : List HeldEntry) (i : ℕ) (e : HeldEntry) → slice_get xs i ≡ Some e → i < length xs
entry_within [] i e h = absurd (cc h)
entry_within (x ∷ xs) zero e h = omega arith
entry_within (x ∷ xs) (suc i) e h = omega (arith, entry_within xs i e h)

-- entries that are all empty are those of no map
all_empty : (xs : List HeldEntry) → ((i : ℕ) (e : HeldEntry) → slice_get xs i ≡ Some e → e ≡ Empty) → xs ≡ replicate (length xs) Empty
all_empty [] empty = refl
all_empty (x ∷ xs) empty =
    let first : x ≡ Empty = empty 0 x refl in
    let rest = all_empty xs (λ i e h. empty (suc i) e h) in
    λ i. first i ∷ rest i

empty_only : (names : List (Option PageName)) (e : HeldEntry) → Some map_entry.Empty ≡ Some (flat.entry_of names e) → e ≡ Empty
empty_only names Empty h = refl
empty_only names (Page home a) h = absurd (cc h)
empty_only names (Follows l a) h = absurd (cc h)

taken_not : (p : HomePlace) → is_taken p ≡ true → is_free p ≡ false
taken_not free h = absurd (cc h)
taken_not away h = refl
taken_not (here words) h = refl

module _ (b : Beside) (places : List HomePlace) (kept : AreKept b places) (k : ℕ) (f : ForkName) (numbered : index_of b.tables.maps f ≡ Some k) where
  own : fork_at b.tables.maps k ≡ Some f
  own = index_fork b.tables.maps f k numbered

  abbrev root : ℕ
  root = (root_at b.tables.maps k).0

  abbrev after : List HomePlace
  after = slice_set places root free

  abbrev gone : MapPage
  gone = record { fork = None; home = root_at b.tables.maps k }

  within : k < length b.tables.maps
  within = fork_within b.tables.maps k f own

  there : is_taken (place places root) ≡ true
  there = sym (taken_map places root) ∙ kept.rooted.there k f own

  pub one_fewer : count_by (λ (m : MapPage). is_some m.fork) (slice_set b.tables.maps k gone) + 1 ≡ b.living
  one_fewer =
      let s = sum_by-set (λ (m : MapPage). cond (is_some m.fork) 1 0) b.tables.maps k gone no_map within in
      let old : ◌≡◌ {A = ℕ} (cond (is_some (fork_at b.tables.maps k)) 1 0) 1 = ap (λ o. cond (is_some o) 1 0) own in
      omega (arith, s, old, kept.living)

  pub ended_kept : AreKept (fork_gone b k) after
  ended_kept = record {
    rooted = rooted_ended b.tables places kept.rooted k f own;
    filed = kept.filed;
    named = kept.named;
    shared = record { stands = kept.shared.stands; back = kept.shared.back; named = kept.shared.named; homes = kept.shared.homes; room = kept.shared.room; below = kept.shared.below; count = kept.shared.count };
    files = record { within = kept.files.within; homes = kept.files.homes; count = kept.files.count; few = kept.files.few };
    sized = kept.sized;
    living = omega (arith, one_fewer);
    homes = omega (arith, length-set places root free, kept.homes);
    free =
        (let s = sum_by-set (λ (p : HomePlace). cond (is_free p) 1 0) places root free free (taken_within places root there) in
        let old : ◌≡◌ {A = ℕ} (cond (is_free (place places root)) 1 0) 0 = ap (λ c. cond c 1 0) (taken_not (place places root) there) in
        omega (arith, s, old, one_fewer, kept.free));
    few = kept.few;
  }

  module _ (d : DrumWords) (fits : FitsPages b places d) (empties : (page : ℕ) → page < SPACE_PAGES → entry_at (plain_over b places d).maps (record { fork = f; page = page }) ≡ Some map_entry.Empty) where
    abbrev u : FlatTables
    u = in_memory_over b places d

    abbrev q : NumberedPages
    q = plain_over b places d

    abbrev entries : List HeldEntry
    entries = (flat.map_at u.maps k).entries

    is : flat.fork_at u.maps k ≡ Some f
    is = fork_same b.tables places d k ∙ own

    map_there : fin.get q.maps f ≡ Some (map (flat.entry_of b.tables.names) entries)
    map_there = get_living b.tables.names u.maps fits.agree.held.once f k is

    wide : length entries ≡ SPACE_PAGES
    wide = fits.agree.held.pages k (flat_within u.maps k f is)

    empty : (page : ℕ) (e : HeldEntry) → flat.held_entry u.maps (record { map = k; page = page }) ≡ Some e → e ≡ Empty
    empty page e h =
        empty_only b.tables.names e (sym (empties page (omega (arith, entry_within entries page e h, wide)))
        ∙ ap (λ (o : Option Map). option_and_then (λ n. slice_get n page) o) map_there ∙ slice_get-map (flat.entry_of b.tables.names) entries page ∙ ap (option_map (flat.entry_of b.tables.names)) h)

    none_left : flat.no_page ≡ entries
    unfolding flat.no_page
    none_left = sym (all_empty entries (λ page e h. empty page e h) ∙ ap (λ n. replicate n Empty) wide)

    maps_ended : maps_in_memory (without_root b.tables k) (content after d) ≡ slice_set u.maps k (record (flat.map_at u.maps k) { fork = None })
    unfolding maps_in_memory
    maps_ended =
        maps_same b.tables (content places d) (content after d) (without_root b.tables k).maps (λ j g e.
        let x = whose b.tables places kept.rooted k f own j g e in content_is b.tables places kept.rooted k f own d j g x ∙ sym (ap (content places d) (root_is b.tables places kept.rooted k f own j x.0)))
        ∙ map-set (map_held b.tables (content places d)) b.tables.maps k gone
        ∙ (λ i. slice_set (map (map_held b.tables (content places d)) b.tables.maps) k (record { fork = None; entries = none_left i }))

    ended_over : in_memory_over (fork_gone b k) after d ≡ fork_ended u k
    ended_over =
        let pages = places_ended b.tables.maps places k f own (λ j g h ne same. ne (kept.rooted.apart j k g f h own same)) in
        λ i. record u { places = pages i; maps = maps_ended i; living = b.living - 1 }

    pub ended_fits : FitsPages (fork_gone b k) after d
    ended_fits = record {
      maps = fits_ended b.tables places kept.rooted k f own d fits.maps;
      agree = subst AreTables (sym ended_over) (ended_tables u fits.agree k f is empty);
    }

    pub ended_plain : (p : NumberedPages) (m : Map) → AreWhole p → AreWhole q → AreFewer p q f → fin.get p.maps f ≡ Some m → plain_over (fork_gone b k) after d ≡ without_fork p f
    ended_plain p m w v fewer was =
        ap (λ (t : FlatTables). plain_of t d) ended_over ∙ ap (λ (n : Maps). record q { maps = n }) (ended_maps u.maps fits.agree.held k f is b.tables.names)
        ∙ fewer_without p q f m (map (flat.entry_of b.tables.names) entries) w v fewer was map_there (λ n. none_named b.tables.names n entries (λ page e h. empty page e h))

living_map : (b : Beside) (places : List HomePlace) (d : DrumWords) → FitsPages b places d → (k : ℕ) (f : ForkName) → index_of b.tables.maps f ≡ Some k
    → fin.get (plain_over b places d).maps f ≡ Some (map (flat.entry_of b.tables.names) (flat.map_at (in_memory_over b places d).maps k).entries)
living_map b places d fits k f numbered = get_living b.tables.names (in_memory_over b places d).maps fits.agree.held.once f k (fork_same b.tables places d k ∙ index_fork b.tables.maps f k numbered)

pub dropped_told : {S : Type 0} (store : StoreMeaning S) (old mid : S) (b b1 : Beside) (fork : ForkName) (k : ℕ) (kept : AreKept b (store.homes old)) (kept1 : AreKept b1 (store.homes mid)) → ArePages (store.homes old) → ArePages (store.homes mid)
    → index_of b.tables.maps fork ≡ Some k → index_of b1.tables.maps fork ≡ Some k → EmptiesFork store old mid b b1 fork SPACE_PAGES → (d : DrumWords) → FitsPages b (store.homes old) d
    → FitsPages (fork_gone b1 k) (slice_set (store.homes mid) (root_at b1.tables.maps k).0 free) d
    × (plain_over (fork_gone b1 k) (slice_set (store.homes mid) (root_at b1.tables.maps k).0 free) d ≡ without_fork (plain_over b (store.homes old) d) fork)
dropped_told store old mid b b1 fork k kept kept1 pages pages1 numbered now empties d fits =
    let r = empties.told d fits in
    let w = tables_whole (in_memory_over b (store.homes old) d) fits.agree d (sized b (store.homes old) kept pages d fits) in
    let v = tables_whole (in_memory_over b1 (store.homes mid) d) r.0.agree d (sized b1 (store.homes mid) kept1 pages1 d r.0) in (
      ended_fits b1 (store.homes mid) kept1 k fork now d r.0 r.2,
      ended_plain b1 (store.homes mid) kept1 k fork now d r.0 r.2 (plain_over b (store.homes old) d) _ w v r.1 (living_map b (store.homes old) d fits k fork numbered),
    )
