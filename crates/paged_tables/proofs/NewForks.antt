-- A fork that begins to live, with its map.
use Rattle.std.proofs.Common.{◌≡◌, ◌≢◌, ℕ, zero, suc, ◌+◌, ◌<◌, ◌≤◌, List, [], ◌∷◌, true, false, cond, Option, None, Some, is_some, length, map, replicate, refl, sym, ◌∙◌, ap, subst, arith}
use Rattle.std.specs.Prelude.{slice_get, slice_set, nat_eq, nat_lt, count_by, ◌||◌}
use Rattle.std.specs.List.{range_with_len}
use Rattle.std.specs.Option.{option_map_or}
use Rattle.std.specs.FinMap as fin
use Rattle.std.proofs.lemmas.List.{length-map, length-replicate, length-set, map-set, set-set}
use Rattle.std.proofs.lemmas.List.Sums.{sum_by-cons, sum_by-set}
use Rattle.machine_names.specs.declared.names.ForkName.{ForkName}
use Rattle.machine_names.specs.declared.names.Tty.{Tty}
use Rattle.machine_names.specs.declared.names.TheConstants.{LAST_SERIAL, MOST_FORKS, SPACE_PAGES, TERMINALS}
use Rattle.machine_names.specs.Orders.{same_fork}
use Rattle.page_homes.specs.declared.homes.Home.{Home}
use Rattle.page_contracts.specs.DrumWords.{DrumWords}
use Rattle.page_contracts.specs.Stores.{HomePlace, content, free, here, free_homes, is_free, is_taken, place, room_of}
use Rattle.plain_pages.specs.declared.map.MapEntry.TheVariants as entry
use Rattle.plain_pages.specs.PlainPages.{Map}
use Rattle.plain_pages.specs.Maps.{full_access}
use Rattle.pager_walk.specs.declared.map_pages.MapPage.{MapPage}
use Rattle.pager_walk.specs.declared.paged_entry.PagedEntry.{PagedEntry}
use Rattle.pager_walk.specs.declared.paged_entry.PagedEntry.TheVariants as paged
use Rattle.pager_walk.specs.MapPages.{AreNumbered, first_map, fork_at, index_of, no_map, one_later, root_at}
use Rattle.pager_walk.specs.PagedMaps.{Tables, AreRooted, FitsMaps, entry_in, entry_of, plain_entry, with_root, words_in}
use Rattle.pager_walk.proofs.Changing.{content_other, content_same as content_own}
use Rattle.pager_walk.proofs.Looking.{taken_map}
use Rattle.flat_tables.specs.declared.held_entry.HeldEntry.{HeldEntry}
use Rattle.flat_tables.specs.declared.held_entry.HeldEntry.TheVariants.{Empty, Page, Follows}
use Rattle.flat_tables.specs.declared.held_map.HeldMap.{HeldMap}
use Rattle.flat_tables.specs.HeldMaps as flat
use Rattle.flat_tables.specs.SlotTables.{Tables as FlatTables}
use Rattle.flat_tables.specs.TableSteps.{fork_begun}
use Rattle.flat_tables.proofs.Beginning.{AreNew, agrees_begun, lives_begun, others_begun, own_begun, told_begun, unused_new}
use Rattle.flat_tables.proofs.Beginning.{followers_follow}
use Rattle.flat_tables.proofs.Making.{all_living}
use Rattle.pager_walk.specs.NewPages.{following_words}
use Rattle.pager_walk.proofs.Begun.{zero_row}
use Rattle.pager_walk.proofs.Followed.{following_row}
use Rattle.plain_pages.specs.NewMaps.{empty_map}
use Rattle.machine_names.specs.PageWords.{zero_words}
use Rattle.page_contracts.specs.declared.store.Room.TheVariants.{Enough, NeedFrame as NoFrame, Full as NoRoom}
use Rattle.std.proofs.lemmas.Bool.Decides.{nat_tests}
use Rattle.paged_tables.specs.MapsInMemory.{entry_held, in_memory, map_held, maps_in_memory}
use Rattle.paged_tables.specs.PagedPlaces.{page_places}
use Rattle.paged_tables.specs.PagedTables.{Beside, AreKept, FitsPages, in_memory_over, plain_over}
use Rattle.paged_tables.specs.PagedMeaning.{with_fork, lives_in, forks_in}
use Rattle.paged_tables.proofs.Moved.{maps_same}
use Rattle.paged_tables.proofs.Places.{IsNoRoot, place_same, places_set}
use Rattle.paged_tables.proofs.WalksTold.{fork_same, index_same}

set_free : (places : List HomePlace) (h : ℕ) → place places h ≡ free → slice_set places h free ≡ places
set_free [] h e = refl
set_free (p ∷ ps) zero e = λ i. sym e i ∷ ps
set_free (p ∷ ps) (suc h) e = ap (λ qs. p ∷ qs) (set_free ps h e)

-- a map more at a home that was free leaves the pages where they are
places_begun : (maps : List MapPage) (places : List HomePlace) (k : ℕ) (f : ForkName) (home : Home) (p : HomePlace) → k < length maps → fork_at maps k ≡ None → place places home.0 ≡ free → IsNoRoot maps home.0
    → page_places (slice_set maps k (record { fork = Some f; home = home })) (slice_set places home.0 p) ≡ page_places maps places
unfolding page_places
places_begun [] places k f home p within none was apart = absurd (omega (arith, within))
places_begun (m ∷ maps) places zero f home p within none was apart =
    ap (λ ps. slice_set ps home.0 free) (places_set maps places home.0 p rest) ∙ set-set (page_places maps places) home.0 p free
    ∙ set_free (page_places maps places) home.0 (place_same maps places home.0 rest ∙ was)
    ∙ sym (ap (λ o. option_map_or (λ g. slice_set (page_places maps places) m.home.0 free) o (page_places maps places)) none)
  where
    rest : IsNoRoot maps home.0
    rest j g e = apart (suc j) g e
places_begun (m ∷ maps) places (suc k) f home p within none was apart =
    ap (λ ps. option_map_or (λ g. slice_set ps m.home.0 free) m.fork ps) (places_begun maps places k f home p (omega (arith, within)) none was (λ j g e. apart (suc j) g e))

-- entries that name no page, and look first at no map
abbrev pub IsBare : HeldEntry → Type 0
IsBare Empty = Unit {0}
IsBare (Page h a) = ⊥
IsBare (Follows l a) = l.map ≡ 0

abbrev pub AreBare : List HeldEntry → Type 0
AreBare [] = Unit {0}
AreBare (e ∷ es) = IsBare e × AreBare es

-- a word stands for an entry that names no page where it does so in the plain maps
module _ (t : Tables) where
  one_bare : (o : Option PagedEntry) (e : HeldEntry) → IsBare e → option_map_or (plain_entry t.names) o entry.Empty ≡ flat.entry_of t.names e → option_map_or in_memory o Empty ≡ e
  one_bare None Empty bare same = refl
  one_bare None (Page h a) bare same = absurd bare
  one_bare None (Follows l a) bare same = absurd (cc same)
  one_bare (Some paged.Empty) Empty bare same = refl
  one_bare (Some paged.Empty) (Page h a) bare same = absurd bare
  one_bare (Some paged.Empty) (Follows l a) bare same = absurd (cc same)
  one_bare (Some (paged.Page home b)) Empty bare same = absurd (cc same)
  one_bare (Some (paged.Page home b)) (Page h a) bare same = absurd bare
  one_bare (Some (paged.Page home b)) (Follows l a) bare same = absurd (cc same)
  one_bare (Some (paged.Follows serial page b)) Empty bare same = absurd (cc same)
  one_bare (Some (paged.Follows serial page b)) (Page h a) bare same = absurd bare
  one_bare (Some (paged.Follows serial page b)) (Follows l a) bare same =
      let s : serial ≡ l.serial = cc same in
      let q : page ≡ l.page = cc same in
      let c : b ≡ a = cc same in
      λ i. Follows (record { serial = s i; page = q i; map = sym bare i }) (c i)

  head_of : {A : Type 0} (x y : A) (xs ys : List A) → ◌≡◌ {A = List A} (x ∷ xs) (y ∷ ys) → x ≡ y
  head_of x y xs ys e = cc e

  tail_of : {A : Type 0} (x y : A) (xs ys : List A) → ◌≡◌ {A = List A} (x ∷ xs) (y ∷ ys) → xs ≡ ys
  tail_of x y xs ys e = cc e

  pub each_bare : (ws : List ℕ) (es : List HeldEntry) → AreBare es → map (entry_of t) ws ≡ map (flat.entry_of t.names) es → map (entry_held t) ws ≡ es
  each_bare [] [] bare same = refl
  each_bare [] (e ∷ es) bare same = absurd (cc same)
  each_bare (w ∷ ws) [] bare same = absurd (cc same)
  each_bare (w ∷ ws) (e ∷ es) bare same =
      let one = one_bare (entry_in t w) e bare.0 (head_of (entry_of t w) (flat.entry_of t.names e) (map (entry_of t) ws) (map (flat.entry_of t.names) es) same) in
      let rest = each_bare ws es bare.1 (tail_of (entry_of t w) (flat.entry_of t.names e) (map (entry_of t) ws) (map (flat.entry_of t.names) es) same) in
      λ i. one i ∷ rest i

bare_replicate : (n : ℕ) → AreBare (replicate n Empty)
bare_replicate zero = tt
bare_replicate (suc n) = (tt, bare_replicate n)

pub bare_none : AreBare flat.no_page
unfolding flat.no_page
bare_none = bare_replicate SPACE_PAGES

bare_each : (serial : ℕ) (xs : List ℕ) → AreBare (map (λ page. Follows (record { serial = serial; page = page; map = 0 }) full_access) xs)
bare_each serial [] = tt
bare_each serial (x ∷ xs) = (refl, bare_each serial xs)

pub bare_followers : (serial : ℕ) → AreBare (flat.followers serial 0)
unfolding flat.followers
bare_followers serial = bare_each serial (range_with_len 0 SPACE_PAGES)

-- the home of a new map was no map's
pub free_apart : (t : Tables) (places : List HomePlace) → AreRooted t (map is_taken places) → (h : ℕ) → place places h ≡ free → IsNoRoot t.maps h
free_apart t places rooted h was k f is same = let z : false ≡ true = sym (ap is_taken (ap (place places) same ∙ was)) ∙ (sym (taken_map places (root_at t.maps k).0) ∙ rooted.there k f is) in cc z

module _ (b : Beside) (places : List HomePlace) (kept : AreKept b places) (k : ℕ) (f : ForkName) (home : Home) (words : List ℕ) (below : home.0 < length places) (was : place places home.0 ≡ free)
    (absent : index_of b.tables.maps f ≡ None) (number : fork_at b.tables.maps k ≡ None) (from : first_map f.tty ≤ k) (under : k < first_map f.tty + MOST_FORKS) (terminal : f.tty.0 < TERMINALS) where
  abbrev after : List HomePlace
  after = slice_set places home.0 (here words)

  within : k < length b.tables.maps
  within = omega (arith, kept.rooted.numbered.count, under, terminal)

  apart : IsNoRoot b.tables.maps home.0
  apart = free_apart b.tables places kept.rooted home.0 was

  one_more : b.living + 1 ≡ count_by (λ (m : MapPage). is_some m.fork) (with_fork b k f home).tables.maps
  one_more =
      let s = sum_by-set (λ (m : MapPage). cond (is_some m.fork) 1 0) b.tables.maps k (record { fork = Some f; home = home }) no_map within in
      let old : ◌≡◌ {A = ℕ} (cond (is_some (fork_at b.tables.maps k)) 1 0) 0 = ap (λ o. cond (is_some o) 1 0) number in
      omega (arith, s, old, kept.living)

  pub begun_kept : AreRooted (with_root b.tables k f home) (map is_taken after) → AreKept (with_fork b k f home) after
  begun_kept rooted = record {
    rooted = rooted;
    filed = kept.filed;
    named = kept.named;
    shared = record { stands = kept.shared.stands; back = kept.shared.back; named = kept.shared.named; homes = kept.shared.homes; room = kept.shared.room; below = kept.shared.below; count = kept.shared.count };
    files = record { within = kept.files.within; homes = kept.files.homes; count = kept.files.count; few = kept.files.few };
    sized = kept.sized;
    living = one_more;
    homes = omega (arith, length-set places home.0 (here words), kept.homes);
    free =
        (let s = sum_by-set (λ (p : HomePlace). cond (is_free p) 1 0) places home.0 (here words) free below in
        let old : ◌≡◌ {A = ℕ} (cond (is_free (place places home.0)) 1 0) 1 = ap (λ p. cond (is_free p) 1 0) was in
        omega (arith, s, old, kept.free));
    few = kept.few;
  }

  module _ (d : DrumWords) (fits : FitsPages b places d) (roomy : b.taken + b.living < b.limit) (entries : List HeldEntry) (new : AreNew entries) (m : Map) (is : map (flat.entry_of b.tables.names) entries ≡ m)
      (held : map (entry_held b.tables) words ≡ entries) (fits' : FitsMaps (with_root b.tables k f home) after d) where
    abbrev u : FlatTables
    u = in_memory_over b places d

    maps_begun : maps_in_memory (with_root b.tables k f home) (content after d) ≡ slice_set u.maps k (record { fork = Some f; entries = entries })
    unfolding maps_in_memory
    maps_begun =
        let own : map_held b.tables (content after d) (record { fork = Some f; home = home }) ≡ record { fork = Some f; entries = entries } =
        (λ i. record { fork = Some f; entries = map (entry_held b.tables) (words_in (content_own places d home.0 (here words) below i)) }) ∙ (λ i. record { fork = Some f; entries = held i }) in
        map-set (map_held b.tables (content after d)) b.tables.maps k (record { fork = Some f; home = home })
        ∙ (λ i. slice_set (maps_same b.tables (content places d) (content after d) b.tables.maps (λ j g e. content_other places d home.0 (root_at b.tables.maps j).0 (here words) (apart j g e)) i) k (own i))

    begun_over : in_memory_over (with_fork b k f home) after d ≡ fork_begun u k f entries
    begun_over =
        let pages = places_begun b.tables.maps places k f home (here words) within number was apart in
        λ i. record u { places = pages i; maps = maps_begun i; living = b.living + 1 }

    none_there : flat.fork_at u.maps k ≡ None
    none_there = fork_same b.tables places d k ∙ number

    none_lives : is_some (flat.index_of u.maps f) ≡ false
    none_lives = ap is_some (index_same b.tables places d f ∙ absent)

    pub begun_told : FitsPages (with_fork b k f home) after d × (plain_over (with_fork b k f home) after d ≡ record (plain_over b places d) { maps = fin.insert (plain_over b places d).maps f m })
    begun_told = (
      record { maps = fits'; agree = agrees_begun u fits.agree k f none_there from under terminal none_lives roomy entries new (in_memory_over (with_fork b k f home) after d) begun_over },
      told_begun u fits.agree k f none_there from under terminal none_lives roomy entries new (in_memory_over (with_fork b k f home) after d) begun_over m is d,
    )

-- the same forks, whose maps are empty
unfoldable pub bare_held : List MapPage → List HeldMap
bare_held maps = map (λ m. record { fork = m.fork; entries = flat.no_page }) maps

pub bare_fork : (maps : List MapPage) (k : ℕ) → flat.fork_at (bare_held maps) k ≡ fork_at maps k
unfolding bare_held
bare_fork [] k = refl
bare_fork (m ∷ maps) zero = refl
bare_fork (m ∷ maps) (suc k) = bare_fork maps k

later_same : (o : Option ℕ) → flat.one_later o ≡ one_later o
later_same None = refl
later_same (Some k) = refl

pub bare_index : (maps : List MapPage) (f : ForkName) → flat.index_of (bare_held maps) f ≡ index_of maps f
unfolding bare_held
bare_index [] f = refl
bare_index (m ∷ maps) f = ap (λ o. cond (option_map_or (same_fork f) m.fork false) (Some 0) o) (ap flat.one_later (bare_index maps f) ∙ later_same (index_of maps f))

pub bare_living : (maps : List MapPage) (t : Tty) → flat.living_of (bare_held maps) t ≡ count_by (λ (m : MapPage). option_map_or (λ f. nat_eq f.tty.0 t.0) m.fork false) maps
unfolding bare_held
bare_living [] t = refl
bare_living (m ∷ maps) t =
    sum_by-cons (λ (x : HeldMap). cond (option_map_or (λ f. nat_eq f.tty.0 t.0) x.fork false) 1 0) (record { fork = m.fork; entries = flat.no_page }) (bare_held maps)
    ∙ ap (λ n. cond (option_map_or (λ f. nat_eq f.tty.0 t.0) m.fork false) 1 0 + n) (bare_living maps t)
    ∙ sym (sum_by-cons (λ (x : MapPage). cond (option_map_or (λ f. nat_eq f.tty.0 t.0) x.fork false) 1 0) m maps)

pub bare_length : (maps : List MapPage) → length (bare_held maps) ≡ length maps
unfolding bare_held
bare_length maps = length-map maps (λ m. record { fork = m.fork; entries = flat.no_page })

pub bare_at : (maps : List MapPage) (k : ℕ) → k < length maps → (flat.map_at (bare_held maps) k).entries ≡ flat.no_page
unfolding bare_held
bare_at [] k l = absurd (omega (arith, l))
bare_at (m ∷ maps) zero l = refl
bare_at (m ∷ maps) (suc k) l = bare_at maps k (omega (arith, l))

replicated : (n i : ℕ) (e : HeldEntry) → slice_get (replicate n Empty) i ≡ Some e → e ≡ Empty
replicated zero i e is = absurd (cc is)
replicated (suc n) zero e is = let same : Empty ≡ e = cc is in sym same
replicated (suc n) (suc i) e is = replicated n i e is

empty_entry : (page : ℕ) (e : HeldEntry) → slice_get flat.no_page page ≡ Some e → e ≡ Empty
unfolding flat.no_page
empty_entry page e is = replicated SPACE_PAGES page e is

bare_entry : (maps : List MapPage) (k page : ℕ) (e : HeldEntry) → flat.held_entry (bare_held maps) (record { map = k; page = page }) ≡ Some e → e ≡ Empty
unfolding bare_held
bare_entry [] k page e is = absurd (cc is)
bare_entry (m ∷ maps) zero page e is = empty_entry page e is
bare_entry (m ∷ maps) (suc k) page e is = bare_entry maps k page e is

no_page_length : length flat.no_page ≡ SPACE_PAGES
unfolding flat.no_page
no_page_length = length-replicate SPACE_PAGES Empty

pub bare_are_held : (maps : List MapPage) → AreNumbered maps → flat.AreHeld (bare_held maps)
bare_are_held maps n = record {
  count = bare_length maps ∙ n.count;
  pages = λ k l. ap length (bare_at maps k (omega (arith, l, bare_length maps))) ∙ no_page_length;
  once = λ j k f a b. n.once j k f (sym (bare_fork maps j) ∙ a) (sym (bare_fork maps k) ∙ b);
  from = λ k f a. n.from k f (sym (bare_fork maps k) ∙ a);
  below = λ k f a. n.below k f (sym (bare_fork maps k) ∙ a);
  links = λ at l a h. absurd (let z : Follows l a ≡ Empty = bare_entry maps at.map at.page (Follows l a) h in cc z);
  unused = λ at e none h. bare_entry maps at.map at.page e h;
}

-- where a terminal has fewer than thirty forks some number is no fork's
pub number_free : (b : Beside) → AreNumbered b.tables.maps → (t : Tty) → t.0 < TERMINALS → forks_in b t < MOST_FORKS → ((k : ℕ) → first_map t ≤ k → k < first_map t + MOST_FORKS → fork_at b.tables.maps k ≡ None → ⊥) → ⊥
number_free b n t below few none =
    let most = all_living (bare_held b.tables.maps) (bare_are_held b.tables.maps n) t below (λ k from under is. none k from under (sym (bare_fork b.tables.maps k) ∙ is)) in
    omega (arith, most, bare_living b.tables.maps t, few)

-- who lives then
module _ (b : Beside) (n : AreNumbered b.tables.maps) (k : ℕ) (f : ForkName) (home : Home) (within : k < length b.tables.maps) (absent : index_of b.tables.maps f ≡ None) (number : fork_at b.tables.maps k ≡ None)
    (from : first_map f.tty ≤ k) (under : k < first_map f.tty + MOST_FORKS) where
  abbrev old_held : List HeldMap
  old_held = bare_held b.tables.maps

  held : flat.AreHeld old_held
  held = bare_are_held b.tables.maps n

  inside : k < length old_held
  inside = omega (arith, within, bare_length b.tables.maps)

  unlived : flat.fork_at old_held k ≡ None
  unlived = bare_fork b.tables.maps k ∙ number

  gone : is_some (flat.index_of old_held f) ≡ false
  gone = ap is_some (bare_index b.tables.maps f ∙ absent)

  pub new_entries : AreNew flat.no_page
  new_entries = subst AreNew (bare_at b.tables.maps k within) (unused_new old_held held k inside unlived)

  begun_held : bare_held (with_fork b k f home).tables.maps ≡ slice_set old_held k (record { fork = Some f; entries = flat.no_page })
  unfolding bare_held
  begun_held = map-set (λ m. record { fork = m.fork; entries = flat.no_page }) b.tables.maps k (record { fork = Some f; home = home })

  pub fork_lives : (g : ForkName) → lives_in (with_fork b k f home) g ≡ (same_fork g f || lives_in b g)
  fork_lives g =
      ap is_some (sym (bare_index (with_fork b k f home).tables.maps g)) ∙ ap (λ ms. is_some (flat.index_of ms g)) begun_held
      ∙ lives_begun old_held held k f flat.no_page inside unlived from under gone new_entries g ∙ ap (λ o. same_fork g f || is_some o) (bare_index b.tables.maps g)

  pub forks_more : forks_in (with_fork b k f home) f.tty ≡ forks_in b f.tty + 1
  forks_more = sym (bare_living (with_fork b k f home).tables.maps f.tty) ∙ ap (λ ms. flat.living_of ms f.tty) begun_held ∙ own_begun old_held held k f flat.no_page inside unlived from under gone new_entries
      ∙ ap (λ c. c + 1) (bare_living b.tables.maps f.tty)

  pub forks_others : (t : Tty) → t ≢ f.tty → forks_in (with_fork b k f home) t ≡ forks_in b t
  forks_others t ne = sym (bare_living (with_fork b k f home).tables.maps t) ∙ ap (λ ms. flat.living_of ms t) begun_held ∙ others_begun old_held held k f flat.no_page inside unlived from under gone new_entries t ne ∙ bare_living b.tables.maps t

-- the same entry for each
map_same_entry : {A B : Type 0} (v : A → B) (n : ℕ) (x : A) → map v (replicate n x) ≡ replicate n (v x)
map_same_entry v zero x = refl
map_same_entry v (suc n) x = ap (λ ys. v x ∷ ys) (map_same_entry v n x)

-- the pages of new maps
module _ (t : Tables) where
  pub empty_plain : map (flat.entry_of t.names) flat.no_page ≡ empty_map
  unfolding flat.no_page empty_map
  empty_plain = map_same_entry (flat.entry_of t.names) SPACE_PAGES Empty

  pub empty_entries : map (entry_held t) zero_words ≡ flat.no_page
  empty_entries = each_bare t zero_words flat.no_page bare_none (zero_row t ∙ sym empty_plain)

  pub following_entries : (f : ForkName) → 1 ≤ f.serial → f.serial ≤ LAST_SERIAL → map (entry_held t) (following_words f.serial SPACE_PAGES) ≡ flat.followers f.serial 0
  following_entries f one last = each_bare t (following_words f.serial SPACE_PAGES) (flat.followers f.serial 0) (bare_followers f.serial) (following_row t f.serial one last f refl ∙ sym (followers_follow t.names 0 f))

-- there is room for a map
pub room_there : (b : Beside) (places : List HomePlace) (spare : ℕ) → AreKept b places → b.taken + b.living < b.limit → 0 < spare → room_of (free_homes places) spare 1 ≡ Enough
room_there b places spare kept roomy frame =
    (λ i. cond (no_homes i) NoRoom (cond (nat_lt spare 1) NoFrame Enough)) ∙ ap (λ c. cond c NoFrame Enough) no_frames
  where
    no_homes : nat_lt (free_homes places) 1 ≡ false
    no_homes = grind (arith, nat_tests, kept.free, roomy)

    no_frames : nat_lt spare 1 ≡ false
    no_frames = grind (arith, nat_tests, frame)

-- a fork that doesn't live has no map
pub absent_is : (b : Beside) (f : ForkName) → lives_in b f ≡ false → index_of b.tables.maps f ≡ None
absent_is b f e = by (index_of b.tables.maps f) e
  where
    by : (o : Option ℕ) → is_some o ≡ false → o ≡ None
    by None e = refl
    by (Some k) e = absurd (cc e)
