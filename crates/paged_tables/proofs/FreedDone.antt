-- An entry was set that alone named a page, which was given up.
use Rattle.std.proofs.Common.{◌≡◌, ◌≢◌, inl, inr, ℕ, ◌<◌, List, Bool, true, false, Option, None, Some, is_some, map, refl, sym, ◌∙◌, ap, subst, arith}
use Rattle.std.specs.Prelude.{slice_index_or, slice_set, ◌&&◌, ◌==◌}
use Rattle.std.specs.FinMap as fin
use Rattle.std.specs.Option.{option_and_then}
use Rattle.std.proofs.lemmas.Bool.{cases_eq}
use Rattle.std.proofs.lemmas.Bool.Decides.{eqb_tells}
use Rattle.std.proofs.lemmas.List.{get_or-set_same, get_or-set_other}
use Rattle.machine_names.specs.declared.names.Access.{Access}
use Rattle.machine_names.specs.declared.names.ForkName.{ForkName}
use Rattle.machine_names.specs.declared.names.PageName.{PageName}
use Rattle.machine_names.specs.declared.names.Slot.{Slot}
use Rattle.machine_names.specs.declared.names.TheConstants.{SPACE_PAGES}
use Rattle.page_homes.specs.declared.homes.Home.{Home}
use Rattle.page_contracts.specs.DrumWords.{DrumWords}
use Rattle.page_contracts.specs.Pages.{StaysInCore}
use Rattle.page_contracts.specs.Stores.{HomePlace, FitsHomes, StoreMeaning, away_at, away_home, content, free, is_taken, place, traffic, with_word_in}
use Rattle.page_contracts.proofs.Losing.{freed_none, freed_stays, loses_freed, loses_on, loses_used, renews_left, used_there}
use Rattle.plain_pages.specs.References.{with_entry as entry_put}
use Rattle.share_table.specs.declared.pointer.Pointer.{Pointer}
use Rattle.share_table.specs.Pointers.{IsPointer, pointer_word}
use Rattle.pager_walk.specs.declared.paged_entry.Looked.TheVariants.{Is}
use Rattle.pager_walk.specs.declared.paged_entry.PagedEntry.{PagedEntry}
use Rattle.pager_walk.specs.declared.paged_entry.PagedEntry.TheVariants as paged
use Rattle.pager_walk.specs.declared.map_pages.MapPage.{MapPage}
use Rattle.pager_walk.specs.MapPages.{fork_at, index_of, root_at}
use Rattle.pager_walk.specs.PagedMaps.{FitsMaps, Tables, entry_in, is_near, look_at, map_away, name_at, plain_entry}
use Rattle.pager_walk.specs.Walks.{IsNearSlot}
use Rattle.pager_walk.proofs.Changing.{content_other, content_same, entry_back, fits_still, pointer_put}
use Rattle.pager_walk.proofs.Looking.{ArePages, taken_map, taken_within}
use Rattle.pager_walk.proofs.NumberedMaps.{index_fork}
use Rattle.flat_tables.specs.declared.held_entry.EntryAt.{EntryAt}
use Rattle.flat_tables.specs.declared.held_entry.HeldEntry.{HeldEntry}
use Rattle.flat_tables.specs.declared.held_entry.HeldEntry.TheVariants.{Page, Follows}
use Rattle.flat_tables.specs.declared.held_entry.Link.{Link}
use Rattle.flat_tables.specs.HeldMaps as flat
use Rattle.flat_tables.specs.TableSteps.{home_freed}
use Rattle.flat_tables.specs.Walks.{slot_of}
use Rattle.flat_tables.proofs.HeldEntries.{points_self, total_le, total_with}
use Rattle.flat_pages.proofs.Leaving.{freed_tables}
use Rattle.flat_tables.proofs.Making.{some_lives}
use Rattle.flat_pages.proofs.Settled.{slot_lives}
use Rattle.flat_pages.proofs.Told.{entry_still, none_else}
use Rattle.flat_tables.specs.SlotTables.{Tables as FlatTables, AreTables, files_held, filed_total, share_of}
use Rattle.flat_tables.specs.SlotTouches.{home_named}
use Rattle.flat_tables.proofs.FiledHomes.{files_still}
use Rattle.flat_pages.proofs.Telling.{named_home}
use Rattle.flat_pages.proofs.Touching.{home_is}
use Rattle.paged_tables.specs.MapsInMemory.{in_memory, maps_in_memory}
use Rattle.paged_tables.specs.PagedPlaces.{page_places}
use Rattle.paged_tables.specs.PagedTables.{Beside, AreKept, FitsPages, in_memory_over, plain_over}
use Rattle.paged_tables.specs.PagedTouches.{has_one_name, names_at, scene_over}
use Rattle.paged_tables.specs.PagedSlots.{filed_over}
use Rattle.paged_tables.specs.SetEntries.{FreesPage, SetsSlot, UsesMapOf, bare_entry, page_freed}
use Rattle.paged_tables.proofs.UsedPlaces.{uses_map}
use Rattle.paged_tables.proofs.BarePointers.{bare_follows, bare_nothing, bare_stands}
use Rattle.paged_tables.proofs.Counted.{counts_at}
use Rattle.paged_tables.proofs.EntryLooks.{sets_one}
use Rattle.paged_tables.proofs.EntryPut.{Held, held_at, memory_put}
use Rattle.paged_tables.proofs.FreedWords.{fits_without, memory_without}
use Rattle.paged_tables.proofs.Moved.{maps_fit, memory_same}
use Rattle.paged_tables.proofs.NearEntries.{near_on}
use Rattle.paged_tables.proofs.Places.{places_set, root_set}
use Rattle.paged_tables.proofs.SlotTold.{slot_told}
use Rattle.paged_tables.proofs.WalksTold.{maps, slot_is}
use Rattle.paged_tables.proofs.FreedPages.{freed_below, freed_counts, places'}
use Rattle.paged_tables.proofs.RenamedDone.{one_unfiled}
use Rattle.paged_tables.proofs.RenamedPages.{one_named}
use Rattle.paged_tables.proofs.StillScenes.{away_put}
use Rattle.paged_tables.proofs.Touched.{named_apart}

module _ (b : Beside) (places : List HomePlace) (kept : AreKept b places) (home : Home) (one : has_one_name b home.0 ≡ true) where
  apart : (k : ℕ) (f : ForkName) → fork_at b.tables.maps k ≡ Some f → (root_at b.tables.maps k).0 ≢ home.0
  apart = named_apart b places kept.rooted home.0 (one_named b home.0 one)

  abbrev mid : List HomePlace
  mid = places' b places kept home one

  roots : (j : ℕ) (g : ForkName) → fork_at b.tables.maps j ≡ Some g → place mid (root_at b.tables.maps j).0 ≡ place places (root_at b.tables.maps j).0
  roots j g has = get_or-set_other places home.0 (root_at b.tables.maps j).0 free free (apart j g has)

  -- the entry can be looked at still
  pub freed_near : (at : Slot) → is_near (look_at b.tables places at) ≡ true → is_near (look_at (page_freed b home).tables mid at) ≡ true
  freed_near at near = near_on b.tables (page_freed b home).tables places mid at refl (λ k is. roots k at.fork (index_fork b.tables.maps at.fork k is)) near

module _ {S : Type 0} (store : StoreMeaning S) (old new : S) (b b' : Beside) (kept : AreKept b (store.homes old)) (kept' : AreKept b' (store.homes new)) (pages : ArePages (store.homes old)) (pages' : ArePages (store.homes new)) (home : Home) (one : has_one_name b home.0 ≡ true)
    (at : Slot) (near : IsNearSlot b.tables (store.homes old) at) (a : Access) (looks : look_at b.tables (store.homes old) at ≡ Is (paged.Page home a)) (pointer : Pointer) (valid : IsPointer pointer) (p : PagedEntry) (bare : bare_entry pointer ≡ Some p)
    (z : FreesPage store old new b b' home at pointer) where
  abbrev places : List HomePlace
  places = store.homes old

  abbrev t' : Tables
  t' = (page_freed b home).tables

  abbrev word : ℕ
  word = pointer_word pointer

  abbrev root : ℕ
  root = (root_at b.tables.maps z.number).0

  abbrev less : List HomePlace
  less = places' b places kept home one

  own_fork : fork_at b.tables.maps z.number ≡ Some at.fork
  own_fork = index_fork b.tables.maps at.fork z.number z.numbered

  roots_stay : (j : ℕ) (g : ForkName) → fork_at b.tables.maps j ≡ Some g → place less (root_at b.tables.maps j).0 ≡ place places (root_at b.tables.maps j).0
  roots_stay = roots b places kept home one

  homes_are : store.homes new ≡ slice_set less root (with_word_in (place less root) at.page word)
  homes_are = z.homes ∙ ap (λ ps. slice_set ps root (with_word_in (place ps root) at.page word)) z.freed.homes

  stands : entry_in t' word ≡ Some p
  stands = entry_back t' pointer valid ∙ bare_stands t' pointer p bare

  look_now : look_at b'.tables (store.homes new) at ≡ Is p
  look_now = (λ i. look_at (z.beside i).tables (homes_are i) at) ∙ (sets_one b places less kept pages at near z.number z.numbered roots_stay word t'.names t'.shares p stands).own

  away_other : (k : ℕ) → k ≢ home.0 → away_at (store.homes new) k ≡ away_at places k
  away_other k ne = ap (λ ps. away_at ps k) homes_are ∙ away_put less root at.page word k ∙ ap (λ q. away_home q k) (get_or-set_other places home.0 k free free ne)

  maps_in_core : (f : ForkName) → map_away b.tables places f ≡ None → map_away b'.tables (store.homes new) f ≡ None
  maps_in_core f none = ap (λ (x : Beside). map_away x.tables (store.homes new) f) z.beside ∙ by (index_of b.tables.maps f) refl none
    where
      by : (o : Option ℕ) → index_of b.tables.maps f ≡ o → option_and_then (λ k. away_at places (root_at b.tables.maps k).0) o ≡ None → option_and_then (λ k. away_at (store.homes new) (root_at b.tables.maps k).0) (index_of b.tables.maps f) ≡ None
      by None is e = ap (option_and_then (λ k. away_at (store.homes new) (root_at b.tables.maps k).0)) is
      by (Some k) is e = ap (option_and_then (λ j. away_at (store.homes new) (root_at b.tables.maps j).0)) is ∙ away_other (root_at b.tables.maps k).0 (apart b places kept home one k f (index_fork b.tables.maps f k is)) ∙ e

  names_are : b'.tables.names ≡ t'.names
  names_are = ap (λ (x : Beside). x.tables.names) z.beside

  named_before : (k : ℕ) (n : PageName) → name_at t'.names k ≡ Some n → (k ≢ home.0) × (name_at b.tables.names k ≡ Some n)
  named_before k n e = elim (cases_eq k home.0) [
    | inl same ↦ absurd (let x : None ≡ Some n = sym (get_or-set_same b.tables.names home.0 None None (freed_below b places kept home one)) ∙ ap (name_at t'.names) (sym same) ∙ e in cc x)
    | inr other ↦ (other, sym (get_or-set_other b.tables.names home.0 k None None other) ∙ e)
  ]

  pages_in_core : (n : PageName) → option_and_then (away_at places) (home_named b.tables.names n) ≡ None → option_and_then (away_at (store.homes new)) (home_named b'.tables.names n) ≡ None
  pages_in_core n none = ap (λ ns. option_and_then (away_at (store.homes new)) (home_named ns n)) names_are ∙ by (home_named t'.names n) refl
    where
      by : (o : Option ℕ) → home_named t'.names n ≡ o → option_and_then (away_at (store.homes new)) (home_named t'.names n) ≡ None
      by None is = ap (option_and_then (away_at (store.homes new))) is
      by (Some k) is =
          let x = named_before k n (named_home t'.names n k is) in
          let was : home_named b.tables.names n ≡ Some k = home_is b.tables.names k n x.1 (λ j f. kept.named.once j k n f x.1) in
          ap (option_and_then (away_at (store.homes new))) is ∙ away_other k x.0 ∙ sym (ap (option_and_then (away_at places)) was) ∙ none

  core_stays : StaysInCore (scene_over b places (store.spare old)) (scene_over b' (store.homes new) (store.spare new)) 0
  core_stays = record { maps = maps_in_core; pages = pages_in_core; frames = omega (arith, z.freed.spare, z.used.framed.spare) }

  uses_maps : UsesMapOf store old new b' at.fork
  uses_maps = uses_map store old new b b' at.fork z.number z.numbered (ap (λ (x : Beside). x.tables.maps) z.beside)
      (renews_left (traffic store old) (traffic store z.mid) (traffic store new) root (freed_none store old z.mid home.0 z.freed)
      (freed_stays store old z.mid home.0 root (apart b places kept home one z.number at.fork (index_fork b.tables.maps at.fork z.number z.numbered)) z.freed) (used_there store z.mid new root z.used))

  unfiled : filed_total home.0 b.files ≡ 0
  unfiled = omega (arith, one_unfiled b home.0 one, kept.files.count home.0)

  name_other : (k : ℕ) → k ≢ home.0 → name_at t'.names k ≡ name_at b.tables.names k
  name_other k ne = get_or-set_other b.tables.names home.0 k None None ne

  files_same : files_held t'.names b.files ≡ files_held b.tables.names b.files
  files_same = files_still b.tables.names t'.names b.files home.0 unfiled name_other

  -- over the words of a drum that fits
  module _ (d : DrumWords) (fits : FitsPages b places d) where
    abbrev u : FlatTables
    u = in_memory_over b places d

    abbrev e : EntryAt
    e = record { map = z.number; page = at.page }

    slot : slot_of (maps b.tables places d) e ≡ Some at
    slot = slot_is b.tables places d at z.number z.numbered

    held : flat.held_entry u.maps e ≡ Some (Page home a)
    held = by (held_at b places kept pages d fits at near e slot)
      where
        by : Held b places d at e → flat.held_entry u.maps e ≡ Some (Page home a)
        by h = h.held ∙ ap (λ x. Some (in_memory x)) (let y : Is h.entry ≡ Is (paged.Page home a) = sym h.look ∙ looks in let same : h.entry ≡ paged.Page home a = cc y in same)

    one_share : share_of u.shares home.0 ≡ 1
    one_share = counts_at b.tables.shares b.tables.names b.shared home.0 ∙ first (names_at b home.0) (share_of b.filed home.0 == 0) one
      where
        first : (n : ℕ) (c : Bool) → ((n == 1) && c) ≡ true → n ≡ 1
        first n c k = elim (eqb_tells n 1) [ inl t ↦ t.1 | inr t ↦ absurd (let y : false ≡ true = sym (ap (λ x. x && c) t.0) ∙ k in cc y) ]

    nothing : (k : ℕ) → flat.points_at k (in_memory p) ≡ 0
    nothing = bare_nothing pointer p bare

    follows_in : (l : Link) (c : Access) → in_memory p ≡ Follows l c → l.page < SPACE_PAGES
    follows_in = bare_follows pointer p bare valid

    lives : flat.fork_at u.maps e.map ≢ None
    lives = some_lives (flat.fork_at u.maps e.map) (slot_lives u.maps e at slot)

    abbrev after : FlatTables
    after = home_freed u e home (in_memory p)

    agree : AreTables after
    agree = freed_tables u fits.agree e (Page home a) (in_memory p) held follows_in (λ none. absurd (lives none)) nothing home a refl one_share

    -- the word put before the page goes
    abbrev first_places : List HomePlace
    first_places = slice_set places root (with_word_in (place places root) at.page word)

    stands_first : entry_in b.tables word ≡ Some p
    stands_first = entry_back b.tables pointer valid ∙ bare_stands b.tables pointer p bare

    first_fits : FitsMaps b.tables first_places d
    first_fits = (pointer_put b.tables places first_places at z.number pointer kept.rooted z.numbered near.near valid (ap is_some (bare_stands b.tables pointer p bare)) refl).fits d fits.maps

    first_maps : maps_in_memory b.tables (content first_places d) ≡ flat.with_entry u.maps e (in_memory p)
    first_maps = memory_put b places places kept at near z.number z.numbered (λ j g k. refl) word pages d fits (λ j g k. refl) e slot b.tables refl (λ x s. refl) p stands_first

    -- each map has the same words then
    same_content : (k : ℕ) (f : ForkName) → fork_at b.tables.maps k ≡ Some f → content (store.homes new) d (root_at b.tables.maps k).0 ≡ content first_places d (root_at b.tables.maps k).0
    same_content k f has =
        let r = (root_at b.tables.maps k).0 in
        ap (λ ps. content ps d r) homes_are
        ∙ ap (λ q. content (slice_set less root (with_word_in q at.page word)) d r) (roots_stay z.number at.fork own_fork)
        ∙ elim (cases_eq r root) [
          | inl same ↦ ap (content (slice_set less root (with_word_in (place places root) at.page word)) d) same
              ∙ (content_same less d root (with_word_in (place places root) at.page word) (taken_within less root (ap is_taken (roots_stay z.number at.fork own_fork) ∙ root_there)) ∙ sym (content_same places d root (with_word_in (place places root) at.page word) (taken_within places root root_there)))
              ∙ sym (ap (content first_places d) same)
          | inr other ↦ content_other less d root r (with_word_in (place places root) at.page word) other ∙ content_other places d home.0 r free (apart b places kept home one k f has) ∙ sym (content_other places d root r (with_word_in (place places root) at.page word) other)
        ]
      where
        root_there : is_taken (place places root) ≡ true
        root_there = sym (taken_map places root) ∙ kept.rooted.there z.number at.fork own_fork

    drum : FitsHomes (store.homes new) d
    drum = subst (λ (ps : List HomePlace). FitsHomes ps d) (sym homes_are) (fits_still less d root (with_word_in (place less root) at.page word) (fits_still places d home.0 free fits.maps.drum))

    new_fits : FitsMaps b.tables (store.homes new) d
    new_fits = maps_fit b.tables first_places (store.homes new) d d first_fits drum same_content

    new_maps : maps_in_memory b.tables (content (store.homes new) d) ≡ flat.with_entry u.maps e (in_memory p)
    new_maps = memory_same b.tables (content first_places d) (content (store.homes new) d) same_content ∙ first_maps

    -- no entry names the page any more
    total_none : flat.entries_total (flat.points_at home.0) (flat.with_entry u.maps e (in_memory p)) ≡ 0
    total_none = (let w = total_with u.maps e (in_memory p) (flat.points_at home.0) (Page home a) held in let all = fits.agree.shares home.0 in omega (arith, w, all, one_share, nothing home.0, points_self home a))

    none_names : (c : EntryAt) (x : HeldEntry) → flat.held_entry (maps_in_memory b.tables (content (store.homes new) d)) c ≡ Some x → flat.points_at home.0 x ≡ 0
    none_names c x there = (let l = total_le (flat.points_at home.0) (flat.with_entry u.maps e (in_memory p)) c x refl (ap (λ ms. flat.held_entry ms c) (sym new_maps) ∙ there) in omega (arith, l, total_none))

    taken_now : (k : ℕ) (f : ForkName) → fork_at b.tables.maps k ≡ Some f → is_taken (place (store.homes new) (root_at b.tables.maps k).0) ≡ true
    taken_now k f has =
        sym (taken_map (store.homes new) (root_at b.tables.maps k).0)
        ∙ subst (λ (ms : List MapPage). slice_index_or (map is_taken (store.homes new)) (root_at ms k).0 false ≡ true) (ap (λ (x : Beside). x.tables.maps) z.beside) (kept'.rooted.there k f (ap (λ (x : Beside). fork_at x.tables.maps k) z.beside ∙ has))

    freed_fits : FitsMaps t' (store.homes new) d
    freed_fits = fits_without b places kept home one (store.homes new) d new_fits pages' taken_now none_names

    maps_now : maps_in_memory t' (content (store.homes new) d) ≡ flat.with_entry u.maps e (in_memory p)
    maps_now = memory_without b places kept home one (store.homes new) d new_fits pages' taken_now none_names ∙ new_maps

    pages_are : page_places b.tables.maps (store.homes new) ≡ slice_set u.places home.0 free
    pages_are =
        ap (page_places b.tables.maps) homes_are ∙ root_set b.tables.maps less z.number at.fork (with_word_in (place less root) at.page word) own_fork
        ∙ places_set b.tables.maps places home.0 free (apart b places kept home one)

    over : in_memory_over b' (store.homes new) d ≡ after
    over =
        let shares_are = freed_counts b places kept home one in
        ap (λ (x : Beside). in_memory_over x (store.homes new) d) z.beside ∙ (λ i. record after { places = pages_are i; shares = shares_are i; maps = maps_now i })

    fits_now : FitsPages b' (store.homes new) d
    fits_now = record { maps = subst (λ (x : Beside). FitsMaps x.tables (store.homes new) d) (sym z.beside) freed_fits; agree = subst AreTables (sym over) agree }

    others : (c : EntryAt) (x : HeldEntry) → c ≢ e → flat.held_entry u.maps c ≡ Some x → flat.entry_of t'.names x ≡ flat.entry_of b.tables.names x
    others c x ne there = entry_still b.tables.names t'.names home.0 x name_other (none_else u fits.agree e c (Page home a) x home.0 held (one_share ∙ sym (points_self home a)) ne there)

    pub freed_told : FitsPages b' (store.homes new) d × (plain_over b' (store.homes new) d ≡ entry_put (plain_over b places d) at (plain_entry b.tables.names p))
    freed_told = (
      fits_now,
      slot_told b b' places (store.homes new) kept kept' pages pages' d fits fits_now at e (Page home a) p slot held (ap (λ (t : FlatTables). t.maps) over)
          (λ k n h. (named_before k n (ap (λ ns. name_at ns k) (sym names_are) ∙ h)).1)
          (λ k n h. ap (λ (t : FlatTables). content t.places d k) over ∙ content_other u.places d home.0 k free (named_before k n (ap (λ ns. name_at ns k) (sym names_are) ∙ h)).0)
          (ap (λ (t : FlatTables). t.serials) over) (ap (λ (t : FlatTables). t.limit) over)
          (λ c x ne h. ap (λ ns. flat.entry_of ns x) names_are ∙ others c x ne h)
          (ap (λ ns. flat.entry_of ns (in_memory p)) names_are ∙ entry_still b.tables.names t'.names home.0 (in_memory p) name_other (nothing home.0))
          (ap (λ (x : Beside). files_held x.tables.names x.files) z.beside ∙ files_same),
    )

  pub freed_done : SetsSlot store old new b b' at p
  freed_done = record {
    told = freed_told;
    look = look_now;
    maps = ap (λ (x : Beside). x.tables.maps) z.beside;
    files = ap (λ (x : Beside). x.files) z.beside;
    filed = ap (λ (x : Beside). filed_over x) z.beside ∙ ap fin.get files_same;
    serials = ap (λ (x : Beside). x.serials) z.beside;
    living = ap (λ (x : Beside). x.living) z.beside;
    limit = ap (λ (x : Beside). x.limit) z.beside;
    core = core_stays;
    lost = loses_on (traffic store old) (traffic store z.mid) (traffic store new) (loses_freed store old z.mid home.0 z.freed) (loses_used store z.mid new root z.used);
    uses = uses_maps;
  }
