-- A page that is made in a home of its own, which an entry names.
use Rattle.std.proofs.Common.{◌≡◌, ◌≢◌, inl, inr, ℕ, ◌+◌, ◌<◌, ◌≤◌, List, true, false, cond, Option, None, Some, is_some, length, map, refl, sym, ◌∙◌, ap, subst, arith}
use Rattle.std.specs.Prelude.{slice_set}
use Rattle.std.proofs.lemmas.Bool.{cases_eq}
use Rattle.std.proofs.lemmas.List.{get_or-set_same, get_or-set_other, length-set}
use Rattle.std.proofs.lemmas.List.Sums.{sum_by-set}
use Rattle.machine_names.specs.declared.names.PageName.{PageName}
use Rattle.machine_names.specs.declared.names.Slot.{Slot}
use Rattle.machine_names.specs.declared.names.Tty.{Tty}
use Rattle.machine_names.specs.Bounds.{IsOwner}
use Rattle.outside.specs.Drums.{IsPage}
use Rattle.machine_names.specs.declared.names.ForkName.{ForkName}
use Rattle.page_homes.specs.declared.homes.Home.{Home}
use Rattle.page_contracts.specs.DrumWords.{DrumWords}
use Rattle.page_contracts.specs.Stores.{HomePlace, StoreMeaning, content, free, away, here, is_free, is_taken, place, with_word_in}
use Rattle.share_table.specs.declared.pointer.Pointer.TheVariants.{Private}
use Rattle.share_table.specs.Pointers.{pointer_word}
use Rattle.pager_walk.specs.declared.paged_entry.PagedEntry.TheVariants as paged
use Rattle.pager_walk.specs.MapPages.{fork_at, root_at, index_of}
use Rattle.pager_walk.specs.PagedMaps.{Tables, AreRooted, entry_in, is_near, look_at, look_map, name_at, with_name}
use Rattle.pager_walk.proofs.Changing.{content_other, entry_back}
use Rattle.pager_walk.proofs.Looking.{ArePages, taken_map}
use Rattle.pager_walk.proofs.NamedPages.{same_word}
use Rattle.pager_walk.proofs.NumberedMaps.{index_fork}
use Rattle.flat_tables.specs.declared.held_entry.EntryAt.{EntryAt}
use Rattle.flat_tables.specs.declared.held_entry.HeldEntry.TheVariants.{Page}
use Rattle.flat_tables.specs.HeldMaps as flat
use Rattle.flat_tables.specs.SlotTables.{Tables as FlatTables, AreTables}
use Rattle.flat_tables.specs.TableSteps.{home_taken, left_shares, next_name}
use Rattle.flat_tables.proofs.Making.{some_lives}
use Rattle.flat_pages.proofs.Settled.{slot_lives}
use Rattle.flat_tables.proofs.Taking.{taken_tables}
use Rattle.paged_tables.specs.MadePages.{MakesPage, page_named}
use Rattle.paged_tables.specs.MapsInMemory.{maps_in_memory}
use Rattle.paged_tables.specs.NameCounts.{counts}
use Rattle.paged_tables.specs.PagedPlaces.{page_places}
use Rattle.paged_tables.specs.PagedTables.{Beside, AreKept, FitsPages, in_memory_over}
use Rattle.paged_tables.proofs.Counted.{counts_set}
use Rattle.paged_tables.proofs.EntryPut.{memory_put, pages_put, put_places}
use Rattle.paged_tables.proofs.NearEntries.{near_on}
use Rattle.paged_tables.proofs.NewForks.{free_apart}
use Rattle.paged_tables.proofs.Places.{IsNoRoot, place_here, place_same, places_set}
use Rattle.paged_tables.proofs.WalksTold.{maps}
use Rattle.std.specs.Prelude.{IsSome}
use Rattle.machine_names.specs.declared.names.Access.{Access}
use Rattle.share_table.specs.Shares.{Shares}
use Rattle.share_table.specs.declared.shares.Share.{Share}
use Rattle.pager_walk.specs.declared.paged_entry.PagedEntry.{PagedEntry}
use Rattle.pager_walk.specs.Walks.{IsNearSlot}
use Rattle.flat_tables.specs.declared.held_entry.HeldEntry.{HeldEntry}
use Rattle.flat_tables.specs.Walks.{slot_of}
use Rattle.flat_tables.specs.SlotTables.{share_of}
use Rattle.paged_tables.specs.NameCounts.{count_of, share_at}
use Rattle.paged_tables.specs.PagedTables.{AreFiled}
use Rattle.paged_tables.proofs.Naming.{named_more}
use Rattle.paged_tables.proofs.Sharing.{shared_more}

-- a look that is near has a map
pub near_number : (t : Tables) (places : List HomePlace) (s : Slot) → is_near (look_at t places s) ≡ true → (k : ℕ) × (index_of t.maps s.fork ≡ Some k)
near_number t places s near = by (index_of t.maps s.fork) refl near
  where
    by : (o : Option ℕ) → index_of t.maps s.fork ≡ o → is_near (look_map t places s.page o) ≡ true → (k : ℕ) × (index_of t.maps s.fork ≡ Some k)
    by None is e = absurd (cc e)
    by (Some k) is e = (k, is)

pub taken_word : (p : HomePlace) (offset word : ℕ) → is_taken (with_word_in p offset word) ≡ is_taken p
taken_word free offset word = refl
taken_word away offset word = refl
taken_word (here words) offset word = refl

pub taken_one : (p : HomePlace) → is_taken p ≡ true → ◌≡◌ {A = ℕ} (cond (is_free p) 1 0) 0
taken_one free e = absurd (cc e)
taken_one away e = refl
taken_one (here words) e = refl

-- a home that was free is taken
module _ (b : Beside) (places : List HomePlace) (kept : AreKept b places) (home : Home) (owner : Tty) (own : IsOwner owner) (page : HomePlace) (is_page : is_taken page ≡ true) (below : home.0 < length places) (was : place places home.0 ≡ free) where
  abbrev name : PageName
  name = next_name b.serials owner

  pub below_names : home.0 < length b.tables.names
  below_names = omega (arith, below, kept.homes, kept.sized)

  pub no_name : name_at b.tables.names home.0 ≡ None
  no_name = by (name_at b.tables.names home.0) refl
    where
      by : (o : Option PageName) → name_at b.tables.names home.0 ≡ o → o ≡ None
      by None e = refl
      by (Some n) e = absurd (let z : false ≡ true = sym (taken_map places home.0 ∙ ap is_taken was) ∙ kept.rooted.named home.0 (ap is_some e) in cc z)

  made_filed : AreFiled (page_named b home owner)
  made_filed = record {
    within = kept.files.within;
    homes = kept.files.homes ∙ sym (length-set b.tables.names home.0 (Some name));
    count = kept.files.count;
    few = λ k. elim (cases_eq k home.0) [
      | inl same ↦
          let none : share_of b.filed home.0 ≤ count_of b.tables.shares None (share_at b.shared home.0) = subst (λ (o : Option PageName). share_of b.filed home.0 ≤ count_of b.tables.shares o (share_at b.shared home.0)) no_name (kept.files.few home.0) in
          omega (arith, ap (share_of b.filed) same, none)
      | inr other ↦ subst (λ (o : Option PageName). share_of b.filed k ≤ count_of b.tables.shares o (share_at (slice_set b.shared home.0 None) k)) (sym (get_or-set_other b.tables.names home.0 k (Some name) None other))
          (subst (λ (o : Option Share). share_of b.filed k ≤ count_of b.tables.shares (name_at b.tables.names k) o) (sym (get_or-set_other b.shared home.0 k None None other)) (kept.files.few k))
    ];
  }

  pub new_kept : AreRooted (with_name b.tables home (next_name b.serials owner)) (map is_taken (slice_set places home.0 page)) → AreKept (page_named b home owner) (slice_set places home.0 page)
  new_kept rooted = record {
    rooted = rooted;
    filed = λ f h is. elim (cases_eq h.0 home.0) [
      | inl same ↦ ap (λ i. is_some (name_at (slice_set b.tables.names home.0 (Some name)) i)) same ∙ ap is_some (get_or-set_same b.tables.names home.0 (Some name) None below_names)
      | inr other ↦ ap is_some (get_or-set_other b.tables.names home.0 h.0 (Some name) None other) ∙ kept.filed f h is
    ];
    named = named_more b.tables.names b.serials b.taken kept.named home.0 below_names owner own no_name;
    shared = shared_more b.tables.shares b.tables.names b.shared kept.shared home.0 name below_names no_name;
    files = made_filed;
    sized = length-set b.tables.names home.0 (Some name) ∙ kept.sized;
    living = kept.living;
    homes = omega (arith, length-set places home.0 page, kept.homes);
    free =
        (let s = sum_by-set (λ (p : HomePlace). cond (is_free p) 1 0) places home.0 page free below in
        let old : ◌≡◌ {A = ℕ} (cond (is_free (place places home.0)) 1 0) 1 = ap (λ p. cond (is_free p) 1 0) was in
        let now : ◌≡◌ {A = ℕ} (cond (is_free page) 1 0) 0 = taken_one page is_page in
        omega (arith, s, old, now, kept.free));
    few = kept.few;
  }

  -- an entry is found that was
  pub named_near : (at : Slot) → is_near (look_at b.tables places at) ≡ true → is_near (look_at (page_named b home owner).tables (slice_set places home.0 page) at) ≡ true
  named_near at near =
      near_on b.tables (page_named b home owner).tables places (slice_set places home.0 page) at refl
      (λ k is. get_or-set_other places home.0 (root_at b.tables.maps k).0 page free (free_apart b.tables places kept.rooted home.0 was k at.fork (index_fork b.tables.maps at.fork k is))) near

-- what is told of the page that is made
module _ {S : Type 0} (store : StoreMeaning S) (old new : S) (b b' : Beside) (kept : AreKept b (store.homes old)) (pages : ArePages (store.homes old)) (pages' : ArePages (store.homes new)) (owner : Tty) (own : IsOwner owner)
    (at : Slot) (near : IsNearSlot b.tables (store.homes old) at) (words : List ℕ) (access : Access) (shares : Shares) (z : MakesPage store old new b b' at (here words) access shares owner)
    (entries : (w : ℕ) → entry_in (record b.tables { shares = shares }) w ≡ entry_in b.tables w) (d : DrumWords) (fits : FitsPages b (store.homes old) d)
    (e : EntryAt) (is : slot_of (maps b.tables (store.homes old) d) e ≡ Some at) where
  abbrev places : List HomePlace
  places = store.homes old

  abbrev u : FlatTables
  u = in_memory_over b places d

  abbrev title : PageName
  title = next_name b.serials owner

  -- the tables once their shares are these
  abbrev shared_tables : Tables
  shared_tables = record b.tables { shares = shares }

  abbrev entries_after : Tables
  entries_after = with_name shared_tables z.home title

  abbrev root : ℕ
  root = (root_at b.tables.maps z.number).0

  apart : IsNoRoot b.tables.maps z.home.0
  apart = free_apart b.tables places kept.rooted z.home.0 z.made.was_free

  pub home_below : z.home.0 < u.limit
  home_below = omega (arith, z.made.below, kept.homes)

  pub home_free : place u.places z.home.0 ≡ free
  home_free = place_same b.tables.maps places z.home.0 apart ∙ z.made.was_free

  abbrev mid_places : List HomePlace
  mid_places = slice_set places z.home.0 (here words)

  abbrev word : ℕ
  word = pointer_word (Private z.home access)

  roots : (j : ℕ) (g : ForkName) → fork_at b.tables.maps j ≡ Some g → place mid_places (root_at b.tables.maps j).0 ≡ place places (root_at b.tables.maps j).0
  roots j g has = get_or-set_other places z.home.0 (root_at b.tables.maps j).0 (here words) free (apart j g has)

  new_homes : store.homes new ≡ put_places b places mid_places kept at near z.number z.numbered roots word
  new_homes = z.homes ∙ ap (λ ps. slice_set ps root (with_word_in (place ps root) at.page word)) z.made.homes

  pages_are : page_places b.tables.maps (store.homes new) ≡ slice_set u.places z.home.0 (here words)
  pages_are = ap (page_places b.tables.maps) new_homes ∙ pages_put b places mid_places kept at near z.number z.numbered roots word ∙ places_set b.tables.maps places z.home.0 (here words) apart

  -- the entry that names the page stands for it
  stands_now : entry_in entries_after word ≡ Some (paged.Page z.home access)
  stands_now =
      entry_back entries_after (Private z.home access) (omega (arith, home_below, kept.few))
      ∙ ap (λ (o : Option PageName). cond (is_some o) (Some (paged.Page z.home access)) None) (get_or-set_same b.tables.names z.home.0 (Some title) None (omega (arith, home_below, kept.sized)))

  rooted_shared : AreRooted shared_tables (map is_taken places)
  rooted_shared = record { numbered = kept.rooted.numbered; there = kept.rooted.there; apart = kept.rooted.apart; unnamed = kept.rooted.unnamed; named = kept.rooted.named; few = kept.rooted.few }

  still : (w : ℕ) → IsSome (entry_in b.tables w) → entry_in entries_after w ≡ entry_in b.tables w
  still w some = (same_word shared_tables places rooted_shared z.home title (here words) refl z.made.below z.made.was_free w (subst (λ (o : Option PagedEntry). IsSome o) (sym (entries w)) some)).0 ∙ entries w

  maps_after : maps_in_memory entries_after (content (store.homes new) d) ≡ flat.with_entry u.maps e (Page z.home access)
  maps_after =
      ap (λ ps. maps_in_memory entries_after (content ps d)) new_homes
      ∙ memory_put b places mid_places kept at near z.number z.numbered roots word pages d fits (λ j g has. content_other places d z.home.0 (root_at b.tables.maps j).0 (here words) (apart j g has)) e is entries_after refl still (paged.Page z.home access) stands_now

  -- where the shares count the page that the entry named once less
  module _ (q : HeldEntry) (there : flat.held_entry u.maps e ≡ Some q) (counted : counts shares b.tables.names b.shared ≡ left_shares u.shares (Some q)) (stays : (k : ℕ) → flat.points_at k q ≡ 1 → share_of u.shares k ≢ 1) (room : b.taken + b.living + 1 ≤ b.limit) where
    abbrev pub after : FlatTables
    after = home_taken u e z.home (here words) access owner

    pub agree_after : AreTables after
    agree_after = taken_tables u fits.agree owner own z.home.0 home_below e q (here words) access there (some_lives (flat.fork_at u.maps e.map) (slot_lives u.maps e at is)) home_free refl stays room

    shares_after : counts shares (slice_set b.tables.names z.home.0 (Some title)) (slice_set b.shared z.home.0 None) ≡ slice_set (left_shares u.shares (flat.held_entry u.maps e)) z.home.0 1
    shares_after = counts_set shares b.tables.names b.shared z.home.0 title (omega (arith, home_below, kept.sized)) ∙ ap (λ xs. slice_set xs z.home.0 1) counted ∙ sym (ap (λ o. slice_set (left_shares u.shares o) z.home.0 1) there)

    pub made_over : in_memory_over b' (store.homes new) d ≡ home_taken u e z.home (here words) access owner
    made_over =
        ap (λ (x : Beside). in_memory_over x (store.homes new) d) z.beside
        ∙ (λ i. record after { places = pages_are i; shares = shares_after i; maps = maps_after i })

    pub pages_after : (h : ℕ) (ws : List ℕ) → place after.places h ≡ here ws → IsPage ws
    pages_after h ws k =
        let k' : place (page_places b.tables.maps (store.homes new)) h ≡ here ws = ap (λ ps. place ps h) pages_are ∙ k in
        pages' h ws (sym (place_same b.tables.maps (store.homes new) h (place_here b.tables.maps (store.homes new) h ws k')) ∙ k')

    pub made_fits : FitsPages b' (store.homes new) d
    made_fits = record { maps = z.fits d fits.maps; agree = subst AreTables (sym made_over) agree_after }
