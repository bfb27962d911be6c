-- What is told of a copy that is made: in a home of its own, or in that of a page that has no other name.
use Rattle.std.proofs.Common.{◌≡◌, ◌≢◌, inl, inr, ℕ, ◌+◌, ◌-◌, ◌<◌, ◌≤◌, List, true, false, Some, is_some, refl, sym, ◌∙◌, ap, arith}
use Rattle.std.specs.Prelude.{slice_set, ◌&&◌, ◌==◌}
use Rattle.std.proofs.lemmas.Bool.Decides.{eqb_tells}
use Rattle.machine_names.specs.declared.names.Access.{Access}
use Rattle.machine_names.specs.declared.names.Kind.{Kind}
use Rattle.machine_names.specs.declared.names.Slot.{Slot}
use Rattle.machine_names.specs.declared.names.Tty.{Tty}
use Rattle.machine_names.specs.declared.names.TheConstants.{SPACE_PAGES}
use Rattle.machine_names.specs.Bounds.{IsOwner}
use Rattle.page_homes.specs.declared.homes.Home.{Home}
use Rattle.page_contracts.specs.DrumWords.{DrumWords}
use Rattle.page_contracts.specs.Pages.{can_settle}
use Rattle.page_contracts.specs.Stores.{HomePlace, StoreMeaning, here, place}
use Rattle.plain_pages.specs.Maps.{full_access}
use Rattle.plain_pages.specs.References.{in_map, settled}
use Rattle.pager_walk.specs.declared.chain_walk.Walked.TheVariants.{Along}
use Rattle.pager_walk.specs.declared.paged_entry.Looked.TheVariants.{Is}
use Rattle.pager_walk.specs.declared.paged_entry.PagedEntry.{PagedEntry}
use Rattle.pager_walk.specs.declared.paged_entry.PagedEntry.TheVariants as paged
use Rattle.pager_walk.specs.MapPages.{index_of}
use Rattle.pager_walk.specs.PagedMaps.{look_at}
use Rattle.pager_walk.specs.Walks.{Way, IsNearSlot, WayStands, walk_at}
use Rattle.pager_walk.proofs.Looking.{ArePages}
use Rattle.flat_tables.specs.declared.held_entry.EntryAt.{EntryAt}
use Rattle.flat_tables.specs.HeldMaps.{points_at}
use Rattle.flat_tables.specs.declared.held_entry.HeldEntry.TheVariants.{Page}
use Rattle.flat_tables.specs.SlotTables.{Tables as FlatTables, plain_of, share_of}
use Rattle.flat_tables.specs.SlotTouches.{is_alone}
use Rattle.flat_tables.specs.TableSteps.{home_taken, left_shares}
use Rattle.flat_pages.proofs.FileCounts.{share_few}
use Rattle.flat_tables.proofs.HeldEntries.{points_self, total_le}
use Rattle.flat_tables.proofs.Making.{stays_shared}
use Rattle.flat_pages.proofs.Settled.{Announced, copy_settled}
use Rattle.flat_tables.specs.HeldMaps as flat
use Rattle.paged_tables.specs.LeftShares.{left_of}
use Rattle.paged_tables.specs.MadePages.{MakesPage}
use Rattle.paged_tables.specs.MapsInMemory.{in_memory}
use Rattle.paged_tables.specs.NameCounts.{counts}
use Rattle.paged_tables.specs.PagedTables.{Beside, AreKept, FitsPages, in_memory_over, plain_over}
use Rattle.fork_maps.specs.ChainWalks.{copy_for}
use Rattle.paged_tables.specs.PagedTouches.{alone_at, alone_in, has_one_name, names_at, roomy, walk_touched}
use Rattle.paged_tables.proofs.Counted.{counts_at}
use Rattle.paged_tables.proofs.EntryPut.{Held, held_at}
use Rattle.paged_tables.proofs.Homed.{flat_pages}
use Rattle.paged_tables.proofs.LeftOnce.{left_counts, look_entries}
use Rattle.paged_tables.proofs.MemoryWays.{CopyEntry, MemoryWay, copy_entry, memory_announced, memory_way}
use Rattle.paged_tables.proofs.PagesMade.{agree_after, home_below, home_free, made_fits, made_over, pages_after}
use Rattle.paged_tables.proofs.Places.{fits_places, place_same}
use Rattle.paged_tables.proofs.Touched.{alone_told, named_apart}
use Rattle.paged_tables.proofs.ZeroPages.{room_left}

-- where an entry names a page that has another name, its share counts one name fewer
module _ (b : Beside) (places : List HomePlace) (kept : AreKept b places) (d : DrumWords) (fits : FitsPages b places d) (e : EntryAt) where
  abbrev before : FlatTables
  before = in_memory_over b places d

  module _ (h : Home) (a : Access) (there : flat.held_entry before.maps e ≡ Some (Page h a)) where
    some : 1 ≤ flat.entries_total (points_at h.0) before.maps
    some = let l = total_le (points_at h.0) before.maps e (Page h a) refl there in omega (arith, l, points_self h a)

    all : names_at b h.0 ≡ flat.entries_total (points_at h.0) before.maps + share_of b.filed h.0
    all = omega (arith, sym (counts_at b.tables.shares b.tables.names b.shared h.0), fits.agree.shares h.0, kept.files.count h.0)

    pub others_name : has_one_name b h.0 ≡ false → (2 ≤ names_at b h.0) × (share_of b.filed h.0 < names_at b h.0)
    others_name shared = elim (eqb_tells (names_at b h.0) 1) [
      | inl one ↦
          let none : share_of b.filed h.0 ≡ 0 = omega (arith, some, all, one.1) in
          absurd (let z : true ≡ false = sym ((λ i. one.0 i && (none i == 0))) ∙ shared in cc z)
      | inr ne ↦ (not_one (names_at b h.0) ne.1 (omega (arith, some, all)), omega (arith, some, all))
    ]
      where
        not_one : (n : ℕ) → n ≢ 1 → 1 ≤ n → 2 ≤ n
        not_one n ne l = omega (arith, ne, l)

    pub page_left : has_one_name b h.0 ≡ false → counts (left_of b (Is (paged.Page h a))) b.tables.names b.shared ≡ left_shares before.shares (Some (Page h a))
    page_left shared =
        let o = others_name shared in
        let same = counts_at b.tables.shares b.tables.names b.shared h.0 in
        left_counts b places kept h.0 o.0 o.1 (let few = share_few before fits.agree h.0 in omega (arith, few, same))
        ∙ ap (λ n. slice_set before.shares h.0 (n - 1)) (sym same)

  pub entry_left : (p : PagedEntry) → flat.held_entry before.maps e ≡ Some (in_memory p) → alone_in b (Is p) ≡ false → counts (left_of b (Is p)) b.tables.names b.shared ≡ left_shares before.shares (Some (in_memory p))
  entry_left paged.Empty there shared = refl
  entry_left (paged.Page h a) there shared = page_left h a there shared
  entry_left (paged.Follows serial page a) there shared = refl

-- a copy in a home of its own
module _ {S : Type 0} (store : StoreMeaning S) (old new : S) (b b' : Beside) (kept : AreKept b (store.homes old)) (pages : ArePages (store.homes old)) (pages' : ArePages (store.homes new)) (s : Slot) (kind : Kind) (owner : Tty) (own : IsOwner owner)
    (lives : is_some (index_of b.tables.maps s.fork) ≡ true) (within : s.page < SPACE_PAGES) (w : Way) (walks : Along w ≡ walk_at b.tables (store.homes old) s) (stands : WayStands b.tables (store.homes old) w)
    (h : Home) (home : w.home ≡ Some h) (m : Slot) (some : copy_for kind w ≡ Some m) (shared : alone_at b (store.homes old) m ≡ false) (words : List ℕ) (old_words : place (store.homes old) h.0 ≡ here words)
    (ready : can_settle (walk_touched b (store.homes old) (store.spare old) kind (Along w)) ≡ true) (room : roomy b 1 ≡ true) (near : IsNearSlot b.tables (store.homes old) m)
    (z : MakesPage store old new b b' m (here words) (record full_access { x = w.executes }) (left_of b (look_at b.tables (store.homes old) m)) owner) (d : DrumWords) (fits : FitsPages b (store.homes old) d) where
  abbrev places : List HomePlace
  places = store.homes old

  abbrev u : FlatTables
  u = in_memory_over b places d

  abbrev frames : ℕ
  frames = store.spare old

  abbrev access : Access
  access = record full_access { x = w.executes }

  way : MemoryWay b places d s w
  way = memory_way b places kept pages d fits s lives within w walks

  announced : Announced u frames s kind way.way
  announced = memory_announced b places kept pages d fits s lives within w walks way stands frames kind ready

  copy : CopyEntry b places d kind way.way m
  copy = copy_entry b places d w way.way way.same kind m some

  held : Held b places d m copy.entry
  held = held_at b places kept pages d fits m near copy.entry copy.slot

  alone_not : is_alone u.shares (flat.held_entry u.maps copy.entry) ≡ false
  alone_not = alone_told b places kept.rooted pages d fits kept.files.count copy.entry m copy.slot near ∙ shared

  counted : counts (left_of b (look_at b.tables places m)) b.tables.names b.shared ≡ left_shares u.shares (Some (in_memory held.entry))
  counted = ap (λ l. counts (left_of b l) b.tables.names b.shared) held.look ∙ entry_left b places kept d fits copy.entry held.entry held.held (sym (ap (alone_in b) held.look) ∙ shared)

  stays : (k : ℕ) → points_at k (in_memory held.entry) ≡ 1 → share_of u.shares k ≢ 1
  stays = stays_shared u (in_memory held.entry) (sym (ap (is_alone u.shares) held.held) ∙ alone_not)

  over : in_memory_over b' (store.homes new) d ≡ home_taken u copy.entry z.home (here words) access owner
  over = made_over store old new b b' kept pages pages' owner own m near words access (left_of b (look_at b.tables places m)) z (look_entries b places kept (look_at b.tables places m)) d fits copy.entry copy.slot (in_memory held.entry) held.held counted stays (room_left b room)

  in_pages : place u.places h.0 ≡ here words
  in_pages = place_same b.tables.maps places h.0 (named_apart b places kept.rooted h.0 (stands.named h home)) ∙ old_words

  pub copy_told : FitsPages b' (store.homes new) d × (plain_over b' (store.homes new) d ≡ settled (plain_over b places d) (in_map s) kind owner)
  copy_told =
      let l = left_of b (look_at b.tables places m) in
      let entries = look_entries b places kept (look_at b.tables places m) in (
        made_fits store old new b b' kept pages pages' owner own m near words access l z entries d fits copy.entry copy.slot (in_memory held.entry) held.held counted stays (room_left b room),
        ap (λ (t : FlatTables). plain_of t d) over
            ∙ ((copy_settled u fits.agree (flat_pages b places kept pages d fits) frames s kind way.way announced owner own z.home
            (home_below store old new b b' kept pages pages' owner own m near words access l z entries d fits copy.entry copy.slot) (home_free store old new b b' kept pages pages' owner own m near words access l z entries d fits copy.entry copy.slot)
            (store.spare new) (ap (λ n. n + 1) z.used.framed.spare ∙ z.made.spare) h copy.entry access (in_memory held.entry) words (way.same.home ∙ home) copy.some held.held (λ i. record full_access { x = sym way.same.executes i }) alone_not in_pages
            (agree_after store old new b b' kept pages pages' owner own m near words access l z entries d fits copy.entry copy.slot (in_memory held.entry) held.held counted stays (room_left b room))
            (pages_after store old new b b' kept pages pages' owner own m near words access l z entries d fits copy.entry copy.slot (in_memory held.entry) held.held counted stays (room_left b room))).told d (fits_places b.tables.maps places d fits.maps.drum)).1,
      )
