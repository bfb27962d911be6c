-- What is told of a copy that takes the home of a page that has no other name.
use Rattle.std.proofs.Common.{◌≡◌, ℕ, ◌<◌, List, true, Some, is_some, refl, sym, ◌∙◌, ap, subst}
use Rattle.machine_names.specs.declared.names.Access.{Access}
use Rattle.machine_names.specs.declared.names.Kind.{Kind}
use Rattle.machine_names.specs.declared.names.Slot.{Slot}
use Rattle.machine_names.specs.declared.names.Tty.{Tty}
use Rattle.machine_names.specs.declared.names.TheConstants.{SPACE_PAGES}
use Rattle.machine_names.specs.Bounds.{IsOwner}
use Rattle.page_homes.specs.declared.homes.Home.{Home}
use Rattle.page_contracts.specs.DrumWords.{DrumWords}
use Rattle.page_contracts.specs.Pages.{can_settle}
use Rattle.page_contracts.specs.Stores.{HomePlace, StoreMeaning, here, is_taken, place}
use Rattle.plain_pages.specs.Maps.{full_access}
use Rattle.plain_pages.specs.References.{in_map, settled}
use Rattle.share_table.specs.Pointers.{pointer_word}
use Rattle.pager_walk.specs.declared.chain_walk.Walked.TheVariants.{Along}
use Rattle.pager_walk.specs.declared.paged_entry.Looked.TheVariants.{Is}
use Rattle.pager_walk.specs.declared.paged_entry.PagedEntry.{PagedEntry}
use Rattle.pager_walk.specs.declared.paged_entry.PagedEntry.TheVariants as paged
use Rattle.pager_walk.specs.MapPages.{index_of}
use Rattle.pager_walk.specs.PagedMaps.{entry_in, name_at}
use Rattle.pager_walk.specs.Walks.{Way, IsNearSlot, WayStands, walk_at}
use Rattle.pager_walk.proofs.Changing.{entry_back}
use Rattle.pager_walk.proofs.Looking.{ArePages}
use Rattle.flat_tables.specs.declared.held_entry.HeldEntry.TheVariants.{Page}
use Rattle.flat_tables.specs.HeldMaps as flat
use Rattle.flat_tables.specs.SlotTables.{Tables as FlatTables, AreTables, plain_of}
use Rattle.flat_tables.specs.SlotTouches.{is_alone}
use Rattle.flat_tables.specs.TableSteps.{home_renamed}
use Rattle.flat_tables.proofs.Making.{alone_share, home_under, some_lives}
use Rattle.flat_pages.proofs.Settled.{Announced, alone_home, alone_settled, slot_lives}
use Rattle.flat_tables.proofs.Taking.{renamed_tables}
use Rattle.paged_tables.specs.MadePages.{RenamesPage, pointer_to}
use Rattle.paged_tables.specs.MapsInMemory.{in_memory}
use Rattle.paged_tables.specs.PagedTables.{Beside, AreKept, FitsPages, in_memory_over, plain_over}
use Rattle.fork_maps.specs.ChainWalks.{copy_for}
use Rattle.paged_tables.specs.PagedTouches.{alone_at, alone_in, walk_touched}
use Rattle.paged_tables.proofs.EntryPut.{Held, held_at, memory_put, pages_put}
use Rattle.paged_tables.proofs.Homed.{flat_pages}
use Rattle.paged_tables.proofs.MemoryWays.{CopyEntry, MemoryWay, copy_entry, memory_announced, memory_way}
use Rattle.paged_tables.proofs.Places.{fits_places, place_same}
use Rattle.paged_tables.proofs.RenamedPages.{counts_renamed, entries_renamed, names', pointer_fits, pointer_names, some_still, tables'}
use Rattle.paged_tables.proofs.Touched.{alone_told, named_apart}

module _ {S : Type 0} (store : StoreMeaning S) (old new : S) (b b' : Beside) (kept : AreKept b (store.homes old)) (pages : ArePages (store.homes old)) (s : Slot) (kind : Kind) (owner : Tty) (own : IsOwner owner)
    (lives : is_some (index_of b.tables.maps s.fork) ≡ true) (within : s.page < SPACE_PAGES) (w : Way) (walks : Along w ≡ walk_at b.tables (store.homes old) s) (stands : WayStands b.tables (store.homes old) w)
    (h : Home) (home : w.home ≡ Some h) (m : Slot) (some : copy_for kind w ≡ Some m) (alone : alone_at b (store.homes old) m ≡ true) (words : List ℕ) (old_words : place (store.homes old) h.0 ≡ here words)
    (ready : can_settle (walk_touched b (store.homes old) (store.spare old) kind (Along w)) ≡ true) (near : IsNearSlot b.tables (store.homes old) m)
    (z : RenamesPage store old new b b' m h (record full_access { x = w.executes }) owner) (d : DrumWords) (fits : FitsPages b (store.homes old) d) where
  abbrev places : List HomePlace
  places = store.homes old

  abbrev u : FlatTables
  u = in_memory_over b places d

  abbrev frames : ℕ
  frames = store.spare old

  abbrev access : Access
  access = record full_access { x = w.executes }

  named : is_some (name_at b.tables.names h.0) ≡ true
  named = stands.named h home

  way : MemoryWay b places d s w
  way = memory_way b places kept pages d fits s lives within w walks

  announced : Announced u frames s kind way.way
  announced = memory_announced b places kept pages d fits s lives within w walks way stands frames kind ready

  copy : CopyEntry b places d kind way.way m
  copy = copy_entry b places d w way.way way.same kind m some

  alone_is : is_alone u.shares (flat.held_entry u.maps copy.entry) ≡ true
  alone_is = alone_told b places kept.rooted pages d fits kept.files.count copy.entry m copy.slot near ∙ alone

  -- the entry with the mark names the page at the end
  record Names : Type 0 where
    access : Access
    is : flat.held_entry u.maps copy.entry ≡ Some (Page h access)

  names : Names
  names = by (held_at b places kept pages d fits m near copy.entry copy.slot)
    where
      one : (p : PagedEntry) → flat.held_entry u.maps copy.entry ≡ Some (in_memory p) → alone_in b (Is p) ≡ true → Names
      one paged.Empty e a = absurd (cc a)
      one (paged.Follows serial page c) e a = absurd (cc a)
      one (paged.Page g c) e a =
          let same = alone_home u fits.agree frames s kind way.way announced h copy.entry g c (way.same.home ∙ home) copy.some e in
          record { access = c; is = e ∙ ap (λ (x : Home). Some (Page x c)) same }

      by : Held b places d m copy.entry → Names
      by k = one k.entry k.held (sym (ap (alone_in b) k.look) ∙ alone)

  abbrev word : ℕ
  word = pointer_word (pointer_to b h access)

  stands_now : entry_in (tables' b places kept h owner own named) word ≡ Some (paged.Page h access)
  stands_now =
      entry_back (tables' b places kept h owner own named) (pointer_to b h access) (pointer_fits b places kept h access named)
      ∙ pointer_names b places kept h access named (names' b places kept h owner own named) (some_still b places kept h owner own named h.0 ∙ named)

  over : in_memory_over b' (store.homes new) d ≡ home_renamed u copy.entry h access owner
  over =
      let pages_are = ap (Rattle.paged_tables.specs.PagedPlaces.page_places b.tables.maps) z.homes ∙ pages_put b places places kept m near z.number z.numbered (λ j g e. refl) word in
      let shares_are = counts_renamed b places kept h owner own named in
      let maps_are = ap (λ ps. Rattle.paged_tables.specs.MapsInMemory.maps_in_memory (tables' b places kept h owner own named) (Rattle.page_contracts.specs.Stores.content ps d)) z.homes
      ∙ memory_put b places places kept m near z.number z.numbered (λ j g e. refl) word pages d fits (λ j g e. refl) copy.entry copy.slot (tables' b places kept h owner own named) refl (λ x there. entries_renamed b places kept h owner own named x) (paged.Page h access) stands_now in
      ap (λ (x : Beside). in_memory_over x (store.homes new) d) z.beside ∙ (λ i. record (home_renamed u copy.entry h access owner) { places = pages_are i; shares = shares_are i; maps = maps_are i })

  in_pages : place u.places h.0 ≡ here words
  in_pages = place_same b.tables.maps places h.0 (named_apart b places kept.rooted h.0 named) ∙ old_words

  agree : AreTables (home_renamed u copy.entry h access owner)
  agree =
      renamed_tables u fits.agree owner own h.0 (home_under u fits.agree h.0 (ap is_taken in_pages)) copy.entry access names.access names.is (some_lives (flat.fork_at u.maps copy.entry.map) (slot_lives u.maps copy.entry m copy.slot))
      (alone_share u h names.access (sym (ap (is_alone u.shares) names.is) ∙ alone_is))

  pub alone_settled_told : FitsPages b' (store.homes new) d × (plain_over b' (store.homes new) d ≡ settled (plain_over b places d) (in_map s) kind owner)
  alone_settled_told = (
    record { maps = z.fits d fits.maps; agree = subst AreTables (sym over) agree },
    ap (λ (t : FlatTables). plain_of t d) over
        ∙ ((alone_settled u fits.agree (flat_pages b places kept pages d fits) frames s kind way.way announced owner own h copy.entry access names.access words (way.same.home ∙ home) copy.some names.is (λ i. record full_access { x = sym way.same.executes i }) alone_is in_pages agree).told d
        (fits_places b.tables.maps places d fits.maps.drum)).1,
  )
