-- An entry was set to a page that has another name, or narrowed.
use Rattle.std.proofs.Common.{◌≡◌, ℕ, ◌<◌, List, true, Option, Some, is_some, refl, sym, ◌∙◌, ap, subst}
use Rattle.std.specs.Prelude.{IsSome, slice_set}
use Rattle.machine_names.specs.declared.names.Access.{Access}
use Rattle.machine_names.specs.declared.names.Slot.{Slot}
use Rattle.machine_names.specs.declared.names.TheConstants.{SPACE_PAGES}
use Rattle.page_homes.specs.declared.homes.Home.{Home}
use Rattle.page_contracts.specs.DrumWords.{DrumWords}
use Rattle.page_contracts.specs.Stores.{HomePlace, StoreMeaning, place, with_word_in}
use Rattle.share_table.specs.declared.pointer.Pointer.{Pointer}
use Rattle.share_table.specs.Pointers.{IsPointer, pointer_word}
use Rattle.pager_walk.specs.declared.paged_entry.Looked.TheVariants.{Is}
use Rattle.pager_walk.specs.declared.paged_entry.PagedEntry.{PagedEntry}
use Rattle.pager_walk.specs.declared.paged_entry.PagedEntry.TheVariants as paged
use Rattle.pager_walk.specs.MapPages.{index_of, root_at}
use Rattle.pager_walk.specs.PagedMaps.{FitsMaps, entry_for, entry_in, is_near, look_at, name_at}
use Rattle.pager_walk.specs.Walks.{IsNearSlot}
use Rattle.pager_walk.proofs.Changing.{pointer_put}
use Rattle.pager_walk.proofs.Looking.{ArePages}
use Rattle.flat_tables.specs.declared.held_entry.EntryAt.{EntryAt}
use Rattle.flat_tables.specs.declared.held_entry.HeldEntry.TheVariants.{Empty, Page, Follows}
use Rattle.flat_tables.specs.declared.held_entry.Link.{Link}
use Rattle.flat_tables.specs.HeldMaps as flat
use Rattle.flat_tables.specs.SlotTables.{AreTables}
use Rattle.flat_pages.proofs.FileCounts.{share_few}
use Rattle.flat_pages.proofs.FileSetting.{entry_joined_tables}
use Rattle.flat_pages.proofs.Leaving.{kept_tables}
use Rattle.flat_tables.proofs.Making.{some_lives}
use Rattle.flat_pages.proofs.Settled.{slot_lives}
use Rattle.paged_tables.specs.MadePages.{pointer_to, with_shares}
use Rattle.paged_tables.specs.MapsInMemory.{in_memory}
use Rattle.paged_tables.specs.PagedTables.{Beside, AreKept, FitsPages, in_memory_over}
use Rattle.paged_tables.specs.SetEntries.{JoinsEntry, PutsPointer, SetsSlot}
use Rattle.paged_tables.proofs.Joining.{counted, join_beside, join_counts, join_entries, join_kept}
use Rattle.paged_tables.proofs.NearEntries.{near_words}
use Rattle.paged_tables.proofs.PutDone.{after, put_done, put_held, put_slot}
use Rattle.paged_tables.proofs.RenamedPages.{pointer_fits, pointer_names}

-- to the same page, or to none as before
module _ {S : Type 0} (store : StoreMeaning S) (old new : S) (b b' : Beside) (kept : AreKept b (store.homes old)) (kept' : AreKept b' (store.homes new)) (pages : ArePages (store.homes old)) (pages' : ArePages (store.homes new))
    (at : Slot) (near : IsNearSlot b.tables (store.homes old) at) (x : Pointer) (valid : IsPointer x) (q p : PagedEntry) (looks : look_at b.tables (store.homes old) at ≡ Is q) (stands : entry_for b.tables x ≡ Some p)
    (same : (k : ℕ) → flat.points_at k (in_memory p) ≡ flat.points_at k (in_memory q)) (follows : (l : Link) (c : Access) → in_memory p ≡ Follows l c → l.page < SPACE_PAGES) (z : PutsPointer store old new b b' b.tables.shares b.shared at x) where
  pub kept_done : SetsSlot store old new b b' at p
  kept_done = put_done store old new b b' kept kept' pages pages' at near b.tables.shares b.shared x valid p stands (λ w s. refl) z agree
    where
      agree : (d : DrumWords) (fits : FitsPages b (store.homes old) d) → AreTables (after store old new b b' kept kept' pages pages' at near b.tables.shares b.shared x valid p stands (λ w s. refl) z d fits)
      agree d fits =
          let u = in_memory_over b (store.homes old) d in
          let e : EntryAt = record { map = z.number; page = at.page } in
          let slot = put_slot store old new b b' kept kept' pages pages' at near b.tables.shares b.shared x valid p stands (λ w s. refl) z d fits in
          let held = put_held store old new b b' kept kept' pages pages' at near b.tables.shares b.shared x valid p stands (λ w s. refl) z d fits in
          let one : held.entry ≡ q = (let y : Is held.entry ≡ Is q = sym held.look ∙ looks in cc y) in
          let there : flat.held_entry u.maps e ≡ Some (in_memory q) = held.held ∙ ap (λ y. Some (in_memory y)) one in
          let lives = some_lives (flat.fork_at u.maps e.map) (slot_lives u.maps e at slot) in
          kept_tables u fits.agree e (in_memory q) (in_memory p) there follows (λ none. absurd (lives none)) same

-- to a page that has another name
module _ {S : Type 0} (store : StoreMeaning S) (old new : S) (b b' : Beside) (kept : AreKept b (store.homes old)) (kept' : AreKept b' (store.homes new)) (pages : ArePages (store.homes old)) (pages' : ArePages (store.homes new))
    (home : Home) (some : is_some (name_at b.tables.names home.0) ≡ true) (at : Slot) (near : IsNearSlot b.tables (store.homes old) at) (empty : look_at b.tables (store.homes old) at ≡ Is paged.Empty) (access : Access) (z : JoinsEntry store old new b b' home at access) where
  abbrev places : List HomePlace
  places = store.homes old

  abbrev b1 : Beside
  b1 = record (with_shares b (counted b places kept home some b' z.joins)) { shared = z.joins.mid.shared }

  abbrev x : Pointer
  x = pointer_to b' home access

  joined_kept : AreKept b' places
  joined_kept = join_kept b places kept home some b' z.joins

  beside_is : b' ≡ b1
  beside_is = join_beside b places kept home some b' z.joins

  some' : is_some (name_at b'.tables.names home.0) ≡ true
  some' = ap (λ (y : Beside). is_some (name_at y.tables.names home.0)) beside_is ∙ some

  valid : IsPointer x
  valid = pointer_fits b' places joined_kept home access some'

  stands' : entry_for b'.tables x ≡ Some (paged.Page home access)
  stands' = pointer_names b' places joined_kept home access some' b'.tables.names some'

  stands : entry_for b1.tables x ≡ Some (paged.Page home access)
  stands = ap (λ (y : Beside). entry_for y.tables x) (sym beside_is) ∙ stands'

  mid_fits : (d : DrumWords) → FitsMaps b.tables places d → FitsMaps b'.tables places d
  mid_fits d fits = subst (λ (y : Beside). FitsMaps y.tables places d) (sym beside_is) (record {
    drum = fits.drum;
    entries = λ k page f is l. let there = fits.entries k page f is l in subst (λ (o : Option PagedEntry). IsSome o) (sym (join_entries b places kept home some b' z.joins _ there)) there;
  })

  maps_same : b'.tables.maps ≡ b.tables.maps
  maps_same = ap (λ (y : Beside). y.tables.maps) beside_is

  puts : PutsPointer store old new b b' b1.tables.shares b1.shared at x
  puts = record {
    number = z.number;
    numbered = z.numbered;
    homes = z.homes;
    used = z.used;
    beside = beside_is;
    fits = λ d fits. (pointer_put b'.tables places (store.homes new) at z.number x joined_kept.rooted (ap (λ ms. index_of ms at.fork) maps_same ∙ z.numbered) near' valid (ap is_some stands')
        (z.homes ∙ (λ i. slice_set places (root_at (sym maps_same i) z.number).0 (with_word_in (place places (root_at (sym maps_same i) z.number).0) at.page (pointer_word x))))).fits d (mid_fits d fits);
  }
    where
      near' : is_near (look_at b'.tables places at) ≡ true
      near' = near_words (b'.tables) (b.tables) places at maps_same near.near

  pub join_done : SetsSlot store old new b b' at (paged.Page home access)
  join_done = put_done store old new b b' kept kept' pages pages' at near b1.tables.shares b1.shared x valid (paged.Page home access) stands still puts agree
    where
      still : (w : ℕ) → IsSome (entry_in b.tables w) → entry_in b1.tables w ≡ entry_in b.tables w
      still = join_entries b places kept home some b' z.joins

      agree : (d : DrumWords) (fits : FitsPages b places d) → AreTables (after store old new b b' kept kept' pages pages' at near b1.tables.shares b1.shared x valid (paged.Page home access) stands still puts d fits)
      agree d fits =
          let u = in_memory_over b places d in
          let e : EntryAt = record { map = puts.number; page = at.page } in
          let slot = put_slot store old new b b' kept kept' pages pages' at near b1.tables.shares b1.shared x valid (paged.Page home access) stands still puts d fits in
          let held = put_held store old new b b' kept kept' pages pages' at near b1.tables.shares b1.shared x valid (paged.Page home access) stands still puts d fits in
          let one : held.entry ≡ paged.Empty = (let y : Is held.entry ≡ Is paged.Empty = sym held.look ∙ empty in cc y) in
          let there : flat.held_entry u.maps e ≡ Some Empty = held.held ∙ ap (λ y. Some (in_memory y)) one in
          let lives = some_lives (flat.fork_at u.maps e.map) (slot_lives u.maps e at slot) in
          let shares = join_counts b places kept home some b' z.joins (share_few u fits.agree home.0) in
          subst (λ xs. AreTables (record u { shares = xs; maps = flat.with_entry u.maps e (Page home access) })) (sym shares) (entry_joined_tables u fits.agree home some e access there lives)
