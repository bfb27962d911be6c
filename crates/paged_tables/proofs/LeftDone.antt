-- An entry was set that names no page, and its page had another name.
use Rattle.std.proofs.Common.{◌≡◌, ℕ, false, Some, sym, ◌∙◌, ap, subst}
use Rattle.std.specs.Prelude.{IsSome}
use Rattle.machine_names.specs.declared.names.Slot.{Slot}
use Rattle.page_contracts.specs.DrumWords.{DrumWords}
use Rattle.page_contracts.specs.Stores.{StoreMeaning}
use Rattle.share_table.specs.declared.pointer.Pointer.{Pointer}
use Rattle.share_table.specs.Pointers.{IsPointer}
use Rattle.pager_walk.specs.declared.paged_entry.Looked.{Looked}
use Rattle.pager_walk.specs.declared.paged_entry.PagedEntry.{PagedEntry}
use Rattle.pager_walk.specs.PagedMaps.{entry_in, look_at}
use Rattle.pager_walk.specs.Walks.{IsNearSlot}
use Rattle.pager_walk.proofs.Looking.{ArePages}
use Rattle.flat_tables.specs.declared.held_entry.EntryAt.{EntryAt}
use Rattle.flat_tables.specs.HeldMaps as flat
use Rattle.flat_tables.specs.SlotTables.{AreTables}
use Rattle.flat_tables.specs.SlotTouches.{is_alone}
use Rattle.flat_tables.specs.TableSteps.{left_shares}
use Rattle.flat_pages.proofs.Leaving.{left_tables}
use Rattle.flat_tables.proofs.Making.{some_lives, stays_shared}
use Rattle.flat_pages.proofs.Settled.{slot_lives}
use Rattle.paged_tables.specs.LeftShares.{left_of}
use Rattle.paged_tables.specs.MapsInMemory.{in_memory}
use Rattle.paged_tables.specs.NameCounts.{counts}
use Rattle.paged_tables.specs.PagedTables.{Beside, AreKept, FitsPages, in_memory_over}
use Rattle.paged_tables.specs.PagedTouches.{alone_at, alone_in}
use Rattle.paged_tables.specs.SetEntries.{PutsPointer, SetsSlot, bare_entry}
use Rattle.paged_tables.proofs.CopiesTold.{entry_left}
use Rattle.paged_tables.proofs.BarePointers.{bare_follows, bare_nothing, bare_stands}
use Rattle.paged_tables.proofs.LeftOnce.{look_entries}
use Rattle.paged_tables.proofs.PutDone.{after, put_done, put_held, put_slot}
use Rattle.paged_tables.proofs.Touched.{alone_told}

module _ {S : Type 0} (store : StoreMeaning S) (old new : S) (b b' : Beside) (kept : AreKept b (store.homes old)) (kept' : AreKept b' (store.homes new)) (pages : ArePages (store.homes old)) (pages' : ArePages (store.homes new))
    (at : Slot) (near : IsNearSlot b.tables (store.homes old) at) (shared : alone_at b (store.homes old) at ≡ false) (x : Pointer) (valid : IsPointer x) (p : PagedEntry) (bare : bare_entry x ≡ Some p)
    (z : PutsPointer store old new b b' (left_of b (look_at b.tables (store.homes old) at)) b.shared at x) where
  abbrev look : Looked
  look = look_at b.tables (store.homes old) at

  pub left_done : SetsSlot store old new b b' at p
  left_done =
      let shares = left_of b look in
      let stands = bare_stands (record b.tables { shares = shares }) x p bare in
      let still = λ (w : ℕ) (some : IsSome (entry_in b.tables w)). look_entries b (store.homes old) kept look w in
      put_done store old new b b' kept kept' pages pages' at near shares b.shared x valid p stands still z (agree stands still)
    where
      agree : (stands : _) (still : _) (d : DrumWords) (fits : FitsPages b (store.homes old) d) → AreTables (after store old new b b' kept kept' pages pages' at near (left_of b look) b.shared x valid p stands still z d fits)
      agree stands still d fits =
          let u = in_memory_over b (store.homes old) d in
          let slot = put_slot store old new b b' kept kept' pages pages' at near (left_of b look) b.shared x valid p stands still z d fits in
          let held = put_held store old new b b' kept kept' pages pages' at near (left_of b look) b.shared x valid p stands still z d fits in
          let e : EntryAt = record { map = z.number; page = at.page } in
          let not_alone : is_alone u.shares (Some (in_memory held.entry)) ≡ false = sym (ap (is_alone u.shares) held.held) ∙ alone_told b (store.homes old) kept.rooted pages d fits kept.files.count e at slot near ∙ shared in
          let counted : counts (left_of b look) b.tables.names b.shared ≡ left_shares u.shares (flat.held_entry u.maps e) =
          ap (λ l. counts (left_of b l) b.tables.names b.shared) held.look ∙ entry_left b (store.homes old) kept d fits e held.entry held.held (sym (ap (alone_in b) held.look) ∙ shared) ∙ sym (ap (left_shares u.shares) held.held) in
          let lives = some_lives (flat.fork_at u.maps e.map) (slot_lives u.maps e at slot) in
          subst (λ xs. AreTables (record u { shares = xs; maps = flat.with_entry u.maps e (in_memory p) })) (sym counted)
          (left_tables u fits.agree e (in_memory held.entry) (in_memory p) held.held (bare_follows x p bare valid) (λ none. absurd (lives none)) (bare_nothing x p bare) (stays_shared u (in_memory held.entry) not_alone))
