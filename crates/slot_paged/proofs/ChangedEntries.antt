-- An entry is set anew, by the pages before and after.
use Rattle.std.proofs.Common.{◌≡◌, ◌<◌, sym, ap, subst}
use Rattle.machine_names.specs.declared.names.Access.{Access}
use Rattle.machine_names.specs.declared.names.Slot.{Slot}
use Rattle.machine_names.specs.declared.names.TheConstants.{SPACE_PAGES}
use Rattle.page_contracts.specs.declared.store.Store.{Ghosts}
use Rattle.page_contracts.specs.DrumWords.{DrumWords}
use Rattle.page_contracts.specs.Stores.{IsSound, StoreMeaning}
use Rattle.plain_pages.specs.declared.map.NewEntry.{NewEntry}
use Rattle.plain_pages.specs.declared.map.NewEntry.TheVariants as new_entry
use Rattle.plain_pages.specs.NewEntries.{entry_to}
use Rattle.share_table.specs.Pointers.{pointer_word}
use Rattle.pager_walk.specs.declared.paged_entry.Looked.TheVariants.{Is}
use Rattle.pager_walk.specs.declared.paged_entry.PagedEntry.{PagedEntry}
use Rattle.pager_walk.specs.PagedMaps.{is_near, look_at, plain_entry}
use Rattle.paged_tables.specs.FreedEntries.{KeepsHomes}
use Rattle.paged_tables.specs.PagedTables.{Beside, beside_of, plain_over}
use Rattle.paged_tables.specs.SetEntries.{ChangesEntry, PutsPointer, SetsSlot, narrow_paged, pointer_of}
use Rattle.paged_tables.proofs.EntryChanged.{changes, narrow_is}
use Rattle.paged_tables.proofs.HomesKept.{word_keeps}
use Rattle.paged_tables.proofs.JoinDone.{kept_done}
use Rattle.paged_tables.proofs.NarrowEntry.{narrow_fits, narrow_follows, narrow_points, narrow_stands}
use Rattle.slot_paged.specs.declared.slot_paged.SlotPaged.{SlotPaged}

module _ {S : Type 0} {members : Ghosts S} (sound : (x : S) → IsSound members.means x) (old new : SlotPaged S members) (at : Slot) (page : at.page < SPACE_PAGES) (seen : PagedEntry) (looks : look_at (beside_of old.tables).tables (members.means.homes old.store) at ≡ Is seen) where
  abbrev store : StoreMeaning S
  store = members.means

  abbrev b : Beside
  b = beside_of old.tables

  abbrev b' : Beside
  b' = beside_of new.tables

  -- it becomes what is asked for, where it was set to that
  pub set_anew : (asked what : NewEntry) → asked ≡ what → (e : PagedEntry) → SetsSlot store old.store new.store b b' at e → ((d : DrumWords) → plain_entry b.tables.names e ≡ entry_to (plain_over b (store.homes old.store) d) what (plain_entry b.tables.names seen))
      → ChangesEntry store old.store new.store b b' at asked
  set_anew asked what is e sets same = subst (ChangesEntry store old.store new.store b b' at) (sym is) (changes store old.store new.store b b' old.kept (sound old.store).pages at page seen looks what e sets same)

  -- no more of it is permitted than is given
  module _ (given : Access) (puts : PutsPointer store old.store new.store b b' b.tables.shares b.shared at (pointer_of b (narrow_paged given seen))) where
    narrowed_sets : SetsSlot store old.store new.store b b' at (narrow_paged given seen)
    narrowed_sets =
        kept_done store old.store new.store b b' old.kept new.kept (sound old.store).pages (sound new.store).pages at (record { page = page; near = ap is_near looks }) (pointer_of b (narrow_paged given seen)) (narrow_fits b (store.homes old.store) old.kept at given seen looks) seen
        (narrow_paged given seen) looks (narrow_stands b (store.homes old.store) old.kept at given seen looks) (narrow_points b (store.homes old.store) old.kept at given seen) (narrow_follows b (store.homes old.store) old.kept at given seen looks) puts

    pub narrowed_anew : (asked : NewEntry) → asked ≡ new_entry.Narrow given → ChangesEntry store old.store new.store b b' at asked
    narrowed_anew asked is = set_anew asked (new_entry.Narrow given) is (narrow_paged given seen) narrowed_sets (λ d. narrow_is b.tables.names given seen)

    pub narrowed_keeps : KeepsHomes store old.store new.store b b' at
    narrowed_keeps = word_keeps store old.store new.store b b' old.kept at puts.number puts.numbered (pointer_word (pointer_of b (narrow_paged given seen))) puts.homes (ap (λ (x : Beside). x.tables.names) puts.beside)
