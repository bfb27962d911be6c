use Rattle.std.proofs.Common.{◌≡◌, is_some, sym, ◌∙◌, ap, subst}
use Rattle.std.specs.Prelude.{IsSome}
use Rattle.share_table.specs.declared.pointer.Pointer.{Pointer}
use Rattle.share_table.specs.Pointers.{IsPointer}
use Rattle.pager_walk.specs.PagedMaps.{entry_for}
use Rattle.paged_tables.specs.PagedTables.{beside_of}
use Rattle.paged_tables.specs.SetEntries.{narrow_paged, pointer_of}
use Rattle.paged_tables.proofs.NarrowEntry.{narrow_fits, narrow_stands}
use Rattle.slot_paged.proofs.slot_paged.SlotPaged.narrow_entry.Goals as goal

pub put_pointer-requires-clause-pointer : goal.put_pointer-requires-clause-pointer
put_pointer-requires-clause-pointer g c =
    let s = c.args.self.now in
    let b = beside_of s.tables in
    let pointer : c.pointer_of-pointer.result ≡ pointer_of b (narrow_paged c.args.given c.args.seen) = c.pointer_of-pointer.ensures ∙ ap (pointer_of b) c.narrowed.ensures in
    subst IsPointer (sym pointer) (narrow_fits b (g.S.Store.means.homes s.store) s.kept c.args.slot c.args.given c.args.seen c.requires.seen)

pub put_pointer-requires-clause-entry : goal.put_pointer-requires-clause-entry
put_pointer-requires-clause-entry g c =
    let s = c.args.self.now in
    let b = beside_of s.tables in
    let pointer : c.pointer_of-pointer.result ≡ pointer_of b (narrow_paged c.args.given c.args.seen) = c.pointer_of-pointer.ensures ∙ ap (pointer_of b) c.narrowed.ensures in
    subst (λ (p : Pointer). IsSome (entry_for b.tables p)) (sym pointer) (ap is_some (narrow_stands b (g.S.Store.means.homes s.store) s.kept c.args.slot c.args.given c.args.seen c.requires.seen))
