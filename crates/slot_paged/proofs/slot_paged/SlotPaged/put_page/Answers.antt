use Rattle.std.proofs.Common.{is_some, sym, ap, subst}
use Rattle.std.specs.Prelude.{IsSome}
use Rattle.share_table.specs.declared.pointer.Pointer.{Pointer}
use Rattle.share_table.specs.Pointers.{IsPointer}
use Rattle.pager_walk.specs.PagedMaps.{entry_for}
use Rattle.paged_tables.specs.PagedTables.{beside_of}
use Rattle.paged_tables.proofs.RenamedPages.{pointer_fits, pointer_names}
use Rattle.slot_paged.proofs.slot_paged.SlotPaged.put_page.Goals as goal

pub put_pointer-requires-clause-pointer : goal.put_pointer-requires-clause-pointer
put_pointer-requires-clause-pointer g c =
    let s = c.args.self.now in
    subst IsPointer (sym c.pointer-pointer.ensures) (pointer_fits (beside_of s.tables) (g.S.Store.means.homes s.store) s.kept c.args.home c.args.access c.requires.named)

pub put_pointer-requires-clause-entry : goal.put_pointer-requires-clause-entry
put_pointer-requires-clause-entry g c =
    let s = c.args.self.now in
    let b = beside_of s.tables in
    subst (λ (p : Pointer). IsSome (entry_for b.tables p)) (sym c.pointer-pointer.ensures) (ap is_some (pointer_names b (g.S.Store.means.homes s.store) s.kept c.args.home c.args.access c.requires.named b.tables.names c.requires.named))
