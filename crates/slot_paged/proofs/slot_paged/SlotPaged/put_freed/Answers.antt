use Rattle.std.proofs.Common.{◌≡◌, List, true, sym, subst}
use Rattle.page_contracts.specs.Stores.{HomePlace}
use Rattle.pager_walk.specs.PagedMaps.{is_near, look_at}
use Rattle.paged_tables.specs.PagedTables.{AreKept, Beside, beside_of}
use Rattle.paged_tables.specs.SetEntries.{PutsPointer, page_freed}
use Rattle.paged_tables.proofs.FreedDone.{freed_near}
use Rattle.paged_tables.proofs.FreedPages.{freed_kept}
use Rattle.slot_paged.proofs.slot_paged.SlotPaged.put_freed.Goals as goal

pub put_pointer-requires-clause-near : goal.put_pointer-requires-clause-near
put_pointer-requires-clause-near g c =
    let s = c.args.self.now in
    let b = beside_of s.tables in
    subst (λ (x : Beside). is_near (look_at x.tables (g.S.Store.means.homes c.free.new.self) c.args.at) ≡ true) (sym c.drop_page.ensures)
    (subst (λ (ps : List HomePlace). is_near (look_at (page_freed b c.args.home).tables ps c.args.at) ≡ true) (sym c.free.ensures.homes) (freed_near b (g.S.Store.means.homes s.store) s.kept c.args.home c.requires.one c.args.at c.requires.near))

pub invariant_of-self : goal.invariant_of-self
invariant_of-self g c =
    let s = c.args.self.now in
    let b = beside_of s.tables in
    let kept = freed_kept b (g.S.Store.means.homes s.store) s.kept c.args.home c.requires.one in
    record { kept = subst (λ (x : Beside). AreKept x (g.S.Store.means.homes c.free.new.self)) (sym c.drop_page.ensures) (subst (λ (ps : List HomePlace). AreKept (page_freed b c.args.home) ps) (sym c.free.ensures.homes) kept) }

pub returns : goal.returns
returns g c =
    let store = g.S.Store.means in
    let new = c.put_pointer.new.self in
    let puts = subst (λ (x : Beside). PutsPointer store c.free.new.self new.store x (beside_of new.tables) x.tables.shares x.shared c.args.at c.args.pointer) c.drop_page.ensures c.put_pointer.ensures in
    record { mid = c.free.new.self; number = puts.number; numbered = puts.numbered; freed = c.free.ensures; homes = puts.homes; used = puts.used; beside = puts.beside }
