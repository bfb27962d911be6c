use Rattle.std.proofs.Common.{◌≡◌, None, sym, ◌∙◌, ap}
use Rattle.pager_walk.specs.PagedMaps.{look_at}
use Rattle.paged_tables.specs.PagedTables.{beside_of}
use Rattle.paged_tables.specs.SetEntries.{alone_home}
use Rattle.paged_tables.proofs.BarePointers.{alone_none, alone_some}
use Rattle.paged_tables.proofs.EntriesFreed.{freed_frees, left_frees}
use Rattle.paged_tables.proofs.FreedDone.{freed_done}
use Rattle.paged_tables.proofs.LeftDone.{left_done}
use Rattle.slot_paged.proofs.slot_paged.SlotPaged.set_unnamed.Goals as goal

pub put_freed-requires-clause-one : goal.put_freed-requires-clause-one
put_freed-requires-clause-one g c =
    let s = c.args.self.now in
    (alone_some (beside_of s.tables) c.entry-seen.result c.in-Some.home (sym c.alone_page.ensures ∙ c.in-Some.is)).one

pub returns-in-Some-clause-sets : goal.returns-in-Some-clause-sets
returns-in-Some-clause-sets g c e bare =
    let s = c.args.self.now in
    let b = beside_of s.tables in
    let store = g.S.Store.means in
    let new = c.put_freed.new.self in
    let x = alone_some b c.entry-seen.result c.in-Some.home (sym c.alone_page.ensures ∙ c.in-Some.is) in
    freed_done store s.store new.store b (beside_of new.tables) s.kept new.kept (g.met.S.Store.sound s.store).pages (g.met.S.Store.sound new.store).pages c.in-Some.home x.one c.args.at (record { page = c.requires.page; near = c.requires.near }) x.access
    (sym c.entry-seen.ensures.answer ∙ x.is) c.args.pointer c.requires.pointer e bare c.put_freed.ensures

pub returns-in-None-clause-sets : goal.returns-in-None-clause-sets
returns-in-None-clause-sets g c e bare =
    let s = c.args.self.now in
    let b = beside_of s.tables in
    let store = g.S.Store.means in
    let new = c.put_left.new.self in
    let none : alone_home b (look_at b.tables (store.homes s.store) c.args.at) ≡ None = ap (alone_home b) (sym c.entry-seen.ensures.answer) ∙ sym c.alone_page.ensures ∙ c.in-None.is in
    left_done store s.store new.store b (beside_of new.tables) s.kept new.kept (g.met.S.Store.sound s.store).pages (g.met.S.Store.sound new.store).pages c.args.at (record { page = c.requires.page; near = c.requires.near }) (alone_none b _ none) c.args.pointer c.requires.pointer e bare c.put_left.ensures

pub returns-in-Some-clause-frees : goal.returns-in-Some-clause-frees
returns-in-Some-clause-frees g c =
    let s = c.args.self.now in
    let b = beside_of s.tables in
    let x = alone_some b c.entry-seen.result c.in-Some.home (sym c.alone_page.ensures ∙ c.in-Some.is) in
    freed_frees g.S.Store.means s.store c.put_freed.new.self.store b (beside_of c.put_freed.new.self.tables) s.kept c.args.at c.args.pointer c.in-Some.home x.one x.access (sym c.entry-seen.ensures.answer ∙ x.is) c.put_freed.ensures

pub returns-in-None-clause-frees : goal.returns-in-None-clause-frees
returns-in-None-clause-frees g c =
    let s = c.args.self.now in
    left_frees g.S.Store.means s.store c.put_left.new.self.store (beside_of s.tables) (beside_of c.put_left.new.self.tables) s.kept c.args.at c.args.pointer c.put_left.ensures
