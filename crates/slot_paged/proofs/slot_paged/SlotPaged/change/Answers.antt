use Rattle.std.proofs.Common.{◌≡◌, Option, None, refl, sym, ◌∙◌, ap, subst}
use Rattle.std.specs.Prelude.{IsSome}
use Rattle.std.specs.Option.{option_map}
use Rattle.machine_names.specs.declared.names.PageName.{PageName}
use Rattle.machine_names.specs.Orders.{file_page}
use Rattle.plain_pages.specs.declared.map.NewEntry.TheVariants as new_entry
use Rattle.plain_pages.specs.NewEntries.{IsNewEntry}
use Rattle.pager_walk.specs.declared.paged_entry.PagedEntry.TheVariants as paged
use Rattle.pager_walk.specs.PagedMaps.{name_of, plain_entry}
use Rattle.flat_tables.proofs.FiledHomes.{get_filed}
use Rattle.paged_tables.specs.PagedTables.{beside_of}
use Rattle.paged_tables.specs.PagedSlots.{filed_over}
use Rattle.paged_tables.proofs.EntryChanged.{page_is}
use Rattle.slot_paged.proofs.ChangedEntries.{narrowed_anew, narrowed_keeps, set_anew}
use Rattle.slot_paged.proofs.slot_paged.SlotPaged.change.Goals as goal

pub unreachable-requires : goal.unreachable-requires
unreachable-requires g c =
    let b = beside_of c.args.self.now.tables in
    let f = file_page c.in-FilePage.file.0 c.in-FilePage.page in
    let some : IsSome (filed_over b f) = (subst (IsNewEntry (filed_over b)) c.in-FilePage.is c.requires.new).1 in
    let none : filed_over b f ≡ None = get_filed b.tables.names b.files f ∙ ap (option_map (name_of b.tables.names)) (sym c.filed.ensures ∙ c.in_default.is) in
    (let z = subst (λ (o : Option PageName). IsSome o) none some in cc z)

pub returns-in-Empty-clause-changes : goal.returns-in-Empty-clause-changes
returns-in-Empty-clause-changes g c =
    set_anew g.met.S.Store.sound c.args.self.now c.set_unnamed.new.self c.args.slot c.requires.page c.args.seen c.requires.seen c.args.new new_entry.Empty c.in-Empty.is paged.Empty (c.set_unnamed.ensures.sets paged.Empty refl) (λ d. refl)

pub returns-in-Follows-clause-changes : goal.returns-in-Follows-clause-changes
returns-in-Follows-clause-changes g c =
    let e = paged.Follows c.in-Follows.serial c.in-Follows.page c.in-Follows.access in
    set_anew g.met.S.Store.sound c.args.self.now c.set_unnamed-in-Follows.new.self c.args.slot c.requires.page c.args.seen c.requires.seen c.args.new (new_entry.Follows c.in-Follows.serial c.in-Follows.page c.in-Follows.access) c.in-Follows.is e
    (c.set_unnamed-in-Follows.ensures.sets e refl) (λ d. refl)

pub returns-in-Some-clause-changes : goal.returns-in-Some-clause-changes
returns-in-Some-clause-changes g c =
    let s = c.args.self.now in
    let b = beside_of s.tables in
    set_anew g.met.S.Store.sound s c.set_page.new.self c.args.slot c.requires.page c.args.seen c.requires.seen c.args.new (new_entry.FilePage c.in-FilePage.file c.in-FilePage.page c.in-FilePage.access) c.in-FilePage.is (paged.Page c.in-Some.home c.in-FilePage.access) c.set_page.ensures.sets
    (λ d. page_is b (g.S.Store.means.homes s.store) d c.in-FilePage.file c.in-FilePage.page c.in-FilePage.access c.in-Some.home (plain_entry b.tables.names c.args.seen) (sym c.filed.ensures ∙ c.in-Some.is))

pub returns-in-Narrow-clause-changes : goal.returns-in-Narrow-clause-changes
returns-in-Narrow-clause-changes g c = narrowed_anew g.met.S.Store.sound c.args.self.now c.narrow_entry.new.self c.args.slot c.requires.page c.args.seen c.requires.seen c.in-Narrow.access c.narrow_entry.ensures c.args.new c.in-Narrow.is

pub returns-in-Empty-clause-keeps : goal.returns-in-Empty-clause-keeps
returns-in-Empty-clause-keeps g c = c.set_unnamed.ensures.frees.keeps

pub returns-in-Follows-clause-keeps : goal.returns-in-Follows-clause-keeps
returns-in-Follows-clause-keeps g c = c.set_unnamed-in-Follows.ensures.frees.keeps

pub returns-in-Some-clause-keeps : goal.returns-in-Some-clause-keeps
returns-in-Some-clause-keeps g c = c.set_page.ensures.keeps

pub returns-in-Narrow-clause-keeps : goal.returns-in-Narrow-clause-keeps
returns-in-Narrow-clause-keeps g c = narrowed_keeps g.met.S.Store.sound c.args.self.now c.narrow_entry.new.self c.args.slot c.requires.page c.args.seen c.requires.seen c.in-Narrow.access c.narrow_entry.ensures
