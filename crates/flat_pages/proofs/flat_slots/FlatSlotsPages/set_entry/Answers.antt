use Rattle.std.proofs.Common.{Option, None, Some, sym, ◌∙◌, ap, subst}
use Rattle.std.specs.Prelude.{IsSome}
use Rattle.std.specs.Option.{option_map}
use Rattle.machine_names.specs.declared.names.PageName.{PageName}
use Rattle.machine_names.specs.Orders.{file_page}
use Rattle.plain_pages.specs.NewEntries.{IsNewEntry}
use Rattle.flat_tables.specs.HeldMaps.{name_of}
use Rattle.flat_pages.specs.SlotMeaning.{filed_in}
use Rattle.flat_tables.specs.declared.held_entry.EntryAt.{EntryAt}
use Rattle.flat_tables.specs.declared.held_entry.HeldEntry.{HeldEntry}
use Rattle.flat_tables.specs.SlotSteps.{SetsEntry}
use Rattle.flat_tables.specs.TableSteps.{tables_of}
use Rattle.flat_pages.proofs.EntryChanges.{empty_set, filed_set, following_set, narrowed_set}
use Rattle.flat_tables.proofs.FiledHomes.{get_filed}
use Rattle.flat_pages.proofs.SlotSetting.{fork_some, narrowed_page}
use Rattle.flat_pages.proofs.flat_slots.FlatSlotsPages.set_entry.Goals as goal

pub set_unnamed-requires-clause-lives : goal.set_unnamed-requires-clause-lives
set_unnamed-requires-clause-lives g c = fork_some c.args.self.now.tables.maps.held.items c.args.slot.fork c.in-Some.map (sym c.map_of.ensures ∙ c.in-Some.is)

pub set_unnamed-requires-in-Follows-clause-lives : goal.set_unnamed-requires-in-Follows-clause-lives
set_unnamed-requires-in-Follows-clause-lives g c = fork_some c.args.self.now.tables.maps.held.items c.args.slot.fork c.in-Some.map (sym c.map_of.ensures ∙ c.in-Some.is)

pub set_kept-requires-clause-lives : goal.set_kept-requires-clause-lives
set_kept-requires-clause-lives g c = fork_some c.args.self.now.tables.maps.held.items c.args.slot.fork c.in-Some.map (sym c.map_of.ensures ∙ c.in-Some.is)

pub set_kept-requires-clause-page : goal.set_kept-requires-clause-page
set_kept-requires-clause-page g c = λ l a is.
    let before = narrowed_page c.in-Narrow.access c.entry-old.result l a (sym c.narrowed.ensures ∙ is) in
    c.args.self.now.agree.held.links _ l before.0 (c.entry-old.ensures ∙ ap Some before.1)

pub unreachable-requires : goal.unreachable-requires
unreachable-requires g c =
    let m = c.args.self.now.tables in
    let new = subst (IsNewEntry (filed_in (tables_of (g.S.Store.means.homes c.args.self.now.store) m))) c.in-FilePage.is c.requires.new in
    let none = get_filed m.names.items m.files (file_page c.in-FilePage.file.0 c.in-FilePage.page) ∙ ap (option_map (name_of m.names.items)) (sym c.filed.ensures ∙ c.in_default-filed.is) in
    (let z : IsSome {T = PageName} None = subst (λ (o : Option PageName). IsSome o) none new.1 in cc z)

pub set_filed-requires-clause-lives : goal.set_filed-requires-clause-lives
set_filed-requires-clause-lives g c = fork_some c.args.self.now.tables.maps.held.items c.args.slot.fork c.in-Some.map (sym c.map_of.ensures ∙ c.in-Some.is)

pub returns-in-Empty : goal.returns-in-Empty
returns-in-Empty g c = empty_set g.S.Store.means (λ p. p.store) (λ p. p.tables) c.args.self.now c.set_unnamed.new.self c.args.self.now.agree c.set_unnamed.new.self.agree c.args.slot c.in-Some.map (sym c.map_of.ensures ∙ c.in-Some.is) c.args.new c.requires.seen c.in-Empty.is c.set_unnamed.ensures

pub returns-in-Follows : goal.returns-in-Follows
returns-in-Follows g c = following_set g.S.Store.means (λ p. p.store) (λ p. p.tables) c.args.self.now c.set_unnamed-in-Follows.new.self c.args.self.now.agree c.set_unnamed-in-Follows.new.self.agree c.args.slot c.in-Some.map (sym c.map_of.ensures ∙ c.in-Some.is) c.args.new c.requires.seen _ _ c.in-Follows.is c.set_unnamed-in-Follows.ensures

pub returns-in-Narrow : goal.returns-in-Narrow
returns-in-Narrow g c =
    let at : EntryAt = record { map = c.in-Some.map; page = c.args.slot.page } in
    let sets = subst (λ (e : HeldEntry). SetsEntry g.S.Store.means c.args.self.now.store c.set_kept.new.self.store c.args.self.now.tables c.set_kept.new.self.tables at e) c.narrowed.ensures c.set_kept.ensures in
    narrowed_set g.S.Store.means (λ p. p.store) (λ p. p.tables) c.args.self.now c.set_kept.new.self c.args.self.now.agree c.set_kept.new.self.agree c.args.slot c.in-Some.map (sym c.map_of.ensures ∙ c.in-Some.is) c.args.new c.in-Narrow.access c.entry-old.result c.entry-old.ensures c.in-Narrow.is sets

pub returns-in-Some-filed : goal.returns-in-Some-filed
returns-in-Some-filed g c = filed_set g.S.Store.means (λ p. p.store) (λ p. p.tables) c.args.self.now c.set_filed.new.self c.args.self.now.agree c.set_filed.new.self.agree c.args.slot c.in-Some.map (sym c.map_of.ensures ∙ c.in-Some.is) c.args.new c.requires.seen c.in-FilePage.file c.in-FilePage.page c.in-FilePage.access c.in-Some-filed.home (sym c.filed.ensures ∙ c.in-Some-filed.is) c.in-FilePage.is c.set_filed.ensures
