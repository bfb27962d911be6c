use Rattle.std.proofs.Common.{◌∙◌, sym, ap, subst}
use Rattle.flat_tables.specs.TableSteps.{tables_of}
use Rattle.plain_pages.specs.declared.map.MapEntry.{MapEntry}
use Rattle.page_contracts.specs.declared.answers.Seen.TheVariants.{Is}
use Rattle.page_contracts.specs.Pages.{FollowsPage}
use Rattle.flat_tables.proofs.ForkMaps.{index_fork}
use Rattle.flat_pages.proofs.Seeing.{there_is, seen_is, follows_page, seen_none}
use Rattle.flat_pages.proofs.flat_slots.FlatSlotsPages.entry.Goals as goal

pub entry-requires : goal.entry-requires
entry-requires g c =
    let s = c.args.self.now in
    there_is s.tables.maps.held.items s.agree.held c.in-Some.map c.args.slot.page (index_fork s.tables.maps.held.items c.args.slot.fork c.in-Some.map (sym c.in-Some.ensures)) c.requires

pub returns-in-Some-clause-told : goal.returns-in-Some-clause-told
returns-in-Some-clause-told g c d fits =
    let s = c.args.self.now in
    let t = tables_of (g.S.Store.means.homes s.store) s.tables in
    ap Is c.seen.ensures ∙ sym (seen_is t s.agree d (g.S.Store.means.spare s.store) c.args.slot c.in-Some.map c.entry.result (sym c.in-Some.ensures) c.entry.ensures)

pub returns-in-Some-clause-follows : goal.returns-in-Some-clause-follows
returns-in-Some-clause-follows g c =
    let s = c.args.self.now in
    subst (λ (e : MapEntry). FollowsPage (Is e)) (sym c.seen.ensures) (follows_page s.tables.names.items s.tables.maps.held.items s.agree.held (record { map = c.in-Some.map; page = c.args.slot.page }) c.entry.result c.entry.ensures)

pub returns-in-None-clause-told : goal.returns-in-None-clause-told
returns-in-None-clause-told g c d fits =
    let s = c.args.self.now in
    let t = tables_of (g.S.Store.means.homes s.store) s.tables in
    sym (seen_none t d (g.S.Store.means.spare s.store) c.args.slot (sym c.in-None.ensures))
