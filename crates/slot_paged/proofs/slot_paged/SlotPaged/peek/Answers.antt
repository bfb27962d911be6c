use Rattle.std.proofs.Common.{◌∙◌, refl, ap, subst, sym}
use Rattle.page_contracts.specs.Pages.{PeekNeeds}
use Rattle.paged_tables.specs.PageHomes.{peeked_home}
use Rattle.paged_tables.specs.PagedTables.{beside_of}
use Rattle.paged_tables.proofs.Homed.{peek_map, peek_needed, peek_nothing, peek_told, place_stands, place_tells}
use Rattle.slot_paged.proofs.slot_paged.SlotPaged.peek.Goals as goal

pub returns-in-At : goal.returns-in-At
returns-in-At g c =
    let s = c.args.self.now in
    let b = beside_of s.tables in
    let places = g.S.Store.means.homes s.store in
    let h = c.in-At.home in
    record {
      answer = c.peek_home.ensures ∙ ap (peeked_home places c.args.offset) c.in-At.ensures.answer;
      told = λ d fits. c.peek_home.ensures ∙ peek_told b places s.kept (g.met.S.Store.sound s.store).pages d fits c.args.at c.requires.place h (sym c.in-At.ensures.answer) (g.S.Store.means.spare s.store) c.args.offset;
      needs = subst (PeekNeeds g.S.Store.means s.store) (sym c.peek_home.ensures) (peek_needed g.S.Store.means s.store h c.args.offset (c.in-At.ensures.taken h refl));
    }

pub returns-in-MapAway-clause-told : goal.returns-in-MapAway-clause-told
returns-in-MapAway-clause-told g c d fits =
    let s = c.args.self.now in
    let b = beside_of s.tables in
    let places = g.S.Store.means.homes s.store in
    let pages = (g.met.S.Store.sound s.store).pages in
    sym (peek_map b places s.kept pages d fits c.args.at c.requires.place (place_stands b places s.kept c.args.at c.requires.place) (place_tells b places s.kept pages d fits c.args.at c.requires.place)
    c.in-MapAway.home (sym c.in-MapAway.ensures.answer) (g.S.Store.means.spare s.store) c.args.offset)

pub returns-in-NoPage-clause-told : goal.returns-in-NoPage-clause-told
returns-in-NoPage-clause-told g c d fits =
    let s = c.args.self.now in
    let b = beside_of s.tables in
    let places = g.S.Store.means.homes s.store in
    let pages = (g.met.S.Store.sound s.store).pages in
    sym (peek_nothing b places s.kept pages d fits c.args.at c.requires.place (place_stands b places s.kept c.args.at c.requires.place) (place_tells b places s.kept pages d fits c.args.at c.requires.place)
    (sym c.in-NoPage.ensures.answer) (g.S.Store.means.spare s.store) c.args.offset)

pub returns-in-MapAway-clause-answer : goal.returns-in-MapAway-clause-answer
returns-in-MapAway-clause-answer g c = ap (peeked_home (g.S.Store.means.homes c.args.self.now.store) c.args.offset) c.in-MapAway.ensures.answer

pub returns-in-NoPage-clause-answer : goal.returns-in-NoPage-clause-answer
returns-in-NoPage-clause-answer g c = ap (peeked_home (g.S.Store.means.homes c.args.self.now.store) c.args.offset) c.in-NoPage.ensures.answer
