use Rattle.std.proofs.Common.{◌≡◌, ◌∙◌, Some, None, ap, sym}
use Rattle.page_contracts.specs.Pages.{counted}
use Rattle.paged_tables.specs.PageHomes.{counted_home}
use Rattle.paged_tables.specs.PagedTables.{beside_of, plain_over}
use Rattle.paged_tables.proofs.Homed.{counted_told, map_gone, none_named, place_stands, place_tells}
use Rattle.slot_paged.proofs.slot_paged.SlotPaged.page_at.Goals as goal

pub returns-in-At : goal.returns-in-At
returns-in-At g c =
    let s = c.args.self.now in
    let b = beside_of s.tables in
    let places = g.S.Store.means.homes s.store in
    let pages = (g.met.S.Store.sound s.store).pages in
    record {
      answer = (λ i. Some (c.name.ensures i, c.names_of.ensures i)) ∙ ap (counted_home b) c.in-At.ensures.answer;
      told = λ d fits passes. (λ i. Some (c.name.ensures i, c.names_of.ensures i))
          ∙ sym (counted_told b places s.kept pages d fits c.args.at c.requires (place_stands b places s.kept c.args.at c.requires) (place_tells b places s.kept pages d fits c.args.at c.requires) c.in-At.home (sym c.in-At.ensures.answer));
    }

pub returns-in-MapAway : goal.returns-in-MapAway
returns-in-MapAway g c =
    let s = c.args.self.now in
    let b = beside_of s.tables in
    let places = g.S.Store.means.homes s.store in
    let pages = (g.met.S.Store.sound s.store).pages in
    record {
      answer = ap (counted_home b) c.in-MapAway.ensures.answer;
      told = λ d fits passes.
          let gone = map_gone b places s.kept pages d fits c.args.at c.requires (place_stands b places s.kept c.args.at c.requires) (place_tells b places s.kept pages d fits c.args.at c.requires) c.in-MapAway.field-0 (sym c.in-MapAway.ensures.answer) (g.S.Store.means.spare s.store) in
          absurd (let z : None ≡ Some c.in-MapAway.field-0.0 = sym passes ∙ gone in cc z);
    }

pub returns-in-NoPage : goal.returns-in-NoPage
returns-in-NoPage g c =
    let s = c.args.self.now in
    let b = beside_of s.tables in
    let places = g.S.Store.means.homes s.store in
    let pages = (g.met.S.Store.sound s.store).pages in
    record {
      answer = ap (counted_home b) c.in-NoPage.ensures.answer;
      told = λ d fits passes. sym (ap (counted (plain_over b places d)) (none_named b places s.kept pages d fits c.args.at c.requires (place_stands b places s.kept c.args.at c.requires) (place_tells b places s.kept pages d fits c.args.at c.requires) (sym c.in-NoPage.ensures.answer)));
    }
