use Rattle.std.proofs.Common.{◌∙◌, Some, sym, ap}
use Rattle.flat_tables.specs.SlotTables.{plain_of}
use Rattle.flat_tables.specs.TableSteps.{tables_of}
use Rattle.flat_pages.proofs.Settling.{sized_of}
use Rattle.flat_pages.proofs.Meeting.{reached, unreached, reached_counted}
use Rattle.page_contracts.specs.Pages.{counted}
use Rattle.flat_pages.proofs.flat_slots.FlatSlotsPages.page_at.Goals as goal

pub returns-in-Some : goal.returns-in-Some
returns-in-Some g c =
    let s = c.args.self.now in
    let t = tables_of (g.S.Store.means.homes s.store) s.tables in
    let r = reached t s.agree c.args.at c.in-Some.home c.requires.place c.in-Some.ensures in
    record { told = λ d fits passes. (λ i. Some (c.name.ensures i, c.share.ensures i)) ∙ sym (reached_counted t s.agree c.args.at c.in-Some.home r d (sized_of t.places d fits (g.met.S.Store.sound s.store).pages)) }

pub returns-in-None : goal.returns-in-None
returns-in-None g c =
    let s = c.args.self.now in
    let t = tables_of (g.S.Store.means.homes s.store) s.tables in
    let u = unreached t s.agree c.args.at c.requires.place c.in-None.ensures in
    record { told = λ d fits passes. sym (ap (counted (plain_of t d)) (u.none d)) }
