use Rattle.std.proofs.Common.{refl, sym, ◌∙◌, ap}
use Rattle.flat_tables.specs.SlotTouches.{is_alone}
use Rattle.flat_tables.specs.TableSteps.{tables_of}
use Rattle.flat_tables.specs.declared.held_entry.HeldEntry.TheVariants.{Page}
use Rattle.flat_tables.proofs.Making.{alone_share}
use Rattle.flat_pages.proofs.EntrySetting.{freed_step}
use Rattle.flat_pages.proofs.flat_slots.FlatSlots.drop_page.Goals as goal

pub invariant_of-self : goal.invariant_of-self
invariant_of-self g c =
    let store = c.args.self.now.store in
    let t = tables_of (g.S.Store.means.homes store) c.args.self.now.tables in
    let one = alone_share t c.args.home c.args.old (ap (is_alone t.shares) (sym c.requires.there) ∙ c.requires.alone) in
    let step = freed_step g.S.Store.means store c.free.new.self (g.met.S.Store.sound store) (g.met.S.Store.sound c.free.new.self) c.args.self.now.tables c.drop_page.new.self c.args.at (Page c.args.home c.args.old) c.args.new
    c.args.self.now.agree c.requires.there c.requires.page c.requires.lives c.requires.none c.args.home c.args.old refl one c.free.ensures
    (ap (λ places. tables_of places c.drop_page.new.self) c.free.ensures.homes ∙ c.drop_page.ensures (g.S.Store.means.homes store)) in
    record { agree = step.0; told = step.1 }
