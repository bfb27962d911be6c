use Rattle.std.proofs.Common.{refl}
use Rattle.flat_pages.proofs.EntrySetting.{kept_step}
use Rattle.flat_pages.proofs.flat_slots.FlatSlots.set_kept.Goals as goal

pub invariant_of-self : goal.invariant_of-self
invariant_of-self g c =
    let store = c.args.self.now.store in
    let sound = g.met.S.Store.sound store in
    let step = kept_step g.S.Store.means store store sound sound c.args.self.now.tables c.keep_page.new.self c.args.at c.args.old c.args.new c.args.self.now.agree c.requires.there c.requires.page c.requires.lives refl c.requires.same (c.keep_page.ensures _) in
    record { agree = step.0; told = step.1 }

pub returns : goal.returns
returns g c =
    let store = c.args.self.now.store in
    let sound = g.met.S.Store.sound store in
    let step = kept_step g.S.Store.means store store sound sound c.args.self.now.tables c.keep_page.new.self c.args.at c.args.old c.args.new c.args.self.now.agree c.requires.there c.requires.page c.requires.lives refl c.requires.same (c.keep_page.ensures _) in
    step.2
