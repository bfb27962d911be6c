use Rattle.std.proofs.Common.{ap, ◌∙◌}
use Rattle.flat_tables.specs.TableSteps.{tables_of}
use Rattle.flat_pages.proofs.FileSetting.{file_freed_step}
use Rattle.flat_pages.proofs.flat_slots.FlatSlots.free_filed.Goals as goal

pub invariant_of-self : goal.invariant_of-self
invariant_of-self g c =
    let s = c.args.self.now in
    let store = g.S.Store.means in
    let same = ap (λ places. tables_of places c.free_file.new.self) c.free.ensures.homes ∙ c.free_file.ensures (store.homes s.store) in
    let step = file_freed_step store s.store c.free.new.self (g.met.S.Store.sound s.store) (g.met.S.Store.sound c.free.new.self) s.tables c.free_file.new.self _ s.agree c.args.home c.requires.there c.requires.alone c.free.ensures same in
    record { agree = step.0; told = step.1 }

pub returns : goal.returns
returns g c =
    let s = c.args.self.now in
    let store = g.S.Store.means in
    let same = ap (λ places. tables_of places c.free_file.new.self) c.free.ensures.homes ∙ c.free_file.ensures (store.homes s.store) in
    (file_freed_step store s.store c.free.new.self (g.met.S.Store.sound s.store) (g.met.S.Store.sound c.free.new.self) s.tables c.free_file.new.self _ s.agree c.args.home c.requires.there c.requires.alone c.free.ensures same).2
