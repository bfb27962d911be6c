use Rattle.std.proofs.Common.{refl}
use Rattle.flat_tables.specs.TableSteps.{tables_of}
use Rattle.flat_pages.proofs.FileCounts.{share_few}
use Rattle.flat_pages.proofs.FileSetting.{file_joined_step, join_below}
use Rattle.flat_pages.proofs.flat_slots.FlatSlots.join_file.Goals as goal

pub join_file-requires-clause-share : goal.join_file-requires-clause-share
join_file-requires-clause-share g c = join_below (tables_of (g.S.Store.means.homes c.args.self.now.store) c.args.self.now.tables) c.args.self.now.agree c.args.home c.requires.named

pub join_file-requires-clause-few : goal.join_file-requires-clause-few
join_file-requires-clause-few g c = share_few (tables_of (g.S.Store.means.homes c.args.self.now.store) c.args.self.now.tables) c.args.self.now.agree c.args.home.0

pub invariant_of-self : goal.invariant_of-self
invariant_of-self g c =
    let s = c.args.self.now in
    let store = g.S.Store.means in
    let sound = g.met.S.Store.sound s.store in
    let step = file_joined_step store s.store s.store sound sound s.tables c.join_file.new.self _ s.agree refl c.args.home c.requires.named c.requires.page c.requires.none (c.join_file.ensures (store.homes s.store)) in
    record { agree = step.0; told = step.1 }

pub returns : goal.returns
returns g c =
    let s = c.args.self.now in
    let store = g.S.Store.means in
    let sound = g.met.S.Store.sound s.store in
    (file_joined_step store s.store s.store sound sound s.tables c.join_file.new.self _ s.agree refl c.args.home c.requires.named c.requires.page c.requires.none (c.join_file.ensures (store.homes s.store))).2
