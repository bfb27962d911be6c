use Rattle.std.proofs.Common.{refl}
use Rattle.flat_tables.specs.HeldMaps.{fork_at}
use Rattle.flat_tables.specs.TableSteps.{tables_of}
use Rattle.flat_pages.proofs.FileCounts.{share_few}
use Rattle.flat_pages.proofs.FileSetting.{entry_joined_step, join_below}
use Rattle.flat_tables.proofs.Making.{some_lives}
use Rattle.flat_pages.proofs.flat_slots.FlatSlots.join_entry.Goals as goal

pub join_entry-requires-clause-share : goal.join_entry-requires-clause-share
join_entry-requires-clause-share g c = join_below (tables_of (g.S.Store.means.homes c.args.self.now.store) c.args.self.now.tables) c.args.self.now.agree c.args.home c.requires.named

pub join_entry-requires-clause-few : goal.join_entry-requires-clause-few
join_entry-requires-clause-few g c = share_few (tables_of (g.S.Store.means.homes c.args.self.now.store) c.args.self.now.tables) c.args.self.now.agree c.args.home.0

pub invariant_of-self : goal.invariant_of-self
invariant_of-self g c =
    let s = c.args.self.now in
    let store = g.S.Store.means in
    let sound = g.met.S.Store.sound s.store in
    let step = entry_joined_step store s.store s.store sound sound s.tables c.join_entry.new.self c.args.at c.args.home c.args.access s.agree refl c.requires.there (some_lives (fork_at s.tables.maps.held.items c.args.at.map) c.requires.lives) c.requires.named (c.join_entry.ensures (store.homes s.store)) in
    record { agree = step.0; told = step.1 }

pub returns : goal.returns
returns g c =
    let s = c.args.self.now in
    let store = g.S.Store.means in
    let sound = g.met.S.Store.sound s.store in
    (entry_joined_step store s.store s.store sound sound s.tables c.join_entry.new.self c.args.at c.args.home c.args.access s.agree refl c.requires.there (some_lives (fork_at s.tables.maps.held.items c.args.at.map) c.requires.lives) c.requires.named (c.join_entry.ensures (store.homes s.store))).2
