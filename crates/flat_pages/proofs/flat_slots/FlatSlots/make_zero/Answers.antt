use Rattle.std.proofs.Common.{refl}
use Rattle.plain_pages.specs.Maps.{full_access}
use Rattle.machine_names.specs.PageWords.{zero_words}
use Rattle.page_contracts.specs.Stores.{here}
use Rattle.flat_tables.specs.declared.held_entry.HeldEntry.TheVariants.{Empty}
use Rattle.flat_tables.specs.HeldMaps.{fork_at}
use Rattle.flat_tables.specs.TableSteps.{tables_of}
use Rattle.flat_tables.proofs.Making.{fits_one, some_lives, stays_shared, take_agrees, takes_home}
use Rattle.flat_pages.proofs.Telling.{tables_told}
use Rattle.flat_pages.proofs.flat_slots.FlatSlots.make_zero.Goals as goal

pub invariant_of-self : goal.invariant_of-self
invariant_of-self g c =
    let s = c.args.self.now in
    let store = g.S.Store.means in
    let t = tables_of (store.homes s.store) s.tables in
    let takes = takes_home store s.store c.make-home.new.self s.tables c.take_home.new.self c.args.at c.make-home.result (here zero_words) full_access c.args.owner c.make-home.ensures.made c.take_home.ensures in
    let agree = take_agrees store s.store c.make-home.new.self s.tables c.take_home.new.self c.args.at (here zero_words) full_access c.args.owner c.requires.owner s.agree takes
    Empty c.requires.empty (some_lives (fork_at s.tables.maps.held.items c.args.at.map) c.requires.lives) refl (stays_shared t Empty refl) (fits_one t c.requires.room) in
    record { agree = agree; told = tables_told (tables_of (store.homes c.make-home.new.self) c.take_home.new.self) agree (λ h words e. (g.met.S.Store.sound c.make-home.new.self).pages h words e) }

pub returns : goal.returns
returns g c =
    let s = c.args.self.now in
    takes_home g.S.Store.means s.store c.make-home.new.self s.tables c.take_home.new.self c.args.at c.make-home.result (here zero_words) full_access c.args.owner c.make-home.ensures.made c.take_home.ensures
