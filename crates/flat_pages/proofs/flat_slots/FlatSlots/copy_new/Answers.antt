use Rattle.std.proofs.Common.{◌∙◌, sym, ap}
use Rattle.page_contracts.specs.Stores.{place}
use Rattle.flat_tables.specs.HeldMaps.{fork_at, held_entry}
use Rattle.flat_tables.specs.SlotTouches.{is_alone}
use Rattle.flat_tables.specs.TableSteps.{tables_of}
use Rattle.flat_tables.proofs.Making.{fits_one, some_lives, stays_shared, take_agrees, held_is, here_taken, takes_home}
use Rattle.flat_pages.proofs.Telling.{tables_told}
use Rattle.flat_pages.proofs.flat_slots.FlatSlots.copy_new.Goals as goal

pub invariant_of-self : goal.invariant_of-self
invariant_of-self g c =
    let s = c.args.self.now in
    let store = g.S.Store.means in
    let t = tables_of (store.homes s.store) s.tables in
    let page = place (store.homes s.store) c.args.from.0 in
    let q = held_is (held_entry s.tables.maps.held.items c.args.at) c.requires.there in
    let takes = takes_home store s.store c.copy-home.new.self s.tables c.take_home.new.self c.args.at c.copy-home.result page c.args.access c.args.owner c.copy-home.ensures.made c.take_home.ensures in
    let agree = take_agrees store s.store c.copy-home.new.self s.tables c.take_home.new.self c.args.at page c.args.access c.args.owner c.requires.owner s.agree takes
    q.0 q.1 (some_lives (fork_at s.tables.maps.held.items c.args.at.map) c.requires.lives) (here_taken page c.requires.from) (stays_shared t q.0 (ap (is_alone s.tables.shares.items) (sym q.1) ∙ c.requires.shared)) (fits_one t c.requires.room) in
    record { agree = agree; told = tables_told (tables_of (store.homes c.copy-home.new.self) c.take_home.new.self) agree (λ h words e. (g.met.S.Store.sound c.copy-home.new.self).pages h words e) }

pub returns : goal.returns
returns g c =
    let s = c.args.self.now in
    takes_home g.S.Store.means s.store c.copy-home.new.self s.tables c.take_home.new.self c.args.at c.copy-home.result (place (g.S.Store.means.homes s.store) c.args.from.0) c.args.access c.args.owner c.copy-home.ensures.made c.take_home.ensures
