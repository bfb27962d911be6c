use Rattle.std.proofs.Common.{◌≡◌, ◌<◌, ◌∙◌, sym, ap, subst}
use Rattle.page_contracts.specs.Stores.{place}
use Rattle.flat_tables.specs.HeldMaps.{fork_at}
use Rattle.flat_tables.specs.SlotTables.{AreTables, share_of}
use Rattle.flat_tables.specs.SlotTouches.{is_alone}
use Rattle.flat_tables.specs.TableSteps.{tables_of}
use Rattle.flat_tables.proofs.Making.{some_lives, alone_share, here_taken, home_under}
use Rattle.flat_tables.proofs.Taking.{renamed_tables}
use Rattle.flat_pages.proofs.Telling.{tables_told}
use Rattle.flat_pages.proofs.flat_slots.FlatSlots.copy_alone.Goals as goal

pub returns-clause-tables : goal.returns-clause-tables
returns-clause-tables g c = ap (λ homes. tables_of homes c.rename_home.new.self) c.used.ensures.homes ∙ c.rename_home.ensures (g.S.Store.means.homes c.args.self.now.store)

pub invariant_of-self : goal.invariant_of-self
invariant_of-self g c =
    let s = c.args.self.now in
    let store = g.S.Store.means in
    let t = tables_of (store.homes s.store) s.tables in
    let one : share_of s.tables.shares.items c.args.home.0 ≡ 1 = alone_share t c.args.home c.args.old (ap (is_alone s.tables.shares.items) (sym c.requires.entry) ∙ c.requires.alone) in
    let below : c.args.home.0 < t.limit = home_under t s.agree c.args.home.0 (here_taken (place (store.homes s.store) c.args.home.0) c.requires.from) in
    let same = ap (λ homes. tables_of homes c.rename_home.new.self) c.used.ensures.homes ∙ c.rename_home.ensures (store.homes s.store) in
    let agree = subst AreTables (sym same) (renamed_tables t s.agree c.args.owner c.requires.owner c.args.home.0 below c.args.at c.args.access c.args.old c.requires.entry (some_lives (fork_at s.tables.maps.held.items c.args.at.map) c.requires.lives) one) in
    record { agree = agree; told = tables_told (tables_of (store.homes c.used.new.self) c.rename_home.new.self) agree (λ h words e. (g.met.S.Store.sound c.used.new.self).pages h words e) }
