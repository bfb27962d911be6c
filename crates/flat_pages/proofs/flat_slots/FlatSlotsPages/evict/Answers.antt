use Rattle.std.proofs.Common.{ap}
use Rattle.flat_tables.specs.TableSteps.{tables_of}
use Rattle.flat_pages.proofs.HandedOn.{stays_same}
use Rattle.flat_pages.proofs.flat_slots.FlatSlotsPages.evict.Goals as goal

pub returns-clause-same : goal.returns-clause-same
returns-clause-same g c =
    let s = c.args.self.now in
    let there = c.evict.ensures.stays in
    stays_same g.S.Store.means (λ p. p.store) (λ p. tables_of (g.S.Store.means.homes p.store) p.tables) s _ (ap (λ places. tables_of places s.tables) there.homes) there.framed.spare there.framed.found
