use Rattle.paged_tables.specs.PagedTables.{beside_of}
use Rattle.known_slots.proofs.ForksDropped.{fork_dropped}
use Rattle.known_slots.proofs.pages.KnownSlotsPages.drop_fork.Goals as goal

pub returns : goal.returns
returns g c =
    let s = c.args.self.now in
    fork_dropped g.S.Store.means (λ p. p.pages.store) (λ p. beside_of p.pages.tables) s _ c.args.fork s.pages.kept c.drop_fork.new.self.kept g.met.S.Store.sound c.drop_fork.ensures
