use Rattle.std.proofs.Common.{subst}
use Rattle.page_contracts.specs.Pages.{MapFollowsFork}
use Rattle.paged_tables.specs.PagedTables.{beside_of}
use Rattle.known_slots.proofs.MapsAdded.{fork_added}
use Rattle.known_slots.proofs.pages.KnownSlotsPages.add_fork.Goals as goal

pub add_fork-requires-clause-leader : goal.add_fork-requires-clause-leader
add_fork-requires-clause-leader g c leader is = subst MapFollowsFork is c.requires.follows

pub returns : goal.returns
returns g c =
    let s = c.args.self.now in
    fork_added g.S.Store.means (λ p. p.pages.store) (λ p. beside_of p.pages.tables) s _ c.args.fork c.args.map s.pages.kept c.add_fork.new.self.kept c.add_fork.ensures
