use Rattle.paged_system.proofs.Keeping.{many_stay, tree_stays}
use Rattle.paged_system.proofs.Over.{can_fetch, fetched}
use Rattle.paged_system.proofs.Placing.{state_placed}
use Rattle.paged_system.proofs.asked.PagedSystem.fetch.Goals as goal

pub fetch-requires : goal.fetch-requires
fetch-requires g c = can_fetch (λ s. s.system.pages) g.P.Pages.means.store c.args.self.now c.args.self.now c.args.need c.requires

pub invariant_of-self : goal.invariant_of-self
invariant_of-self g c = record {
  trees = tree_stays c.args.self.now c.fetch.new.self c.fetch.ensures.placed.beside.tree;
  many = many_stay c.args.self.now c.fetch.new.self c.fetch.ensures.fetched.frames;
}

pub returns-clause-fetched : goal.returns-clause-fetched
returns-clause-fetched g c = fetched (λ s. s.system.pages) g.P.Pages.means.store c.args.self.now _ c.args.need c.fetch.ensures.fetched

pub returns-clause-state : goal.returns-clause-state
returns-clause-state g c = state_placed c.args.self.now _ c.fetch.ensures.placed (g.met.P.Pages.housed c.args.self.now.system.pages) (g.met.P.Pages.housed c.fetch.new.self.pages) c.fetch.ensures.fetched.homes c.fetch.ensures.plain
