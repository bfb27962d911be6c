use Rattle.paged_system.proofs.Keeping.{many_stay, tree_stays}
use Rattle.paged_system.proofs.Over.{evicts}
use Rattle.paged_system.proofs.Placing.{state_placed}
use Rattle.paged_system.proofs.asked.PagedSystem.evict.Goals as goal

pub invariant_of-self : goal.invariant_of-self
invariant_of-self g c = record {
  trees = tree_stays c.args.self.now c.evict.new.self c.evict.ensures.placed.beside.tree;
  many = many_stay c.args.self.now c.evict.new.self c.evict.ensures.evicts.stays.framed.frames;
}

pub returns-clause-evicts : goal.returns-clause-evicts
returns-clause-evicts g c = evicts (λ s. s.system.pages) g.P.Pages.means.store c.args.self.now _ c.args.frame.0 c.evict.ensures.evicts

pub returns-clause-state : goal.returns-clause-state
returns-clause-state g c = state_placed c.args.self.now _ c.evict.ensures.placed (g.met.P.Pages.housed c.args.self.now.system.pages) (g.met.P.Pages.housed c.evict.new.self.pages) c.evict.ensures.evicts.stays.homes c.evict.ensures.plain
