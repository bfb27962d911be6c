use Rattle.paged_system.proofs.Keeping.{many_stay, tree_stays}
use Rattle.paged_system.proofs.Over.{tells}
use Rattle.paged_system.proofs.Placing.{state_placed}
use Rattle.paged_system.proofs.asked.PagedSystem.cancelled.Goals as goal

pub invariant_of-self : goal.invariant_of-self
invariant_of-self g c = record {
  trees = tree_stays c.args.self.now c.cancelled.new.self c.cancelled.ensures.placed.beside.tree;
  many = many_stay c.args.self.now c.cancelled.new.self c.cancelled.ensures.tells.stays.framed.frames;
}

pub returns-clause-tells : goal.returns-clause-tells
returns-clause-tells g c = tells (λ s. s.system.pages) g.P.Pages.means.store c.args.self.now _ c.cancelled.result c.cancelled.ensures.tells

pub returns-clause-state : goal.returns-clause-state
returns-clause-state g c = state_placed c.args.self.now _ c.cancelled.ensures.placed (g.met.P.Pages.housed c.args.self.now.system.pages) (g.met.P.Pages.housed c.cancelled.new.self.pages) c.cancelled.ensures.tells.stays.homes c.cancelled.ensures.plain
