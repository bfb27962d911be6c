use Rattle.paged_system.proofs.Keeping.{many_stay, tree_stays}
use Rattle.paged_system.proofs.Over.{lets_go}
use Rattle.paged_system.proofs.Placing.{state_placed}
use Rattle.paged_system.proofs.asked.PagedSystem.let_go.Goals as goal

pub invariant_of-self : goal.invariant_of-self
invariant_of-self g c = record {
  trees = tree_stays c.args.self.now c.let_go.new.self c.let_go.ensures.placed.beside.tree;
  many = many_stay c.args.self.now c.let_go.new.self c.let_go.ensures.lets_go.stays.framed.frames;
}

pub returns-clause-lets_go : goal.returns-clause-lets_go
returns-clause-lets_go g c = lets_go (λ s. s.system.pages) g.P.Pages.means.store c.args.self.now _ c.args.holder c.let_go.ensures.lets_go

pub returns-clause-state : goal.returns-clause-state
returns-clause-state g c = state_placed c.args.self.now _ c.let_go.ensures.placed (g.met.P.Pages.housed c.args.self.now.system.pages) (g.met.P.Pages.housed c.let_go.new.self.pages) c.let_go.ensures.lets_go.stays.homes c.let_go.ensures.plain
