use Rattle.paged_system.proofs.Keeping.{many_stay, tree_stays}
use Rattle.paged_system.proofs.Over.{can_keep, keeps}
use Rattle.paged_system.proofs.Placing.{state_placed}
use Rattle.paged_system.proofs.asked.PagedSystem.keep.Goals as goal

pub keep-requires-clause-can : goal.keep-requires-clause-can
keep-requires-clause-can g c = can_keep (λ s. s.system.pages) g.P.Pages.means.store c.args.self.now c.args.self.now c.args.holder c.args.home.0 c.requires.can

pub invariant_of-self : goal.invariant_of-self
invariant_of-self g c = record {
  trees = tree_stays c.args.self.now c.keep.new.self c.keep.ensures.placed.beside.tree;
  many = many_stay c.args.self.now c.keep.new.self c.keep.ensures.keeps.stays.framed.frames;
}

pub returns-clause-keeps : goal.returns-clause-keeps
returns-clause-keeps g c = keeps (λ s. s.system.pages) g.P.Pages.means.store c.args.self.now _ c.args.holder c.args.home.0 c.keep.ensures.keeps

pub returns-clause-state : goal.returns-clause-state
returns-clause-state g c = state_placed c.args.self.now _ c.keep.ensures.placed (g.met.P.Pages.housed c.args.self.now.system.pages) (g.met.P.Pages.housed c.keep.new.self.pages) c.keep.ensures.keeps.stays.homes c.keep.ensures.plain
