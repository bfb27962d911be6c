use Rattle.std.proofs.Common.{ap}
use Rattle.paged_system.proofs.Keeping.{frames_completed, many_stay, same_paged, tree_stays}
use Rattle.paged_system.proofs.Over.{completes}
use Rattle.paged_system.proofs.Placing.{over_placed, told_placed}
use Rattle.paged_system.proofs.asked.PagedSystem.complete.Goals as goal

pub invariant_of-self : goal.invariant_of-self
invariant_of-self g c = record {
  trees = tree_stays c.args.self.now c.complete.new.self c.complete.ensures.placed.beside.tree;
  many = many_stay c.args.self.now c.complete.new.self (frames_completed _ _ _ _ _ _ _ _ _ _ c.complete.ensures.ends);
}

pub returns-clause-ends : goal.returns-clause-ends
returns-clause-ends g c =
    completes (λ s. s.system.pages) g.P.Pages.means.store c.args.self.now _ g.D.Drum.fault_count g.D.Drum.read_count g.D.Drum.write_count g.D.Drum.size c.args.drum.now c.complete.new.drum c.complete.result
    (λ same. same_paged c.args.self.now _ (c.complete.ensures.whole same)) c.complete.ensures.ends

pub returns-clause-told : goal.returns-clause-told
returns-clause-told g c = told_placed c.args.self.now _ c.complete.ensures.placed (g.met.P.Pages.housed c.args.self.now.system.pages) (g.met.P.Pages.housed c.complete.new.self.pages)

pub returns-clause-over : goal.returns-clause-over
returns-clause-over g c works =
    over_placed c.args.self.now _ c.complete.ensures.placed (g.met.P.Pages.housed c.args.self.now.system.pages) g.D.Drum.held c.args.drum.now c.complete.new.drum (λ d stands fits. c.complete.ensures.told d stands fits works)
