use Rattle.std.proofs.Common.{List, [], sym, subst}
use Rattle.page_gather.specs.declared.change.Change.{Change}
use Rattle.page_gather.specs.declared.reference.PageReference.{PageReference}
use Rattle.page_gather.specs.Gathering.{AreGathered}
use Rattle.page_gather.proofs.Answering.{none_gathered}
use Rattle.page_gather.proofs.gather.Gather.restart.Goals as goal

pub returns-clause-told : goal.returns-clause-told
returns-clause-told c p scene sound =
    subst (λ (rs : List PageReference). AreGathered p scene c.args.owner rs c.clear-2.new.self.items 0) (sym c.clear.ensures)
    (subst (λ (cs : List Change). AreGathered p scene c.args.owner [] cs 0) (sym c.clear-2.ensures) (none_gathered p scene c.args.owner sound c.requires))
