use Rattle.page_gather.proofs.chains.+walk.Given as goal

abbrev pub decreases-walk : goal.decreases-walk
decreases-walk g l = l.left
