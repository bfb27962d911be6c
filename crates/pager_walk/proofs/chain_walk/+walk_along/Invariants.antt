use Rattle.pager_walk.proofs.chain_walk.+walk_along.Given as goal

abbrev pub decreases-walk_along : goal.decreases-walk_along
decreases-walk_along g l = l.most
