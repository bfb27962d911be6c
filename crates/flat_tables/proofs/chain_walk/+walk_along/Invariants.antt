use Rattle.flat_tables.proofs.chain_walk.+walk_along.Given as goal

abbrev pub decreases-walk_along : goal.decreases-walk_along
decreases-walk_along l = l.most
