use Rattle.ka10_unit.proofs.plans.+follow.Given as goal

abbrev pub decreases-follow : goal.decreases-follow
decreases-follow g l = l.left
