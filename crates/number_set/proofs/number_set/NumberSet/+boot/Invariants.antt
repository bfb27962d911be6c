use Rattle.number_set.proofs.number_set.NumberSet.+boot.Given as goal

abbrev pub decreases-boot : goal.decreases-boot
decreases-boot l = l.bound
