use Rattle.sum_tree.proofs.sums.Sums.+boot.Given as goal

abbrev pub decreases-boot : goal.decreases-boot
decreases-boot l = l.bound
