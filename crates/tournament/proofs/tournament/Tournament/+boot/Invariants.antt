use Rattle.tournament.proofs.tournament.Tournament.+boot.Given as goal

abbrev pub decreases-boot : goal.decreases-boot
decreases-boot l = l.bound
