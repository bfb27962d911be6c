use Rattle.paged_events.proofs.typing.+deeds.Given as goal

abbrev pub decreases-deeds : goal.decreases-deeds
decreases-deeds g l = l.left
