use Rattle.paged_events.proofs.typing.+type_text.Given as goal

abbrev pub decreases-type_text : goal.decreases-type_text
decreases-type_text g l = l.left
