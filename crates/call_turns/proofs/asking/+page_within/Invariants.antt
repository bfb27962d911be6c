use Rattle.call_turns.proofs.asking.+page_within.Given as goal

abbrev pub decreases-page_within : goal.decreases-page_within
decreases-page_within g l = l.links
