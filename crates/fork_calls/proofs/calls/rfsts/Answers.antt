use Rattle.fork_calls.proofs.calls.rfsts.Goals as goal

pub place_word-requires-clause-fork : goal.place_word-requires-clause-fork
place_word-requires-clause-fork c = (c.requires.within c.in_ok-fork.fork c.in_ok-fork.ensures.lives).pc
