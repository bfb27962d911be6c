use Rattle.std.proofs.Common.{rules}
use Rattle.clock_calls.proofs.turn.ending_of.Goals as goal

pub returns-in-12-clause-turn : goal.returns-in-12-clause-turn
returns-in-12-clause-turn c = let ends = c.time.ensures.turn c.args.who c.args.tree.now in search rules

pub returns-in-12-clause-fits : goal.returns-in-12-clause-fits
returns-in-12-clause-fits c = c.time.ensures.fits c.args.who
