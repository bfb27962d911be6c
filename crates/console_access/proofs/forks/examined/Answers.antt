use Rattle.std.proofs.Common.{sym}
use Rattle.console_access.proofs.forks.examined.Goals as goal

pub seen_word-requires-clause-fork : goal.seen_word-requires-clause-fork
seen_word-requires-clause-fork g c = (c.requires.each c.in-Some.fork.now (sym c.in-Some.ensures.found)).0
