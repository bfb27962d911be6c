use Rattle.plain_laws.proofs.ByteTurns.{end_so, read_so}
use Rattle.plain_laws.proofs.byte_laws.bytes_are_read.Goals as goal

pub returns-clause-read : goal.returns-clause-read
returns-clause-read c = λ s f j w lives held yes before. read_so s f lives w.machine j held yes before

pub returns-clause-end : goal.returns-clause-end
returns-clause-end c = λ s f j w lives held yes ended. end_so s f lives w.machine j held yes ended
