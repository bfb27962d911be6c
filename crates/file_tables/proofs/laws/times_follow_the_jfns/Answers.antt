use Rattle.file_tables.proofs.Counts.{named_besides, named_by_some}
use Rattle.file_tables.proofs.laws.times_follow_the_jfns.Goals as goal

pub returns-clause-named : goal.returns-clause-named
returns-clause-named c = λ jobs name. named_by_some name jobs

pub returns-clause-besides : goal.returns-clause-besides
returns-clause-besides c = λ jobs t n name own. named_besides name jobs t n own
