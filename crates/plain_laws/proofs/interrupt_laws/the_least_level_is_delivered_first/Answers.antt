use Rattle.plain_laws.proofs.LeastFirst.{first_so, none_so}
use Rattle.plain_laws.proofs.interrupt_laws.the_least_level_is_delivered_first.Goals as goal

pub returns-clause-first : goal.returns-clause-first
returns-clause-first c = λ s f words q d reads is. first_so s f words q d reads is

pub returns-clause-none : goal.returns-clause-none
returns-clause-none c = λ s f words q reads is. none_so s f words q reads is
