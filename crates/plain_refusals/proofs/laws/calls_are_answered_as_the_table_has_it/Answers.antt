use Rattle.plain_refusals.proofs.AllAnswers.{all_answered, others_trap}
use Rattle.plain_refusals.proofs.laws.calls_are_answered_as_the_table_has_it.Goals as goal

pub returns-clause-calls : goal.returns-clause-calls
returns-clause-calls c = λ s f. all_answered s f

pub returns-clause-others : goal.returns-clause-others
returns-clause-others c = λ s f number none. others_trap s f number none
