use Rattle.jfn_table.proofs.Changes.{names_released, names_taken, others_taken}
use Rattle.jfn_table.proofs.laws.names_follow_the_jfns.Goals as goal

pub returns-clause-taken : goal.returns-clause-taken
returns-clause-taken c = names_taken

pub returns-clause-others : goal.returns-clause-others
returns-clause-others c = others_taken

pub returns-clause-released : goal.returns-clause-released
returns-clause-released c = names_released
