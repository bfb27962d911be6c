use Rattle.plain_refusals.proofs.Unnamed.{no_fork, no_inferior, no_jfn, no_other, no_transfer}
use Rattle.plain_refusals.proofs.laws.who_names_none_is_refused.Goals as goal

pub returns-clause-forks : goal.returns-clause-forks
returns-clause-forks c = λ s f none. no_fork s f none

pub returns-clause-inferiors : goal.returns-clause-inferiors
returns-clause-inferiors c = λ s f g names. no_inferior s f g names

pub returns-clause-others : goal.returns-clause-others
returns-clause-others c = λ s f g names. no_other s f g names

pub returns-clause-jfns : goal.returns-clause-jfns
returns-clause-jfns c = λ s f none. no_jfn s f none

pub returns-clause-transfers : goal.returns-clause-transfers
returns-clause-transfers c = λ s f names. no_transfer s f names
