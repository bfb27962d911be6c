use Rattle.plain_laws.proofs.Sleeps.{begins_so, none_goes, over_at, sleeps_on_so}
use Rattle.plain_laws.proofs.clock_laws.sleeps_are_over_at_their_moment.Goals as goal

pub returns-clause-begins : goal.returns-clause-begins
returns-clause-begins c = begins_so

pub returns-clause-sleeps_on : goal.returns-clause-sleeps_on
returns-clause-sleeps_on c = λ s f moment now some is. sleeps_on_so s f now some moment is

pub returns-clause-over : goal.returns-clause-over
returns-clause-over c = λ s f moment now some is. over_at s f now some moment is

pub returns-clause-none : goal.returns-clause-none
returns-clause-none c = none_goes
