use Rattle.std.proofs.Common.{refl}
use Rattle.plain_laws.proofs.Sleeps.{begins_so}
use Rattle.plain_laws.proofs.clock_laws.interrupted_sleeps_begin_anew.Goals as goal

pub returns-clause-ended : goal.returns-clause-ended
returns-clause-ended c = λ f d. refl

pub returns-clause-stays : goal.returns-clause-stays
returns-clause-stays c = λ f level. refl

pub returns-clause-anew : goal.returns-clause-anew
returns-clause-anew c = λ s f g d now none some. begins_so s g now some none
