use Rattle.plain_model.specs.State.{opening}
use Rattle.plain_laws.proofs.LivingRuns.{opening_living, steps_living}
use Rattle.plain_laws.proofs.Named.{opened_fit}
use Rattle.plain_laws.proofs.interrupt_laws.codes_do_not_outlive_their_forks.Goals as goal

pub returns-clause-living : goal.returns-clause-living
returns-clause-living c = λ s t j code channel f w is assigned. w.codes t.0 j is code f channel assigned

pub returns-clause-always : goal.returns-clause-always
returns-clause-always c = λ flat limit events entries fits follows legal. (let w = steps_living (opening limit) entries (opening_living limit) (opened_fit flat limit events entries fits follows legal) in w.codes)
