use Rattle.plain_model.specs.State.{opening}
use Rattle.plain_laws.proofs.LivingRuns.{opening_living, step_living, steps_living}
use Rattle.plain_laws.proofs.Named.{opened_fit}
use Rattle.plain_pages.proofs.Whole.{live_whole}
use Rattle.plain_laws.proofs.entries.runs_are_whole.Goals as goal

pub returns-clause-opening : goal.returns-clause-opening
returns-clause-opening c = opening_living

pub returns-clause-kept : goal.returns-clause-kept
returns-clause-kept c = λ s step w fits. step_living s w step fits

pub returns-clause-whole : goal.returns-clause-whole
returns-clause-whole c = λ flat limit events entries fits follows legal. steps_living (opening limit) entries (opening_living limit) (opened_fit flat limit events entries fits follows legal)

pub returns-clause-counted : goal.returns-clause-counted
returns-clause-counted c = λ s w. live_whole s.pages w.machine.pages
