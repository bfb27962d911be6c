use Rattle.plain_model.specs.Events.{outer}
use Rattle.std.proofs.Common.{refl}
use Rattle.plain_laws.proofs.Sleeps.{due_runs, early_stays, none_comes, others_stay}
use Rattle.plain_laws.proofs.clock_laws.ticks_awake_who_is_due.Goals as goal

pub returns-clause-due : goal.returns-clause-due
returns-clause-due c = λ s f moment w lives. due_runs s w f lives moment

pub returns-clause-early : goal.returns-clause-early
returns-clause-early c = λ s f moment w lives. early_stays s w f lives moment

pub returns-clause-others : goal.returns-clause-others
returns-clause-others c = λ s f w lives. others_stay s w f lives

pub returns-clause-no_more : goal.returns-clause-no_more
returns-clause-no_more c = λ s name w. none_comes s w name

pub returns-clause-rest : goal.returns-clause-rest
unfolding outer
returns-clause-rest c = λ s. refl
