use Rattle.plain_laws.proofs.Marks.{frozen_waits, mark_stays}
use Rattle.plain_laws.proofs.fork_laws.frozen_forks_run_when_resumed.Goals as goal

pub returns-clause-frozen : goal.returns-clause-frozen
returns-clause-frozen c = λ s name f there mark runs. frozen_waits s name f there mark runs

pub returns-clause-kept : goal.returns-clause-kept
returns-clause-kept c = λ s who name f g w there mark is. mark_stays name s w.machine f there mark who g is
