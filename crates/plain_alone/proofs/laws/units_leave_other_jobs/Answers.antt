use Rattle.plain_alone.proofs.UnitJobs.{unit_forks, unit_maps}
use Rattle.plain_alone.proofs.laws.units_leave_other_jobs.Goals as goal

pub returns-clause-forks : goal.returns-clause-forks
returns-clause-forks c = λ s who name w other. unit_forks s w.machine who name other

pub returns-clause-maps : goal.returns-clause-maps
returns-clause-maps c = λ s who name w other. unit_maps s w.machine who name other
