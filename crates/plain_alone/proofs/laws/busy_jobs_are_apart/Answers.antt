use Rattle.plain_alone.proofs.BusyJobs.{busy_apart}
use Rattle.plain_alone.proofs.laws.busy_jobs_are_apart.Goals as goal

pub returns : goal.returns
returns c t used s entries busy = busy_apart t used entries s busy
