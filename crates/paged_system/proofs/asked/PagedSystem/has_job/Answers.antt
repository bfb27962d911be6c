use Rattle.std.proofs.Common.{◌∙◌}
use Rattle.paged_system.proofs.Given.{job_there}
use Rattle.paged_system.proofs.asked.PagedSystem.has_job.Goals as goal

pub returns : goal.returns
returns g c d fits = c.has_job.ensures ∙ job_there c.args.self.now.system d c.args.t.0
