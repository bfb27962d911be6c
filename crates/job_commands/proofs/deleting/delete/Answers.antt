use Rattle.ka10_unit.proofs.Carried.{grows_none}
use Rattle.job_commands.proofs.deleting.delete.Goals as goal

pub returns-then-names-gt0-clause-grows : goal.returns-then-names-gt0-clause-grows
returns-then-names-gt0-clause-grows g c = λ t. grows_none g.P.Pages.means t c.args.pages.now
