use Rattle.pmap_calls.proofs.MapLaws.{refused_pages, refused_fork}
use Rattle.pmap_calls.proofs.laws.refusals_leave_an_error_alone.Goals as goal

pub returns-clause-pages : goal.returns-clause-pages
returns-clause-pages c = λ key p q code. refused_pages key p q code

pub returns-clause-fork : goal.returns-clause-fork
returns-clause-fork c = λ f code. refused_fork f code
