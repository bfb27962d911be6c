use Rattle.pmap_calls.proofs.FileLaws.{drops_there, put_there, reads_file}
use Rattle.pmap_calls.proofs.laws.file_pages_are_shared.Goals as goal

pub returns-clause-mapped : goal.returns-clause-mapped
returns-clause-mapped c = λ key p s name page a w there some. reads_file key p name page w s there a some

pub returns-clause-put : goal.returns-clause-put
returns-clause-put c = λ key p s name page. put_there key p name page s

pub returns-clause-dropped : goal.returns-clause-dropped
returns-clause-dropped c = λ key p name page. drops_there key p name page
