use Rattle.file_dir.proofs.Whole.{found_alone, gone_name, others_stay}
use Rattle.file_dir.proofs.laws.a_created_file_is_found.Goals as goal

pub returns-clause-found : goal.returns-clause-found
returns-clause-found c = λ old new f name creates absent. found_alone old new f name creates absent

pub returns-clause-others : goal.returns-clause-others
returns-clause-others c = others_stay

pub returns-clause-deleted : goal.returns-clause-deleted
returns-clause-deleted c = gone_name
