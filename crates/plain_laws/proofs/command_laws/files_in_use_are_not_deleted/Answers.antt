use Rattle.plain_laws.proofs.CommandsDone.{delete_busy, delete_no_file, file_deleted}
use Rattle.plain_laws.proofs.command_laws.files_in_use_are_not_deleted.Goals as goal

pub returns-clause-busy : goal.returns-clause-busy
returns-clause-busy c = λ s t j k name u n i w is job held stands. delete_busy s t j name is w.machine u n k i job held stands

pub returns-clause-no_file : goal.returns-clause-no_file
returns-clause-no_file c = delete_no_file

pub returns-clause-deleted : goal.returns-clause-deleted
returns-clause-deleted c = file_deleted
