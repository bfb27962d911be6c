use Rattle.jfn_table.proofs.Changes.{names_nowhere}
use Rattle.jfn_table.proofs.laws.a_file_without_names_has_no_jfn.Goals as goal

pub returns : goal.returns
returns c = names_nowhere
