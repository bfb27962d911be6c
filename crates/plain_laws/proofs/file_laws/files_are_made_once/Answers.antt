use Rattle.std.proofs.Common.{◌≡◌, ◌∙◌, sym, subst, []}
use Rattle.plain_model.specs.Unit.{Effect}
use Rattle.plain_model.proofs.Equations.{outer_file}
use Rattle.plain_laws.specs.FileLaws.{IsNewFile, ChangesFile}
use Rattle.plain_laws.proofs.FilesMade.{name_taken, files_full, file_made}
use Rattle.plain_laws.proofs.file_laws.files_are_made_once.Goals as goal

pub returns-clause-exists : goal.returns-clause-exists
returns-clause-exists c = λ s name there. outer_file s name ∙ name_taken s name there

pub returns-clause-full : goal.returns-clause-full
returns-clause-full c = λ s name absent most. outer_file s name ∙ files_full s name absent most

pub returns-clause-made : goal.returns-clause-made
returns-clause-made c = λ s name w absent few. subst (λ (e : Effect). (e.items ≡ []) × IsNewFile e.state name × ChangesFile s e.state name) (sym (outer_file s name)) (file_made s name absent w.machine few)
