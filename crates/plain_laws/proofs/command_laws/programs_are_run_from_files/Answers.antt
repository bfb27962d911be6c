use Rattle.std.proofs.Common.{ap, subst, sym}
use Rattle.plain_model.specs.Unit.{Effect}
use Rattle.plain_laws.specs.CommandLaws.{BeginsProgram}
use Rattle.plain_laws.proofs.CommandsDone.{begins_program, copies_made, run_is, run_no_file, run_no_program}
use Rattle.plain_laws.proofs.command_laws.programs_are_run_from_files.Goals as goal

pub returns-clause-begins : goal.returns-clause-begins
returns-clause-begins c = λ s t j name f w is first lives. (ap (λ (e : Effect). e.items) (run_is s t j name is w.machine first), subst (λ (e : Effect). BeginsProgram s e.state t j name f) (sym (run_is s t j name is w.machine first)) (begins_program s t j name is w.machine f lives))

pub returns-clause-copies : goal.returns-clause-copies
returns-clause-copies c = λ s u t j name f page n q words at w terminal begins within filed goes. copies_made s u t j name f page n q words at w.machine terminal begins within filed goes

pub returns-clause-no_file : goal.returns-clause-no_file
returns-clause-no_file c = run_no_file

pub returns-clause-no_program : goal.returns-clause-no_program
returns-clause-no_program c = run_no_program
