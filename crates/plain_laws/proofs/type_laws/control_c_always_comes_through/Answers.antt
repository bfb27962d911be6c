use Rattle.plain_laws.proofs.TypedTexts.{command_stops, none_runs_behind, program_stops}
use Rattle.plain_laws.proofs.type_laws.control_c_always_comes_through.Goals as goal

pub returns-clause-command : goal.returns-clause-command
returns-clause-command c = λ s t j is mode. command_stops t s j is mode

pub returns-clause-program : goal.returns-clause-program
returns-clause-program c = λ s t j f is mode there. program_stops t s j is f mode there

pub returns-clause-stands : goal.returns-clause-stands
returns-clause-stands c = λ s t j name w is mode job runs. none_runs_behind s t j name w.machine is mode job runs
