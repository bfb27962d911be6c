use Rattle.run_console.proofs.Spelled.{record_fits}
use Rattle.run_console.proofs.laws.a_record_is_of_one_run.Goals as goal

pub returns : goal.returns
returns c = λ events text sizes told run. record_fits events text sizes told run
