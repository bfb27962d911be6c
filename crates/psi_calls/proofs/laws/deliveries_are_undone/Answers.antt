use Rattle.psi_calls.proofs.Undone.{undoes}
use Rattle.psi_calls.proofs.laws.deliveries_are_undone.Goals as goal

pub returns : goal.returns
returns c = undoes
