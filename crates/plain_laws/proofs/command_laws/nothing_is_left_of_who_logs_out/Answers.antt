use Rattle.std.proofs.Common.{ap, subst, sym}
use Rattle.plain_model.specs.Unit.{Effect}
use Rattle.plain_laws.specs.CommandLaws.{LeavesNothing}
use Rattle.plain_laws.proofs.CommandsDone.{leaves_nothing, logout_is, rest_lost}
use Rattle.plain_laws.proofs.command_laws.nothing_is_left_of_who_logs_out.Goals as goal

pub returns-clause-nothing : goal.returns-clause-nothing
returns-clause-nothing c = λ s t j w is. (ap (λ (e : Effect). e.items) (logout_is s t j is), subst (λ (e : Effect). LeavesNothing s e.state t) (sym (logout_is s t j is)) (leaves_nothing s t j is w.machine))

pub returns-clause-lost : goal.returns-clause-lost
returns-clause-lost c = λ s t j more w is. rest_lost s t j is more
