use Rattle.std.proofs.Common.{sym, subst}
use Rattle.script_texts.specs.declared.status.ForkStatus.{ForkStatus}
use Rattle.job_forks.specs.Limits.{IsBody}
use Rattle.psi_calls.proofs.Woken.{woken_within}
use Rattle.psi_calls.proofs.bodies.awake.Goals as goal

pub returns-then-wants_one-clause-within : goal.returns-then-wants_one-clause-within
returns-then-wants_one-clause-within c within = subst (λ (s : ForkStatus). IsBody (record c.args.body { status = s })) (sym c.woken-body.ensures) (woken_within c.args.body within)
