use Rattle.std.proofs.Common.{◌∙◌, ap, cond, refl}
use Rattle.plain_model.specs.declared.call.ForkChange.TheVariants.{Nothing}
use Rattle.plain_model.specs.Calls.{ends, fork_behind, given, no_files, returning, turn_on}
use Rattle.plain_laws.specs.ForkLaws.{waiting}
use Rattle.plain_laws.proofs.fork_laws.waiters_go_on_when_a_fork_has_ended.Goals as goal
use Rattle.plain_model.proofs.Shorthands.{waits_for}

pub returns-clause-ended : goal.returns-clause-ended
unfolding turn_on
returns-clause-ended c = λ p a f named ended.
    ap (λ r. (turn_on no_files p (given r (λ f. ends (waits_for a.regs f.body.status)))).end) named ∙ ap (λ b. cond b (returning Nothing a.regs) waiting) ended

pub returns-clause-waits : goal.returns-clause-waits
unfolding turn_on
returns-clause-waits c = λ p a f named runs.
    ap (λ r. (turn_on no_files p (given r (λ f. ends (waits_for a.regs f.body.status)))).end) named ∙ ap (λ b. cond b (returning Nothing a.regs) waiting) runs

pub returns-clause-stays : goal.returns-clause-stays
unfolding fork_behind
returns-clause-stays c = λ f. refl
