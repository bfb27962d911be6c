use Rattle.std.proofs.Common.{sym, ap, subst}
use Rattle.plain_model.specs.declared.fork.Body.{Body}
use Rattle.plain_model.specs.declared.fork.Fork.{Fork}
use Rattle.job_forks.specs.Limits.{IsBodyOf}
use Rattle.psi_calls.proofs.PostedKeeps.{word_fits}
use Rattle.psi_calls.proofs.calls.posted.Goals as goal

pub returns-clause-posted : goal.returns-clause-posted
returns-clause-posted c = ap (λ (f : Fork). f.body) (c.post_all.ensures.fork c.args.fork)

pub returns-clause-fits : goal.returns-clause-fits
returns-clause-fits c forks lives = subst (λ (b : Body). IsBodyOf forks c.args.fork.name b) (sym (ap (λ (f : Fork). f.body) (c.post_all.ensures.fork c.args.fork))) (word_fits forks c.args.channels c.args.fork lives)
