use Rattle.std.proofs.Common.{refl}
use Rattle.plain_pages.specs.PlainPages.{first_serials}
use Rattle.plain_model.specs.State.{opening}
use Rattle.plain_model.specs.Forks.{first_regs}
use Rattle.plain_model.proofs.bounds.start_bounds_hold.Goals as goal

pub returns-clause-terminals : goal.returns-clause-terminals
unfolding opening first_serials
returns-clause-terminals c = λ n. refl

pub returns-clause-accumulators : goal.returns-clause-accumulators
unfolding first_regs
returns-clause-accumulators c = refl
