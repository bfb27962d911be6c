use Rattle.std.proofs.Common.{subst, sym}
use Rattle.job_sched.specs.Ties.{AreListed, IsFilled}
use Rattle.job_sched.proofs.Units.{rows_filled, rows_listed}
use Rattle.job_sched.proofs.sched.Sched.ran_row.Goals as goal

pub returns-then-is_alone-clause-listed : goal.returns-then-is_alone-clause-listed
returns-then-is_alone-clause-listed c = λ runs listed. subst (AreListed runs) (sym c.ran_alone.ensures) (rows_listed runs c.args.self.now c.args.n listed)

pub returns-then-is_alone-clause-filled : goal.returns-then-is_alone-clause-filled
returns-then-is_alone-clause-filled c = λ filled. subst IsFilled (sym c.ran_alone.ensures) (rows_filled c.args.self.now c.args.n filled)

pub returns-else-is_alone-clause-listed : goal.returns-else-is_alone-clause-listed
returns-else-is_alone-clause-listed c = λ runs listed. subst (AreListed runs) (sym c.ran_in_quantum.ensures) (rows_listed runs c.args.self.now c.args.n listed)

pub returns-else-is_alone-clause-filled : goal.returns-else-is_alone-clause-filled
returns-else-is_alone-clause-filled c = λ filled. subst IsFilled (sym c.ran_in_quantum.ensures) (rows_filled c.args.self.now c.args.n filled)
