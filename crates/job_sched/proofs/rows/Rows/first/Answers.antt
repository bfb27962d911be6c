use Rattle.std.proofs.Common.{map, subst}
use Rattle.job_sched.specs.Rows.{IsRows, number}
use Rattle.job_sched.proofs.RowChanges.{rows_kept}
use Rattle.job_sched.proofs.rows.Rows.first.Goals as goal

pub returns-clause-rows : goal.returns-clause-rows
returns-clause-rows c = subst IsRows c.self.view_is (rows_kept c.self.inside.orders (map number c.self.inside.stands.items) c.self.invariant)
