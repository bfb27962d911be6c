use Rattle.std.proofs.Common.{◌+◌, ◌%◌, ◌∙◌, ap, sym, arith}
use Rattle.job_sched.specs.Schedules.{Schedule}
use Rattle.job_sched.proofs.Alone.{runs_on}
use Rattle.job_sched.proofs.Seats.{timed_by, used_by}
use Rattle.job_sched.proofs.sched.Sched.ran_alone.Goals as goal

pub returns : goal.returns
returns c =
    let i = c.self.inside in
    let used = ap (λ (s : Schedule). s.used) c.self.view_is in
    used_by c.self.inside.rows c.self.inside.spots.items c.self.inside.spare.order c.self.inside.used c.args.self.now ((i.used + c.args.n % 200) % 200) ((c.args.self.now.used + c.args.n) % 200) c.self.view_is (omega arith)
    ∙ sym (runs_on c.args.n c.args.self.now (timed_by c.self.inside.rows c.self.inside.spots.items c.self.inside.spare.order c.self.inside.used c.args.self.now c.self.view_is c.self.invariant.timed) c.requires)
