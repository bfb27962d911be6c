use Rattle.std.proofs.Common.{arith}
use Rattle.job_sched.proofs.Seats.{size_is}
use Rattle.job_sched.proofs.sched.Sched.set.Goals as goal

pub returns : goal.returns
returns c =
    let i = c.self.inside in
    let kept = c.self.invariant in
    let size = size_is i.rows i.spare i.spots.items i.places.items i.seated.items i.used kept 0 0 c.args.self.now c.self.view_is in
    let all = kept.all_seats in
    let few = kept.few in
    omega arith
