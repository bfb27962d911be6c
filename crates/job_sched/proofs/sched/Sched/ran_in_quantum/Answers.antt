use Rattle.std.proofs.Common.{◌+◌, ◌∙◌, ap, sym, arith}
use Rattle.job_sched.specs.Schedules.{Schedule}
use Rattle.job_sched.proofs.Seats.{timed_by, used_by}
use Rattle.job_sched.proofs.Units.{row_to_end, row_within}
use Rattle.job_sched.proofs.sched.Sched.ran_in_quantum.Goals as goal

pub returns-then-self-n-eq-QUANTUM : goal.returns-then-self-n-eq-QUANTUM
returns-then-self-n-eq-QUANTUM c =
    let used = ap (λ (s : Schedule). s.used) c.self.view_is in
    let all = c.if-self-n-eq-QUANTUM.true in
    c.quantum_end.ensures ∙ sym (row_to_end c.args.n c.args.self.now c.requires.head (timed_by c.self.inside.rows c.self.inside.spots.items c.self.inside.spare.order c.self.inside.used c.args.self.now c.self.view_is c.self.invariant.timed) (omega arith))

pub returns-else-self-n-eq-QUANTUM : goal.returns-else-self-n-eq-QUANTUM
returns-else-self-n-eq-QUANTUM c =
    let used = ap (λ (s : Schedule). s.used) c.self.view_is in
    let more = c.if-self-n-eq-QUANTUM.false in
    let within = c.requires.within in
    used_by c.self.inside.rows c.self.inside.spots.items c.self.inside.spare.order c.self.inside.used c.args.self.now (c.self.inside.used + c.args.n) (c.args.self.now.used + c.args.n) c.self.view_is (omega arith)
    ∙ sym (row_within c.args.n c.args.self.now c.requires.head (omega arith))
