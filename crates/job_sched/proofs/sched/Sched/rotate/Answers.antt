use Rattle.std.proofs.Common.{◌∙◌, ap, sym, arith, List}
use Rattle.job_sched.specs.declared.member.Member.{Member}
use Rattle.job_sched.specs.Schedules.{Schedule, rotated}
use Rattle.job_sched.proofs.Kept.{none_ready, place_below, rotated_at}
use Rattle.job_sched.proofs.sched.Sched.rotate.Goals as goal

pub put_last-requires : goal.put_last-requires
put_last-requires c =
    let i = c.self.inside in
    let below = place_below i.rows i.spare i.spots.items i.places.items i.seated.items i.used c.self.invariant c.in-Some.place 2 (sym c.first.ensures.first ∙ c.in-Some.is) in
    let bound = c.self.invariant.names.bound in
    omega arith

pub invariant_of-self : goal.invariant_of-self
invariant_of-self c =
    let i = c.self.inside in
    rw c.put_last.ensures.moved
    (rotated_at i.rows i.spare i.spots.items i.places.items i.seated.items i.used c.self.invariant c.in-Some.place (sym c.first.ensures.first ∙ c.in-Some.is)
    (rw c.put_last.ensures.moved at c.put_last.ensures.rows)).kept

pub returns-in-Some : goal.returns-in-Some
returns-in-Some c =
    let i = c.self.inside in
    rw c.put_last.ensures.moved
    ((rotated_at i.rows i.spare i.spots.items i.places.items i.seated.items i.used c.self.invariant c.in-Some.place (sym c.first.ensures.first ∙ c.in-Some.is)
    (rw c.put_last.ensures.moved at c.put_last.ensures.rows)).view
    ∙ ap (λ (s : Schedule). rotated s.ready s) c.self.view_is)

pub returns-in_default : goal.returns-in_default
returns-in_default c =
    let i = c.self.inside in
    sym (ap (λ (ms : List Member). rotated ms c.args.self.now) (none_ready i.rows i.spots.items i.spare.order i.used c.args.self.now c.self.view_is (sym c.first.ensures.first ∙ c.in_default.is)))
