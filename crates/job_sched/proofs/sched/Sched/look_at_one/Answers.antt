use Rattle.std.proofs.Common.{◌∙◌, ap, sym, arith, List}
use Rattle.job_sched.specs.declared.member.Waiter.{Waiter}
use Rattle.job_sched.specs.Rows.{number}
use Rattle.job_sched.specs.Schedules.{Schedule, ends_wait, looked_at}
use Rattle.job_sched.proofs.Moves.{spot_of}
use Rattle.job_sched.proofs.Kept.{looked_at_at, none_waiting, place_below}
use Rattle.job_sched.proofs.sched.Sched.look_at_one.Goals as goal

pub index-requires : goal.index-requires
index-requires c =
    let i = c.self.inside in
    let below = place_below i.rows i.spare i.spots.items i.places.items i.seated.items i.used c.self.invariant c.in-Some.place 3 (sym c.first.ensures.first ∙ c.in-Some.is) in
    let all = c.self.invariant.names.all_spots in
    omega arith

pub put_last-requires : goal.put_last-requires
put_last-requires c =
    let i = c.self.inside in
    let below = place_below i.rows i.spare i.spots.items i.places.items i.seated.items i.used c.self.invariant c.in-Some.place 3 (sym c.first.ensures.first ∙ c.in-Some.is) in
    let bound = c.self.invariant.names.bound in
    omega arith

pub invariant_of-self : goal.invariant_of-self
invariant_of-self c =
    let i = c.self.inside in
    let first = sym c.first.ensures.first ∙ c.in-Some.is in
    let under = place_below i.rows i.spare i.spots.items i.places.items i.seated.items i.used c.self.invariant c.in-Some.place 3 first in
    let all = c.self.invariant.names.all_spots in
    let was = spot_of i.spots.items c.in-Some.place c.index.result.now (omega arith) c.index.ensures in
    rw c.put_last.ensures.moved
    (looked_at_at i.rows i.spare i.spots.items i.places.items i.seated.items i.used c.self.invariant c.in-Some.place c.args.done (ends_wait c.args.done c.index.result.now.need) (number c.row_after.result) first
    (rw c.put_last.ensures.moved at c.put_last.ensures.rows) (ap (λ (v : Waiter). ends_wait c.args.done v.need) (sym was)) c.row_after.ensures).kept

pub returns-in-Some : goal.returns-in-Some
returns-in-Some c =
    let i = c.self.inside in
    let first = sym c.first.ensures.first ∙ c.in-Some.is in
    let under = place_below i.rows i.spare i.spots.items i.places.items i.seated.items i.used c.self.invariant c.in-Some.place 3 first in
    let all = c.self.invariant.names.all_spots in
    let was = spot_of i.spots.items c.in-Some.place c.index.result.now (omega arith) c.index.ensures in
    rw c.put_last.ensures.moved
    ((looked_at_at i.rows i.spare i.spots.items i.places.items i.seated.items i.used c.self.invariant c.in-Some.place c.args.done (ends_wait c.args.done c.index.result.now.need) (number c.row_after.result) first
    (rw c.put_last.ensures.moved at c.put_last.ensures.rows) (ap (λ (v : Waiter). ends_wait c.args.done v.need) (sym was)) c.row_after.ensures).view
    ∙ ap (λ (s : Schedule). looked_at s.waiting c.args.done s) c.self.view_is)

pub returns-in_default : goal.returns-in_default
returns-in_default c =
    let i = c.self.inside in
    sym (ap (λ (ws : List Waiter). looked_at ws c.args.done c.args.self.now) (none_waiting i.rows i.spots.items i.spare.order i.used c.args.self.now c.self.view_is (sym c.first.ensures.first ∙ c.in_default.is)))
