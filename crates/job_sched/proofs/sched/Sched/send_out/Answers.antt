use Rattle.std.proofs.Common.{◌∙◌, ap, sym, arith, List}
use Rattle.job_sched.specs.declared.member.Member.{Member}
use Rattle.job_sched.specs.declared.member.Waiter.{Waiter}
use Rattle.job_sched.specs.Schedules.{Schedule, sent_out}
use Rattle.job_sched.proofs.Moves.{first_stands, spot_of}
use Rattle.job_sched.proofs.Kept.{none_ready, place_below, sent_out_at}
use Rattle.job_sched.proofs.sched.Sched.send_out.Goals as goal

pub index-requires : goal.index-requires
index-requires c =
    let i = c.self.inside in
    let below = place_below i.rows i.spare i.spots.items i.places.items i.seated.items i.used c.self.invariant c.in-Some.place 2 (sym c.first.ensures.first ∙ c.in-Some.is) in
    let bound = c.self.invariant.names.bound in
    let all = c.self.invariant.names.all_spots in
    omega arith

pub push-requires-clause-below : goal.push-requires-clause-below
push-requires-clause-below c =
    let i = c.self.inside in
    let first = sym c.first.ensures.first ∙ c.in-Some.is in
    let seated = c.self.invariant.seated 2 c.in-Some.place (omega arith) (first_stands _ _ first) in
    let under = place_below i.rows i.spare i.spots.items i.places.items i.seated.items i.used c.self.invariant c.in-Some.place 2 first in
    let all = c.self.invariant.names.all_spots in
    let seat = c.from.ensures ∙ ap (λ (v : Waiter). v.seat) (spot_of i.spots.items c.in-Some.place c.index.result.now (omega arith) c.index.ensures) in
    let below = seated.below in
    omega arith

pub push-requires-clause-absent : goal.push-requires-clause-absent
push-requires-clause-absent c =
    let i = c.self.inside in
    let first = sym c.first.ensures.first ∙ c.in-Some.is in
    let seated = c.self.invariant.seated 2 c.in-Some.place (omega arith) (first_stands _ _ first) in
    let under = place_below i.rows i.spare i.spots.items i.places.items i.seated.items i.used c.self.invariant c.in-Some.place 2 first in
    let all = c.self.invariant.names.all_spots in
    let seat = c.from.ensures ∙ ap (λ (v : Waiter). v.seat) (spot_of i.spots.items c.in-Some.place c.index.result.now (omega arith) c.index.ensures) in
    rw seat seated.taken

pub put_last-requires : goal.put_last-requires
put_last-requires c =
    let i = c.self.inside in
    let below = place_below i.rows i.spare i.spots.items i.places.items i.seated.items i.used c.self.invariant c.in-Some.place 2 (sym c.first.ensures.first ∙ c.in-Some.is) in
    let bound = c.self.invariant.names.bound in
    let all = c.self.invariant.names.all_spots in
    omega arith

pub invariant_of-self : goal.invariant_of-self
invariant_of-self c =
    let i = c.self.inside in
    let first = sym c.first.ensures.first ∙ c.in-Some.is in
    let under = place_below i.rows i.spare i.spots.items i.places.items i.seated.items i.used c.self.invariant c.in-Some.place 2 first in
    let all = c.self.invariant.names.all_spots in
    let seat = c.from.ensures ∙ ap (λ (v : Waiter). v.seat) (spot_of i.spots.items c.in-Some.place c.index.result.now (omega arith) c.index.ensures) in
    rw (c.put_last.ensures.moved, c.push.ensures, seat)
    (sent_out_at i.rows i.spare i.spots.items i.places.items i.seated.items i.used c.self.invariant c.in-Some.place first (rw c.put_last.ensures.moved at c.put_last.ensures.rows)).kept

pub returns-in-Some : goal.returns-in-Some
returns-in-Some c =
    let i = c.self.inside in
    let first = sym c.first.ensures.first ∙ c.in-Some.is in
    let under = place_below i.rows i.spare i.spots.items i.places.items i.seated.items i.used c.self.invariant c.in-Some.place 2 first in
    let all = c.self.invariant.names.all_spots in
    let seat = c.from.ensures ∙ ap (λ (v : Waiter). v.seat) (spot_of i.spots.items c.in-Some.place c.index.result.now (omega arith) c.index.ensures) in
    rw (c.put_last.ensures.moved, c.push.ensures, seat)
    ((sent_out_at i.rows i.spare i.spots.items i.places.items i.seated.items i.used c.self.invariant c.in-Some.place first (rw c.put_last.ensures.moved at c.put_last.ensures.rows)).view
    ∙ ap (λ (s : Schedule). sent_out s.ready s) c.self.view_is)

pub returns-in_default : goal.returns-in_default
returns-in_default c =
    let i = c.self.inside in
    sym (ap (λ (ms : List Member). sent_out ms c.args.self.now) (none_ready i.rows i.spots.items i.spare.order i.used c.args.self.now c.self.view_is (sym c.first.ensures.first ∙ c.in_default.is)))
