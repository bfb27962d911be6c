use Rattle.std.proofs.Common.{◌∙◌, ap, sym, arith}
use Rattle.job_sched.specs.declared.member.Waiter.{Waiter}
use Rattle.job_sched.specs.Schedules.{one_admitted}
use Rattle.job_sched.proofs.Moves.{spot_of, first_stands}
use Rattle.job_sched.proofs.Kept.{admitted_at, place_below, some_outside, some_spare}
use Rattle.job_sched.proofs.sched.Sched.admit_one.Goals as goal

pub remove-requires : goal.remove-requires
remove-requires c = first_stands _ _ (sym c.first.ensures ∙ c.in-Some.is)

pub overflow_cast-seat : goal.overflow_cast-seat
overflow_cast-seat c =
    let i = c.self.inside in
    let first = sym c.first-2.ensures.first ∙ c.in-Some-first.is in
    let number = sym c.first.ensures ∙ c.in-Some.is in
    let under = place_below i.rows i.spare i.spots.items i.places.items i.seated.items i.used c.self.invariant c.in-Some-first.place 1 first in
    let all = c.self.invariant.names.all_spots in
    let low = c.self.invariant.order.below c.in-Some.seat (first_stands _ _ number) in
    let seats = c.self.invariant.all_seats in
    let few = c.self.invariant.few in
    let bound = c.self.invariant.names.bound in
    omega arith

pub index_mut-requires : goal.index_mut-requires
index_mut-requires c =
    let i = c.self.inside in
    let first = sym c.first-2.ensures.first ∙ c.in-Some-first.is in
    let number = sym c.first.ensures ∙ c.in-Some.is in
    let under = place_below i.rows i.spare i.spots.items i.places.items i.seated.items i.used c.self.invariant c.in-Some-first.place 1 first in
    let all = c.self.invariant.names.all_spots in
    let low = c.self.invariant.order.below c.in-Some.seat (first_stands _ _ number) in
    let seats = c.self.invariant.all_seats in
    let few = c.self.invariant.few in
    let bound = c.self.invariant.names.bound in
    omega arith

pub overflow_cast-place-2 : goal.overflow_cast-place-2
overflow_cast-place-2 c =
    let i = c.self.inside in
    let first = sym c.first-2.ensures.first ∙ c.in-Some-first.is in
    let number = sym c.first.ensures ∙ c.in-Some.is in
    let under = place_below i.rows i.spare i.spots.items i.places.items i.seated.items i.used c.self.invariant c.in-Some-first.place 1 first in
    let all = c.self.invariant.names.all_spots in
    let low = c.self.invariant.order.below c.in-Some.seat (first_stands _ _ number) in
    let seats = c.self.invariant.all_seats in
    let few = c.self.invariant.few in
    let bound = c.self.invariant.names.bound in
    omega arith

pub index_mut-requires-2 : goal.index_mut-requires-2
index_mut-requires-2 c =
    let i = c.self.inside in
    let first = sym c.first-2.ensures.first ∙ c.in-Some-first.is in
    let number = sym c.first.ensures ∙ c.in-Some.is in
    let under = place_below i.rows i.spare i.spots.items i.places.items i.seated.items i.used c.self.invariant c.in-Some-first.place 1 first in
    let all = c.self.invariant.names.all_spots in
    let low = c.self.invariant.order.below c.in-Some.seat (first_stands _ _ number) in
    let seats = c.self.invariant.all_seats in
    let few = c.self.invariant.few in
    let bound = c.self.invariant.names.bound in
    omega arith

pub put_last-requires : goal.put_last-requires
put_last-requires c =
    let i = c.self.inside in
    let first = sym c.first-2.ensures.first ∙ c.in-Some-first.is in
    let number = sym c.first.ensures ∙ c.in-Some.is in
    let under = place_below i.rows i.spare i.spots.items i.places.items i.seated.items i.used c.self.invariant c.in-Some-first.place 1 first in
    let all = c.self.invariant.names.all_spots in
    let low = c.self.invariant.order.below c.in-Some.seat (first_stands _ _ number) in
    let seats = c.self.invariant.all_seats in
    let few = c.self.invariant.few in
    let bound = c.self.invariant.names.bound in
    omega arith

pub invariant_of-self : goal.invariant_of-self
invariant_of-self c =
    let i = c.self.inside in
    let first = sym c.first-2.ensures.first ∙ c.in-Some-first.is in
    let number = sym c.first.ensures ∙ c.in-Some.is in
    let under = place_below i.rows i.spare i.spots.items i.places.items i.seated.items i.used c.self.invariant c.in-Some-first.place 1 first in
    let all = c.self.invariant.names.all_spots in
    let low = c.self.invariant.order.below c.in-Some.seat (first_stands _ _ number) in
    let seats = c.self.invariant.all_seats in
    let few = c.self.invariant.few in
    let bound = c.self.invariant.names.bound in
    rw (c.put_last.ensures.moved, c.remove.ensures) (admitted_at i.rows i.spare i.spots.items i.places.items i.seated.items i.used c.self.invariant c.in-Some-first.place c.in-Some.seat
    (record { fork = c.index_mut.result.now.fork; seat = c.in-Some.seat; need = c.index_mut.result.now.need }) first number (rw c.put_last.ensures.moved at c.put_last.ensures.rows)
    (ap (λ (v : Waiter). record v { seat = c.in-Some.seat }) (spot_of i.spots.items c.in-Some-first.place c.index_mut.result.now (omega arith) c.index_mut.ensures.value))).kept

pub returns-clause-admitted : goal.returns-clause-admitted
returns-clause-admitted c =
    let i = c.self.inside in
    let first = sym c.first-2.ensures.first ∙ c.in-Some-first.is in
    let number = sym c.first.ensures ∙ c.in-Some.is in
    let under = place_below i.rows i.spare i.spots.items i.places.items i.seated.items i.used c.self.invariant c.in-Some-first.place 1 first in
    let all = c.self.invariant.names.all_spots in
    let low = c.self.invariant.order.below c.in-Some.seat (first_stands _ _ number) in
    let seats = c.self.invariant.all_seats in
    let few = c.self.invariant.few in
    let bound = c.self.invariant.names.bound in
    rw (c.put_last.ensures.moved, c.remove.ensures) ((admitted_at i.rows i.spare i.spots.items i.places.items i.seated.items i.used c.self.invariant c.in-Some-first.place c.in-Some.seat
    (record { fork = c.index_mut.result.now.fork; seat = c.in-Some.seat; need = c.index_mut.result.now.need }) first number (rw c.put_last.ensures.moved at c.put_last.ensures.rows)
    (ap (λ (v : Waiter). record v { seat = c.in-Some.seat }) (spot_of i.spots.items c.in-Some-first.place c.index_mut.result.now (omega arith) c.index_mut.ensures.value))).view ∙ ap one_admitted c.self.view_is)

pub returns-clause-outside : goal.returns-clause-outside
returns-clause-outside c =
    let i = c.self.inside in
    λ _. some_outside i.rows i.spots.items i.spare.order i.used c.args.self.now c.in-Some-first.place c.self.view_is (sym c.first-2.ensures.first ∙ c.in-Some-first.is)

pub returns-clause-spare : goal.returns-clause-spare
returns-clause-spare c =
    let i = c.self.inside in
    λ _. some_spare i.rows i.spots.items i.spare.order i.used c.args.self.now c.in-Some.seat c.self.view_is (sym c.first.ensures ∙ c.in-Some.is)
