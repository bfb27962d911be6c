use Rattle.std.proofs.Common.{◌∙◌, ap, sym, arith, List}
use Rattle.job_sched.specs.declared.member.Member.{Member}
use Rattle.job_sched.specs.declared.member.Waiter.{Waiter}
use Rattle.job_sched.specs.Schedules.{Schedule, put_to_wait, waited}
use Rattle.job_sched.proofs.Moves.{spot_of}
use Rattle.job_sched.proofs.Kept.{none_ready, place_below, waited_at}
use Rattle.job_sched.proofs.sched.Sched.wait.Goals as goal

pub index_mut-requires : goal.index_mut-requires
index_mut-requires c =
    let i = c.self.inside in
    let below = place_below i.rows i.spare i.spots.items i.places.items i.seated.items i.used c.self.invariant c.in-Some.place 2 (sym c.first.ensures.first ∙ c.in-Some.is) in
    let bound = c.self.invariant.names.bound in
    let all = c.self.invariant.names.all_spots in
    omega arith

pub put_last-requires : goal.put_last-requires
put_last-requires c =
    let i = c.self.inside in
    let below = place_below i.rows i.spare i.spots.items i.places.items i.seated.items i.used c.self.invariant c.in-Some.place 2 (sym c.first.ensures.first ∙ c.in-Some.is) in
    let bound = c.self.invariant.names.bound in
    let all = c.self.invariant.names.all_spots in
    omega arith

pub invariant_of-self : goal.invariant_of-self
invariant_of-self c =
    let i = c.self.inside in
    let first = sym c.first.ensures.first ∙ c.in-Some.is in
    let under = place_below i.rows i.spare i.spots.items i.places.items i.seated.items i.used c.self.invariant c.in-Some.place 2 first in
    let all = c.self.invariant.names.all_spots in
    let was = spot_of i.spots.items c.in-Some.place c.index_mut.result.now (omega arith) c.index_mut.ensures.value in
    rw c.put_last.ensures.moved
    (waited_at i.rows i.spare i.spots.items i.places.items i.seated.items i.used c.self.invariant c.in-Some.place _ c.args.need first (rw c.put_last.ensures.moved at c.put_last.ensures.rows)
    (ap (λ (v : Waiter). record v { need = c.args.need }) was)).kept

pub returns-in-Some : goal.returns-in-Some
returns-in-Some c =
    let i = c.self.inside in
    let first = sym c.first.ensures.first ∙ c.in-Some.is in
    let under = place_below i.rows i.spare i.spots.items i.places.items i.seated.items i.used c.self.invariant c.in-Some.place 2 first in
    let all = c.self.invariant.names.all_spots in
    let was = spot_of i.spots.items c.in-Some.place c.index_mut.result.now (omega arith) c.index_mut.ensures.value in
    rw c.put_last.ensures.moved
    ((waited_at i.rows i.spare i.spots.items i.places.items i.seated.items i.used c.self.invariant c.in-Some.place _ c.args.need first (rw c.put_last.ensures.moved at c.put_last.ensures.rows)
    (ap (λ (v : Waiter). record v { need = c.args.need }) was)).view
    ∙ ap (λ (s : Schedule). waited s c.args.need) c.self.view_is)

pub returns-in_default : goal.returns-in_default
returns-in_default c =
    let i = c.self.inside in
    sym (ap (λ (ms : List Member). put_to_wait ms c.args.need c.args.self.now) (none_ready i.rows i.spots.items i.spare.order i.used c.args.self.now c.self.view_is (sym c.first.ensures.first ∙ c.in_default.is)))
