use Rattle.std.proofs.Common.{◌∙◌, ap, sym, arith, Some}
use Rattle.std.specs.Option.{option_map}
use Rattle.job_sched.specs.declared.member.Member.{Member}
use Rattle.job_sched.specs.declared.member.Waiter.{Waiter}
use Rattle.job_sched.proofs.Moves.{spot_of}
use Rattle.job_sched.proofs.Kept.{place_below}
use Rattle.job_sched.proofs.Seats.{head_of, timed_by}
use Rattle.job_sched.proofs.Turns.{line_chosen, ready_chosen}
use Rattle.job_sched.proofs.sched.Sched.choose.Goals as goal

pub returns-in_err-place-clause-outside : goal.returns-in_err-place-clause-outside
returns-in_err-place-clause-outside c = λ f p ds. line_chosen f p c.args.self.now ds (timed_by c.self.inside.rows c.self.inside.spots.items c.self.inside.spare.order c.self.inside.used c.args.self.now c.self.view_is c.self.invariant.timed)

pub index-requires : goal.index-requires
index-requires c =
    let i = c.self.inside in
    let below = place_below i.rows i.spare i.spots.items i.places.items i.seated.items i.used c.self.invariant c.in_ok-place.place 2 (sym c.in_ok-place.ensures.first) in
    let all = c.self.invariant.names.all_spots in
    omega arith

pub returns-clause-head : goal.returns-clause-head
returns-clause-head c =
    let i = c.self.inside in
    let below = place_below i.rows i.spare i.spots.items i.places.items i.seated.items i.used c.self.invariant c.in_ok-place.place 2 (sym c.in_ok-place.ensures.first) in
    let all = c.self.invariant.names.all_spots in
    ap (λ (v : Waiter). Some v.fork) (spot_of i.spots.items c.in_ok-place.place c.index.result.now (omega arith) c.index.ensures)
    ∙ sym (ap (option_map (λ (m : Member). m.fork)) (head_of i.rows i.spots.items i.spare.order i.used c.args.self.now c.in_ok-place.place c.self.view_is (sym c.in_ok-place.ensures.first)))

pub returns-clause-ready : goal.returns-clause-ready
returns-clause-ready c = λ f p ds. ready_chosen f p c.args.self.now ds (timed_by c.self.inside.rows c.self.inside.spots.items c.self.inside.spare.order c.self.inside.used c.args.self.now c.self.view_is c.self.invariant.timed)

pub returns-clause-outside : goal.returns-clause-outside
returns-clause-outside c = λ f p ds. line_chosen f p c.args.self.now ds (timed_by c.self.inside.rows c.self.inside.spots.items c.self.inside.spare.order c.self.inside.used c.args.self.now c.self.view_is c.self.invariant.timed)
