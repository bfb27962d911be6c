use Rattle.std.proofs.Common.{◌≡◌, ◌∙◌, ap, subst, arith, List, None, ℕ, true}
use Rattle.job_sched.specs.declared.member.Waiter.{Waiter}
use Rattle.std.proofs.Common.{Option, if◌then◌else◌}
use Rattle.frame_order.specs.FrameOrder.{stands_in}
use Rattle.job_sched.specs.Rows.{number, row}
use Rattle.job_sched.specs.Schedules.{Schedule, left}
use Rattle.job_sched.specs.Places.{IsPlaceOf, IsThere, is_at}
use Rattle.job_sched.proofs.Moves.{spot_of}
use Rattle.job_sched.proofs.RowChanges.{low_row}
use Rattle.job_sched.proofs.Leaving.{left_member, left_outside, nothing_leaves}
use Rattle.job_sched.proofs.sched.Sched.leave.Goals as goal

pub returns-in_default : goal.returns-in_default
returns-in_default c =
    let i = c.self.inside in
    subst (λ (s : Schedule). s ≡ left s c.args.f) c.self.view_is
    (nothing_leaves i.rows i.spots.items i.spare.order i.used c.args.f (subst (λ (vs : List Waiter). IsPlaceOf i.rows vs c.args.f None) c.deref.ensures.value c.in_default.ensures))

pub invariant_of-self : goal.invariant_of-self
invariant_of-self c =
    let i = c.self.inside in
    let there = subst (λ (vs : List Waiter). IsThere i.rows vs c.args.f c.in-Some.place) c.deref.ensures.value c.in-Some.ensures in
    let row_is = c.self.invariant.names.rows.apart there.row_at (number c.row_of.result) c.in-Some.place there.here c.row_of.ensures.stands in
    let some = there.some in
    let low = low_row c.row_of.result c.has_members.result c.has_members.ensures c.if-not-has_members.true in
    let one : number c.row_of.result ≡ 1 = omega arith in
    rw c.put_last.ensures.moved
    (left_outside i.rows i.spare i.spots.items i.places.items i.seated.items i.used c.self.invariant c.args.f c.in-Some.place there (subst (λ (k : ℕ). stands_in c.in-Some.place (row i.rows k) ≡ true) one c.row_of.ensures.stands)
    (rw c.put_last.ensures.moved at c.put_last.ensures.rows)).kept

pub returns-then-not-has_members : goal.returns-then-not-has_members
returns-then-not-has_members c =
    let i = c.self.inside in
    let there = subst (λ (vs : List Waiter). IsThere i.rows vs c.args.f c.in-Some.place) c.deref.ensures.value c.in-Some.ensures in
    let row_is = c.self.invariant.names.rows.apart there.row_at (number c.row_of.result) c.in-Some.place there.here c.row_of.ensures.stands in
    let some = there.some in
    let low = low_row c.row_of.result c.has_members.result c.has_members.ensures c.if-not-has_members.true in
    let one : number c.row_of.result ≡ 1 = omega arith in
    rw c.put_last.ensures.moved
    ((left_outside i.rows i.spare i.spots.items i.places.items i.seated.items i.used c.self.invariant c.args.f c.in-Some.place there (subst (λ (k : ℕ). stands_in c.in-Some.place (row i.rows k) ≡ true) one c.row_of.ensures.stands)
    (rw c.put_last.ensures.moved at c.put_last.ensures.rows)).view ∙ ap (λ (s : Schedule). left s c.args.f) c.self.view_is)

pub invariant_of-self-2 : goal.invariant_of-self-2
invariant_of-self-2 c =
    let i = c.self.inside in
    let there = subst (λ (vs : List Waiter). IsThere i.rows vs c.args.f c.in-Some.place) c.deref.ensures.value c.in-Some.ensures in
    let four = c.self.invariant.names.four in
    let row_is = c.self.invariant.names.rows.apart there.row_at (number c.row_of.result) c.in-Some.place there.here c.row_of.ensures.stands in
    let some = there.some in
    let high = c.has_members.ensures.0 c.if-not-has_members.false in
    let below = c.row_of.ensures.below in
    let all = c.self.invariant.names.all_spots in
    let under = there.below in
    let seat = c.from.ensures ∙ ap (λ (v : Waiter). v.seat) (spot_of i.spots.items c.in-Some.place c.index.result.now (omega arith) c.index.ensures) in
    let used = c.used_after-self-inside.ensures ∙ ap (λ (o : Option ℕ). if is_at o c.in-Some.place then 0 else i.used) c.first.ensures.first in
    rw (c.put_last-2.ensures.moved, c.push.ensures, seat)
    (left_member i.rows i.spare i.spots.items i.places.items i.seated.items i.used c.self.invariant c.args.f c.in-Some.place there (number c.row_of.result) (omega arith) (omega arith) c.row_of.ensures.stands
    (rw c.put_last-2.ensures.moved at c.put_last-2.ensures.rows) c.used_after-self-inside.result used).kept

pub returns : goal.returns
returns c =
    let i = c.self.inside in
    let there = subst (λ (vs : List Waiter). IsThere i.rows vs c.args.f c.in-Some.place) c.deref.ensures.value c.in-Some.ensures in
    let four = c.self.invariant.names.four in
    let row_is = c.self.invariant.names.rows.apart there.row_at (number c.row_of.result) c.in-Some.place there.here c.row_of.ensures.stands in
    let some = there.some in
    let high = c.has_members.ensures.0 c.if-not-has_members.false in
    let below = c.row_of.ensures.below in
    let all = c.self.invariant.names.all_spots in
    let under = there.below in
    let seat = c.from.ensures ∙ ap (λ (v : Waiter). v.seat) (spot_of i.spots.items c.in-Some.place c.index.result.now (omega arith) c.index.ensures) in
    let used = c.used_after-self-inside.ensures ∙ ap (λ (o : Option ℕ). if is_at o c.in-Some.place then 0 else i.used) c.first.ensures.first in
    rw (c.put_last-2.ensures.moved, c.push.ensures, seat)
    ((left_member i.rows i.spare i.spots.items i.places.items i.seated.items i.used c.self.invariant c.args.f c.in-Some.place there (number c.row_of.result) (omega arith) (omega arith) c.row_of.ensures.stands
    (rw c.put_last-2.ensures.moved at c.put_last-2.ensures.rows) c.used_after-self-inside.result used).view ∙ ap (λ (s : Schedule). left s c.args.f) c.self.view_is)
