use Rattle.std.proofs.Common.{◌∙◌, ap, sym, subst, arith, List, Some, None}
use Rattle.std.specs.Option.{option_map}
use Rattle.std.specs.List.{find}
use Rattle.job_sched.specs.declared.member.Member.{Member}
use Rattle.job_sched.specs.declared.member.Waiter.{Waiter}
use Rattle.job_sched.specs.Schedules.{Schedule, is_member, members}
use Rattle.job_sched.specs.Places.{IsPlaceOf, IsThere}
use Rattle.job_sched.specs.Rows.{number}
use Rattle.job_sched.proofs.Moves.{spot_of}
use Rattle.job_sched.proofs.RowChanges.{low_row}
use Rattle.job_sched.proofs.Looks.{in_members, member_found, no_member, none_but}
use Rattle.job_sched.proofs.sched.Sched.seat.Goals as goal

pub returns-in_err-place : goal.returns-in_err-place
returns-in_err-place c =
    let i = c.self.inside in
    let away = subst (λ (vs : List Waiter). IsPlaceOf i.rows vs c.args.f None) c.deref.ensures.value c.in_err-place.ensures in
    c.from_residual.ensures
    ∙ sym (ap (option_map (λ (m : Member). m.seat)) (ap (λ (s : Schedule). find (is_member c.args.f) (members s)) (sym c.self.view_is)
    ∙ no_member i.rows i.spare i.spots.items i.places.items i.seated.items i.used c.self.invariant c.args.f (λ k q low at. away k q (omega arith) at)))

pub returns-then-has_members : goal.returns-then-has_members
returns-then-has_members c =
    let i = c.self.inside in
    let there = subst (λ (vs : List Waiter). IsThere i.rows vs c.args.f c.in_ok-place.place) c.deref.ensures.value c.in_ok-place.ensures in
    let row_is = c.self.invariant.names.rows.apart there.row_at (number c.row_of.result) c.in_ok-place.place there.here c.row_of.ensures.stands in
    let some = there.some in
    let high = c.has_members.ensures.0 c.if-has_members.true in
    let below = c.row_of.ensures.below in
    let all = c.self.invariant.names.all_spots in
    let under = there.below in
    ap (λ (v : Waiter). Some v.seat) (spot_of i.spots.items c.in_ok-place.place c.index.result.now (omega arith) c.index.ensures)
    ∙ sym (ap (option_map (λ (m : Member). m.seat)) (ap (λ (s : Schedule). find (is_member c.args.f) (members s)) (sym c.self.view_is)
    ∙ member_found i.rows i.spare i.spots.items i.places.items i.seated.items i.used c.self.invariant c.args.f c.in_ok-place.place (number c.row_of.result) there (in_members c.in_ok-place.place (number c.row_of.result) i.rows (omega arith) (omega arith) c.row_of.ensures.stands)))

pub returns-else-has_members : goal.returns-else-has_members
returns-else-has_members c =
    let i = c.self.inside in
    let there = subst (λ (vs : List Waiter). IsThere i.rows vs c.args.f c.in_ok-place.place) c.deref.ensures.value c.in_ok-place.ensures in
    let row_is = c.self.invariant.names.rows.apart there.row_at (number c.row_of.result) c.in_ok-place.place there.here c.row_of.ensures.stands in
    let some = there.some in
    let low = low_row c.row_of.result c.has_members.result c.has_members.ensures c.if-has_members.false in
    sym (ap (option_map (λ (m : Member). m.seat)) (ap (λ (s : Schedule). find (is_member c.args.f) (members s)) (sym c.self.view_is)
    ∙ no_member i.rows i.spare i.spots.items i.places.items i.seated.items i.used c.self.invariant c.args.f (λ k q two at. none_but i.rows i.spare i.spots.items i.places.items i.seated.items i.used c.self.invariant c.args.f c.in_ok-place.place (number c.row_of.result) there (omega arith) c.row_of.ensures.stands k q (omega arith) (λ e. absurd (omega arith)) at)))
