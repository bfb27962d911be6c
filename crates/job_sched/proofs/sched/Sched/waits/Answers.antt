use Rattle.std.proofs.Common.{◌≡◌, true, ◌∙◌, ap, sym, subst, arith, List, Some, None}
use Rattle.std.specs.Option.{option_map}
use Rattle.std.specs.List.{find}
use Rattle.job_sched.specs.declared.member.Waiter.{Waiter}
use Rattle.frame_order.specs.FrameOrder.{stands_in}
use Rattle.job_sched.specs.declared.rows.Row.{Row}
use Rattle.job_sched.specs.Rows.{number, row}
use Rattle.job_sched.specs.Schedules.{Schedule, is_waiter}
use Rattle.job_sched.specs.Places.{IsPlaceOf, IsThere, spot}
use Rattle.job_sched.proofs.Moves.{spot_of}
use Rattle.job_sched.proofs.RowChanges.{not_waiting}
use Rattle.job_sched.proofs.Looks.{find_none, none_but, waiter_found}
use Rattle.job_sched.proofs.sched.Sched.waits.Goals as goal

pub returns-in_err-place : goal.returns-in_err-place
returns-in_err-place c =
    let i = c.self.inside in
    let away = subst (λ (vs : List Waiter). IsPlaceOf i.rows vs c.args.f None) c.deref.ensures.value c.in_err-place.ensures in
    c.from_residual.ensures
    ∙ sym (ap (option_map (λ (w : Waiter). w.need)) (ap (λ (s : Schedule). find (is_waiter c.args.f) s.waiting) (sym c.self.view_is)
    ∙ find_none (spot i.spots.items) (is_waiter c.args.f) (row i.rows 3) (λ q at. away 3 q (omega arith) at)))

pub returns-in-Waiting : goal.returns-in-Waiting
returns-in-Waiting c =
    let i = c.self.inside in
    let there = subst (λ (vs : List Waiter). IsThere i.rows vs c.args.f c.in_ok-place.place) c.deref.ensures.value c.in_ok-place.ensures in
    let all = c.self.invariant.names.all_spots in
    let under = there.below in
    ap (λ (v : Waiter). Some v.need) (spot_of i.spots.items c.in_ok-place.place c.index.result.now (omega arith) c.index.ensures)
    ∙ sym (ap (option_map (λ (w : Waiter). w.need)) (ap (λ (s : Schedule). find (is_waiter c.args.f) s.waiting) (sym c.self.view_is)
    ∙ waiter_found i.rows i.spare i.spots.items i.places.items i.seated.items i.used c.self.invariant c.args.f c.in_ok-place.place there (subst (λ (k : Row). stands_in c.in_ok-place.place (row i.rows (number k)) ≡ true) c.in-Waiting.is c.row_of.ensures.stands)))

pub returns-in_default : goal.returns-in_default
returns-in_default c =
    let i = c.self.inside in
    let there = subst (λ (vs : List Waiter). IsThere i.rows vs c.args.f c.in_ok-place.place) c.deref.ensures.value c.in_ok-place.ensures in
    let row_is = c.self.invariant.names.rows.apart there.row_at (number c.row_of.result) c.in_ok-place.place there.here c.row_of.ensures.stands in
    let some = there.some in
    let other = not_waiting c.row_of.result c.in_default.not-Waiting in
    sym (ap (option_map (λ (w : Waiter). w.need)) (ap (λ (s : Schedule). find (is_waiter c.args.f) s.waiting) (sym c.self.view_is)
    ∙ find_none (spot i.spots.items) (is_waiter c.args.f) (row i.rows 3)
    (λ q at. none_but i.rows i.spare i.spots.items i.places.items i.seated.items i.used c.self.invariant c.args.f c.in_ok-place.place (number c.row_of.result) there (omega arith) c.row_of.ensures.stands 3 q (omega arith) (λ e. absurd (omega arith)) at)))
