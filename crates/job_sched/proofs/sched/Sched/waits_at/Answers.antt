use Rattle.std.proofs.Common.{◌≡◌, true, ◌∙◌, ap, sym, subst, arith, Some, slice_index}
use Rattle.std.specs.Option.{option_map}
use Rattle.std.specs.List.{find}
use Rattle.std.proofs.lemmas.Grind.{get_or_default_zero}
use Rattle.frame_order.specs.FrameOrder.{stands_in}
use Rattle.job_sched.specs.declared.member.Waiter.{Waiter}
use Rattle.job_sched.specs.declared.rows.Row.{Row}
use Rattle.job_sched.specs.Rows.{number, row}
use Rattle.job_sched.specs.Schedules.{Schedule, waits_in}
use Rattle.job_sched.specs.Places.{spot}
use Rattle.job_sched.proofs.Moves.{spot_of}
use Rattle.job_sched.proofs.RowChanges.{not_waiting}
use Rattle.job_sched.proofs.Seats.{nobody_seated, size_is, waiter_seated}
use Rattle.job_sched.proofs.sched.Sched.waits_at.Goals as goal

pub returns-then-spot-seat : goal.returns-then-spot-seat
returns-then-spot-seat c =
    let i = c.self.inside in
    let size = size_is i.rows i.spare i.spots.items i.places.items i.seated.items i.used c.self.invariant c.args.seat c.from-3.result c.args.self.now c.self.view_is in
    let long = c.self.invariant.all_seats in
    let asked = c.requires in
    let same = c.from.ensures in
    let leads : slice_index i.seated.items c.args.seat ≡ c.from-3.result =
    sym (c.from-3.ensures ∙ c.index-place.ensures ∙ get_or_default_zero i.seated.items c.from.result c.index-place.result.now (omega arith) ∙ ap (slice_index i.seated.items) same) in
    let all = c.self.invariant.names.all_spots in
    let inside = c.self.invariant.inside c.args.seat in
    let place : c.from-2.result ≡ c.from-3.result = c.from-2.ensures ∙ sym c.from-3.ensures in
    let what = spot_of i.spots.items c.from-2.result c.index-spot.result.now (omega arith) c.index-spot.ensures ∙ ap (spot i.spots.items) place in
    sym (ap (option_map (λ (w : Waiter). w.need)) (ap (λ (s : Schedule). find (waits_in c.args.seat) s.waiting) (sym c.self.view_is)
    ∙ nobody_seated i.rows i.spare i.spots.items i.places.items i.seated.items i.used c.self.invariant c.args.seat c.from-3.result leads (λ at e. c.if-spot-seat.true (ap (λ (v : Waiter). v.seat) what ∙ e))))

pub returns-in-Waiting : goal.returns-in-Waiting
returns-in-Waiting c =
    let i = c.self.inside in
    let size = size_is i.rows i.spare i.spots.items i.places.items i.seated.items i.used c.self.invariant c.args.seat c.from-3.result c.args.self.now c.self.view_is in
    let long = c.self.invariant.all_seats in
    let asked = c.requires in
    let same = c.from.ensures in
    let leads : slice_index i.seated.items c.args.seat ≡ c.from-3.result =
    sym (c.from-3.ensures ∙ c.index-place.ensures ∙ get_or_default_zero i.seated.items c.from.result c.index-place.result.now (omega arith) ∙ ap (slice_index i.seated.items) same) in
    let all = c.self.invariant.names.all_spots in
    let inside = c.self.invariant.inside c.args.seat in
    let place : c.from-2.result ≡ c.from-3.result = c.from-2.ensures ∙ sym c.from-3.ensures in
    let what = spot_of i.spots.items c.from-2.result c.index-spot.result.now (omega arith) c.index-spot.ensures ∙ ap (spot i.spots.items) place in
    ap (λ (v : Waiter). Some v.need) what
    ∙ sym (ap (option_map (λ (w : Waiter). w.need)) (ap (λ (s : Schedule). find (waits_in c.args.seat) s.waiting) (sym c.self.view_is)
    ∙ waiter_seated i.rows i.spare i.spots.items i.places.items i.seated.items i.used c.self.invariant c.args.seat c.from-3.result
    (subst (λ (k : Row). stands_in c.from-3.result (row i.rows (number k)) ≡ true) c.in-Waiting.is c.row_of-row.ensures.stands)
    (sym (ap (λ (v : Waiter). v.seat) what) ∙ c.if-spot-seat.false)))

pub returns-in_default : goal.returns-in_default
returns-in_default c =
    let i = c.self.inside in
    let size = size_is i.rows i.spare i.spots.items i.places.items i.seated.items i.used c.self.invariant c.args.seat c.from-3.result c.args.self.now c.self.view_is in
    let long = c.self.invariant.all_seats in
    let asked = c.requires in
    let same = c.from.ensures in
    let leads : slice_index i.seated.items c.args.seat ≡ c.from-3.result =
    sym (c.from-3.ensures ∙ c.index-place.ensures ∙ get_or_default_zero i.seated.items c.from.result c.index-place.result.now (omega arith) ∙ ap (slice_index i.seated.items) same) in
    let all = c.self.invariant.names.all_spots in
    let inside = c.self.invariant.inside c.args.seat in
    let place : c.from-2.result ≡ c.from-3.result = c.from-2.ensures ∙ sym c.from-3.ensures in
    let what = spot_of i.spots.items c.from-2.result c.index-spot.result.now (omega arith) c.index-spot.ensures ∙ ap (spot i.spots.items) place in
    let other = not_waiting c.row_of-row.result c.in_default.not-Waiting in
    sym (ap (option_map (λ (w : Waiter). w.need)) (ap (λ (s : Schedule). find (waits_in c.args.seat) s.waiting) (sym c.self.view_is)
    ∙ nobody_seated i.rows i.spare i.spots.items i.places.items i.seated.items i.used c.self.invariant c.args.seat c.from-3.result leads
    (λ at. let no = c.self.invariant.names.rows.apart 3 (number c.row_of-row.result) c.from-3.result at c.row_of-row.ensures.stands in absurd (omega arith))))
