use Rattle.std.proofs.Common.{◌≡◌, ◌∙◌, inl, inr, ap, sym, arith, Some, slice_index}
use Rattle.std.specs.Option.{option_map}
use Rattle.std.specs.List.{find}
use Rattle.std.proofs.lemmas.Grind.{get_or_default_zero}
use Rattle.job_sched.specs.declared.member.Member.{Member}
use Rattle.job_sched.specs.declared.member.Waiter.{Waiter}
use Rattle.job_sched.specs.Rows.{number, row}
use Rattle.job_sched.specs.Schedules.{Schedule, has_seat, members}
use Rattle.job_sched.specs.Places.{spot}
use Rattle.job_sched.proofs.Moves.{spot_of}
use Rattle.job_sched.proofs.RowChanges.{low_row}
use Rattle.job_sched.proofs.Looks.{in_rows}
use Rattle.job_sched.proofs.Seats.{seat_found, seat_none, size_is}
use Rattle.job_sched.proofs.sched.Sched.member.Goals as goal

pub returns-then-not-has_members : goal.returns-then-not-has_members
returns-then-not-has_members c =
    let i = c.self.inside in
    let size = size_is i.rows i.spare i.spots.items i.places.items i.seated.items i.used c.self.invariant c.args.seat c.from-3.result c.args.self.now c.self.view_is in
    let long = c.self.invariant.all_seats in
    let asked = c.requires in
    let same = c.from.ensures in
    let leads : slice_index i.seated.items c.args.seat ≡ c.from-3.result =
    sym (c.from-3.ensures ∙ c.index-place.ensures ∙ get_or_default_zero i.seated.items c.from.result c.index-place.result.now (omega arith) ∙ ap (slice_index i.seated.items) same) in
    let all = c.self.invariant.names.all_spots in
    let inside = c.self.invariant.inside c.args.seat in
    let place : c.from-2.result ≡ c.from-3.result = c.from-2.ensures ∙ sym c.from-3.ensures in
    let low = low_row c.row_of-row.result c.has_members.result c.has_members.ensures c.if-not-has_members.true in
    sym (ap (option_map (λ (m : Member). m.fork)) (ap (λ (s : Schedule). find (has_seat c.args.seat) (members s)) (sym c.self.view_is)
    ∙ seat_none i.rows i.spare i.spots.items i.places.items i.seated.items i.used c.self.invariant c.args.seat c.from-3.result leads
    (λ at. elim (in_rows c.from-3.result (row i.rows 2) (row i.rows 3) at) [
      | inl ready ↦ let no = c.self.invariant.names.rows.apart 2 (number c.row_of-row.result) c.from-3.result ready c.row_of-row.ensures.stands in absurd (omega arith)
      | inr waiting ↦ let no = c.self.invariant.names.rows.apart 3 (number c.row_of-row.result) c.from-3.result waiting c.row_of-row.ensures.stands in absurd (omega arith)
    ])))

pub returns-then-spot-seat : goal.returns-then-spot-seat
returns-then-spot-seat c =
    let i = c.self.inside in
    let size = size_is i.rows i.spare i.spots.items i.places.items i.seated.items i.used c.self.invariant c.args.seat c.from-3.result c.args.self.now c.self.view_is in
    let long = c.self.invariant.all_seats in
    let asked = c.requires in
    let same = c.from.ensures in
    let leads : slice_index i.seated.items c.args.seat ≡ c.from-3.result =
    sym (c.from-3.ensures ∙ c.index-place.ensures ∙ get_or_default_zero i.seated.items c.from.result c.index-place.result.now (omega arith) ∙ ap (slice_index i.seated.items) same) in
    let all = c.self.invariant.names.all_spots in
    let inside = c.self.invariant.inside c.args.seat in
    let place : c.from-2.result ≡ c.from-3.result = c.from-2.ensures ∙ sym c.from-3.ensures in
    let what = spot_of i.spots.items c.from-2.result c.index-spot.result.now (omega arith) c.index-spot.ensures ∙ ap (spot i.spots.items) place in
    sym (ap (option_map (λ (m : Member). m.fork)) (ap (λ (s : Schedule). find (has_seat c.args.seat) (members s)) (sym c.self.view_is)
    ∙ seat_none i.rows i.spare i.spots.items i.places.items i.seated.items i.used c.self.invariant c.args.seat c.from-3.result leads (λ at e. c.if-spot-seat.true (ap (λ (v : Waiter). v.seat) what ∙ e))))

pub returns : goal.returns
returns c =
    let i = c.self.inside in
    let size = size_is i.rows i.spare i.spots.items i.places.items i.seated.items i.used c.self.invariant c.args.seat c.from-3.result c.args.self.now c.self.view_is in
    let long = c.self.invariant.all_seats in
    let asked = c.requires in
    let same = c.from.ensures in
    let leads : slice_index i.seated.items c.args.seat ≡ c.from-3.result =
    sym (c.from-3.ensures ∙ c.index-place.ensures ∙ get_or_default_zero i.seated.items c.from.result c.index-place.result.now (omega arith) ∙ ap (slice_index i.seated.items) same) in
    let all = c.self.invariant.names.all_spots in
    let inside = c.self.invariant.inside c.args.seat in
    let place : c.from-2.result ≡ c.from-3.result = c.from-2.ensures ∙ sym c.from-3.ensures in
    let what = spot_of i.spots.items c.from-2.result c.index-spot.result.now (omega arith) c.index-spot.ensures ∙ ap (spot i.spots.items) place in
    let low = c.has_members.ensures.0 c.if-not-has_members.false in
    let high = c.row_of-row.ensures.below in
    ap (λ (v : Waiter). Some v.fork) what
    ∙ sym (ap (option_map (λ (m : Member). m.fork)) (ap (λ (s : Schedule). find (has_seat c.args.seat) (members s)) (sym c.self.view_is)
    ∙ seat_found i.rows i.spare i.spots.items i.places.items i.seated.items i.used c.self.invariant c.args.seat c.from-3.result (number c.row_of-row.result) low high c.row_of-row.ensures.stands (sym (ap (λ (v : Waiter). v.seat) what) ∙ c.if-spot-seat.false)))
