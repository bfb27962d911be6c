use Rattle.std.proofs.Common.{◌≡◌, ◌∙◌, ℕ, length, true, ap, sym, subst, arith}
use Rattle.std.proofs.lemmas.List.{length-map}
use Rattle.frame_order.specs.FrameOrder.{IsOnce, stands_in}
use Rattle.job_sched.specs.Places.{spot}
use Rattle.job_sched.specs.Rows.{row}
use Rattle.job_sched.specs.Schedules.{Schedule, member_of, seats_of}
use Rattle.job_sched.specs.Ties.{AreApart}
use Rattle.job_sched.proofs.Apart.{apart_kept}
use Rattle.job_sched.proofs.Leaving.{few_stand}
use Rattle.job_sched.proofs.Seats.{seats_below, seats_once, size_is}
use Rattle.job_sched.proofs.sched.Sched.sound.Goals as goal

pub returns : goal.returns
returns c =
    let i = c.self.inside in
    let kept = c.self.invariant in
    let size = size_is i.rows i.spare i.spots.items i.places.items i.seated.items i.used kept 0 0 c.args.self.now c.self.view_is in
    let some = kept.some in
    let few = few_stand i.rows i.spots.items i.spare.order i.used c.args.self.now kept.names.rows kept.names.four c.self.view_is in
    let bound = kept.names.bound in
    let used = ap (λ (s : Schedule). s.used) c.self.view_is in
    let timed = kept.timed in
    record {
      apart = subst AreApart c.self.view_is (apart_kept i.rows i.spots.items i.places.items kept.names i.spare.order i.used);
      few = omega arith;
      some = omega arith;
      small = let low = kept.few in omega arith;
      seats = subst (λ (s : Schedule). IsOnce (seats_of s)) c.self.view_is (seats_once i.rows i.spare i.spots.items i.places.items i.seated.items i.used kept);
      numbered = λ k here.
          let below = seats_below i.rows i.spare i.spots.items i.places.items i.seated.items i.used kept k (subst (λ (s : Schedule). stands_in k (seats_of s) ≡ true) (sym c.self.view_is) here) in
          omega arith;
      timed = omega arith;
      idle = λ none.
          let ready = ap (λ (s : Schedule). length s.ready) c.self.view_is ∙ ap length none in
          let long = length-map (row i.rows 2) (λ (p : ℕ). member_of (spot i.spots.items p)) in
          let idle = kept.idle in
          omega arith;
    }
