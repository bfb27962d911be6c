use Rattle.std.proofs.Common.{◌≡◌, ◌+◌, true, false, sym, ◌∙◌, ap, subst, arith}
use Rattle.page_contracts.specs.Stores.{StaysQueued, StaysThere}
use Rattle.page_waits.specs.Systems.{StaysState}
use Rattle.page_waits.specs.Waits.{awaits, the_lists}
use Rattle.page_waits.proofs.Held.{AreHeldBelow, held_next, held_not}
use Rattle.page_waits.proofs.Staying.{queued_then, state_then, still_holds, there_then}
use Rattle.page_waits.proofs.waking.hold_for_seats.Goals as goal
use Rattle.page_waits.proofs.waking.hold_for_seats.Goals.{then-is_for, else-is_for}

pub hold-requires-clause-can : goal.hold-requires-clause-can
hold-requires-clause-can g c =
    still_holds g.S.System.means.store c.args.system.now c.loop-seat.system c.loop-seat.seat c.args.home.0 c.loop-seat.invariant.there c.loop-seat.invariant.queued
    (c.requires.can c.loop-seat.seat (omega (arith, c.loop-seat-test.true, c.set-set.ensures)))

pub loop-seat-preserved : goal.loop-seat-preserved
loop-seat-preserved g c = elim c.if-is_for.branch [
  | then-is_for w ↦
      let store = g.S.System.means.store in
      let i = c.loop-seat.invariant in
      let held = w.hold.ensures in
      let waits : awaits c.args.home.0 (the_lists.waiting c.args.lists.now c.loop-seat.seat) ≡ true = ap (awaits c.args.home.0) (sym c.waits_at.ensures) ∙ sym c.is_for.ensures ∙ w.if-is_for.true in
      record {
        holds =
            subst (λ s. AreHeldBelow (c.loop-seat.seat + 1) c.args.home.0 (the_lists.waiting c.args.lists.now) (store.holds c.args.system.now) (store.holds s)) (sym w.system-is)
            (held_next c.loop-seat.seat c.args.home.0 (the_lists.waiting c.args.lists.now) (store.holds c.args.system.now) (store.holds c.loop-seat.system) i.holds (store.holds w.hold.new.system) waits held.holds);
        there = subst (StaysThere store c.args.system.now) (sym w.system-is) (there_then store c.args.system.now c.loop-seat.system w.hold.new.system i.there held.there);
        queued = subst (StaysQueued store c.args.system.now) (sym w.system-is) (queued_then store c.args.system.now c.loop-seat.system w.hold.new.system i.queued held.queued);
        state = subst (StaysState g.S.System.means c.args.system.now) (sym w.system-is) (state_then g.S.System.means c.args.system.now c.loop-seat.system w.hold.new.system i.state held.state);
      }
  | else-is_for w ↦
      let store = g.S.System.means.store in
      let i = c.loop-seat.invariant in
      let waits : awaits c.args.home.0 (the_lists.waiting c.args.lists.now c.loop-seat.seat) ≡ false = ap (awaits c.args.home.0) (sym c.waits_at.ensures) ∙ sym c.is_for.ensures ∙ w.if-is_for.false in
      record {
        holds =
            subst (λ s. AreHeldBelow (c.loop-seat.seat + 1) c.args.home.0 (the_lists.waiting c.args.lists.now) (store.holds c.args.system.now) (store.holds s)) (sym w.system-is)
            (held_not c.loop-seat.seat c.args.home.0 (the_lists.waiting c.args.lists.now) (store.holds c.args.system.now) (store.holds c.loop-seat.system) i.holds waits);
        there = subst (StaysThere store c.args.system.now) (sym w.system-is) i.there;
        queued = subst (StaysQueued store c.args.system.now) (sym w.system-is) i.queued;
        state = subst (StaysState g.S.System.means c.args.system.now) (sym w.system-is) i.state;
      }
]
