use Rattle.std.proofs.Common.{◌≡◌, ℕ, nat_lt, ◌&&◌, cond}
use Rattle.page_contracts.specs.Stores.{StaysThere, StaysQueued, most_held}
use Rattle.page_waits.specs.Holding.{held_more}
use Rattle.page_waits.specs.Systems.{StaysState}
use Rattle.page_waits.specs.Waits.{awaits, the_lists}
use Rattle.page_waits.proofs.waking.hold_for_seats.Given as goal

abbrev pub invariant-loop-seat : goal.invariant-loop-seat
invariant-loop-seat g l = record {
  holds : (k : ℕ) → g.S.System.means.store.holds l.system k ≡ cond (nat_lt k l.seat && awaits l.home.0 (the_lists.waiting l.lists k)) (held_more (most_held k) l.home.0 (g.S.System.means.store.holds l.fn.system k)) (g.S.System.means.store.holds l.fn.system k);
  there : StaysThere g.S.System.means.store l.fn.system l.system;
  queued : StaysQueued g.S.System.means.store l.fn.system l.system;
  state : StaysState g.S.System.means l.fn.system l.system;
}
