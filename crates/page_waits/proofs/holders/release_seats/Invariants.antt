use Rattle.std.proofs.Common.{◌≡◌, ◌≢◌, ◌<◌, ℕ, []}
use Rattle.page_contracts.specs.Stores.{StaysQueued, StaysThere}
use Rattle.page_waits.specs.Holders.{fork_at}
use Rattle.page_waits.specs.Systems.{StaysState}
use Rattle.page_waits.specs.Waits.{the_lists}
use Rattle.page_waits.proofs.holders.release_seats.Given as goal

abbrev pub invariant-loop-seat : goal.invariant-loop-seat
invariant-loop-seat g l = record {
  gone : (k : ℕ) → k < l.seat → the_lists.member l.lists k ≢ fork_at l.forks k → g.S.System.means.store.holds l.system k ≡ [];
  stays : (k : ℕ) → the_lists.member l.lists k ≡ fork_at l.forks k → g.S.System.means.store.holds l.system k ≡ g.S.System.means.store.holds l.fn.system k;
  less : (k : ℕ) → g.S.System.means.store.holds l.fn.system k ≡ [] → g.S.System.means.store.holds l.system k ≡ [];
  there : StaysThere g.S.System.means.store l.fn.system l.system;
  queued : StaysQueued g.S.System.means.store l.fn.system l.system;
  state : StaysState g.S.System.means l.fn.system l.system;
}
