use Rattle.std.proofs.Common.{◌≡◌, ◌≤◌, ◌-◌, false}
use Rattle.page_waits.specs.Machines.{IsBare, KeepsMarks, auto}
use Rattle.page_waits.specs.Transfers.{MovesAtMost}
use Rattle.paged_events.specs.Budgets.{most_in_turns}
use Rattle.paged_events.specs.Given.{GivenTurns}
use Rattle.paged_events.specs.Outside.{GoesOnOutside}
use Rattle.paged_events.specs.Rows.{TookRows}
use Rattle.paged_events.proofs.running.run.Given as goal

abbrev pub invariant-loop-left : goal.invariant-loop-left
invariant-loop-left g l = record {
  few : l.left ≤ l.n;
  given : GivenTurns g.S.System.means g.D.Drum.held g.T.Taker.stands g.T.Taker.cut (auto l.fn.waits) (l.n - l.left) l.fn.waits.system l.waits.system l.fn.waits.lists l.waits.lists l.fn.drum l.drum l.fn.out l.out;
  rows : TookRows g.S.System.means (record { reads = g.D.Drum.read_count; writes = g.D.Drum.write_count }) (auto l.fn.waits) (l.n - l.left) l.fn.waits.system l.waits.system l.fn.waits.lists l.waits.lists l.fn.drum l.drum;
  outside : GoesOnOutside g.T.Taker.onward g.T.Taker.fault_count g.D.Drum.fault_count g.D.Drum.read_count g.D.Drum.write_count g.D.Drum.size l.fn.out l.out l.fn.drum l.drum;
  bounded : MovesAtMost (record { reads = g.D.Drum.read_count; writes = g.D.Drum.write_count }) (most_in_turns (l.n - l.left)) l.fn.drum l.drum;
  off : auto l.fn.waits ≡ false → l.drum ≡ l.fn.drum;
  bare : IsBare l.waits;
  marks : KeepsMarks l.fn.waits l.waits;
}

abbrev pub decreases-loop-left : goal.decreases-loop-left
decreases-loop-left g l = l.left
