use Rattle.std.proofs.Common.{◌≡◌, ◌≤◌, []}
use Rattle.std.specs.Prelude.{None, drop, map, take}
use Rattle.page_contracts.specs.Stores.{need_of}
use Rattle.page_waits.specs.Acts.{Quiet}
use Rattle.page_waits.specs.Machines.{IsBare, KeepsMarks}
use Rattle.page_waits.specs.Told.{MovesSilently, all_arrived}
use Rattle.page_waits.specs.Transfers.{MovesAtMost}
use Rattle.page_waits.specs.Waits.{the_lists}
use Rattle.page_waits.proofs.machine.Machine.transfers.Given as goal

abbrev pub invariant-loop-k : goal.invariant-loop-k
invariant-loop-k g l = record {
  later : g.D.Drum.fault_count l.fn.drum ≤ g.D.Drum.fault_count l.drum;
  size : g.D.Drum.size l.drum ≡ g.D.Drum.size l.fn.drum;
  reads : g.D.Drum.read_count l.fn.drum ≤ g.D.Drum.read_count l.drum;
  writes : g.D.Drum.write_count l.fn.drum ≤ g.D.Drum.write_count l.drum;
  bounded : MovesAtMost (record { reads = g.D.Drum.read_count; writes = g.D.Drum.write_count }) l._k l.fn.drum l.drum;
  quiet : Quiet g.S.System.means the_lists g.D.Drum.held None None None 0 l.fn.self.system l.self.system l.fn.self.lists l.self.lists l.fn.drum l.drum;
  silent : MovesSilently l.fn.self.lists.sched l.self.lists.sched;
  oldest : g.S.System.means.store.queue l.self.system ≡ drop l._k (g.S.System.means.store.queue l.fn.self.system);
  told : l.self.lists.sched ≡ all_arrived (take l._k (map need_of (g.S.System.means.store.queue l.fn.self.system))) l.fn.self.lists.sched;
  bare : IsBare l.self;
  marks : KeepsMarks l.fn.self l.self;
  same : g.S.System.means.store.queue l.fn.self.system ≡ [] → (l.self.system ≡ l.fn.self.system) × (l.self.lists ≡ l.fn.self.lists) × (l.drum ≡ l.fn.drum);
}
