use Rattle.std.proofs.Common.{◌≡◌, ℕ, ◌-◌, ◌<◌, ◌≤◌}
use Rattle.std.specs.Prelude.{None, false}
use Rattle.page_waits.specs.Acts.{Quiet}
use Rattle.page_waits.specs.Calm.{IsRoomy}
use Rattle.page_waits.specs.Machines.{IsBare, KeepsMarks, auto}
use Rattle.page_waits.specs.Told.{MovesSilently}
use Rattle.page_waits.specs.Transfers.{Moved, MovesAtMost}
use Rattle.page_waits.specs.Waits.{the_lists}
use Rattle.page_waits.proofs.InCore.{Untouched}
use Rattle.page_waits.proofs.machine.Machine.look.Given as goal

abbrev pub invariant-loop-u : goal.invariant-loop-u
invariant-loop-u g l = record {
  few : l.left ≤ 4294967296;
  quiet : Quiet g.S.System.means the_lists g.D.Drum.held None None None (4294967296 - l.left) l.fn.self.system l.self.system l.fn.self.lists l.self.lists l.fn.drum l.drum;
  moved : Moved (record { reads = g.D.Drum.read_count; writes = g.D.Drum.write_count }) (4294967296 - l.left) l.fn.drum l.drum;
  bounded : MovesAtMost (record { reads = g.D.Drum.read_count; writes = g.D.Drum.write_count }) (4294967296 - l.left) l.fn.drum l.drum;
  later : g.D.Drum.fault_count l.fn.drum ≤ g.D.Drum.fault_count l.drum;
  size : g.D.Drum.size l.drum ≡ g.D.Drum.size l.fn.drum;
  reads : g.D.Drum.read_count l.fn.drum ≤ g.D.Drum.read_count l.drum;
  writes : g.D.Drum.write_count l.fn.drum ≤ g.D.Drum.write_count l.drum;
  off : auto l.fn.self ≡ false → l.drum ≡ l.fn.drum;
  fresh : l.left < 4294967296 → l.self.lists.sched.used ≡ 0;
  silent : MovesSilently l.fn.self.lists.sched l.self.lists.sched;
  seated : the_lists.member l.self.lists ≡ the_lists.member l.fn.self.lists;
  within : (n : ℕ) → g.S.System.means.within l.fn.self.system n → g.S.System.means.within l.self.system n;
  marks : KeepsMarks l.fn.self l.self;
  bare : IsBare l.self;
  calm : Untouched g.S.System.means IsRoomy l.fn.self.system l.self.system l.fn.self.lists l.self.lists;
}

abbrev pub decreases-loop-u : goal.decreases-loop-u
decreases-loop-u g l = l.left
