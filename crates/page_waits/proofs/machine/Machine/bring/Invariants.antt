use Rattle.std.proofs.Common.{◌≡◌, ◌⊎◌, ℕ, ◌+◌, ◌-◌, ◌≤◌, cond, is_some}
use Rattle.std.specs.Prelude.{None, Some}
use Rattle.event_deeds.specs.Deeds.{IsNext}
use Rattle.page_contracts.specs.DrumWords.{DrumWords}
use Rattle.page_waits.specs.Acts.{Quiet}
use Rattle.page_waits.specs.Calm.{IsRoomy}
use Rattle.page_waits.specs.InCore.{IsInCore}
use Rattle.page_waits.specs.Machines.{KeepsMarks}
use Rattle.page_waits.specs.Told.{MovesSilently}
use Rattle.page_waits.specs.Transfers.{MovesAtMost}
use Rattle.page_waits.specs.Waits.{AreAwaited, waits_with, the_lists}
use Rattle.page_waits.proofs.InCore.{Untouched}
use Rattle.page_waits.proofs.machine.Machine.bring.Given as goal

abbrev pub invariant-loop-waits : goal.invariant-loop-waits
invariant-loop-waits g l = record {
  few : l.left ≤ 4294967296;
  quiet : Quiet g.S.System.means the_lists g.D.Drum.held (Some l.deed) None l.waits (4294967296 - l.left) l.fn.self.system l.self.system l.fn.self.lists l.self.lists l.fn.drum l.drum;
  awaited : AreAwaited g.S.System.means (waits_with l.waits (the_lists.waiting l.self.lists)) l.self.system;
  later : g.D.Drum.fault_count l.fn.drum ≤ g.D.Drum.fault_count l.drum;
  size : g.D.Drum.size l.drum ≡ g.D.Drum.size l.fn.drum;
  reads : g.D.Drum.read_count l.fn.drum ≤ g.D.Drum.read_count l.drum;
  writes : g.D.Drum.write_count l.fn.drum ≤ g.D.Drum.write_count l.drum;
  bounded : MovesAtMost (record { reads = g.D.Drum.read_count; writes = g.D.Drum.write_count }) (4294967296 - l.left) l.fn.drum l.drum;
  within : (n : ℕ) → g.S.System.means.within l.fn.self.system n → g.S.System.means.within l.self.system n;
  silent : MovesSilently l.fn.self.lists.sched l.self.lists.sched;
  marks : KeepsMarks l.fn.self l.self;
  calm : Untouched g.S.System.means (λ frames s. IsNext l.deed ⊎ IsRoomy frames s) l.fn.self.system l.self.system l.fn.self.lists l.self.lists;
  first : (frames : ℕ) (d : DrumWords) → g.S.System.means.fits l.fn.self.system d → IsInCore g.S.System.means frames l.fn.self.system l.fn.self.lists
      → IsNext l.deed ⊎ IsRoomy frames (g.S.System.means.plain l.fn.self.system d) → l.waits ≡ None;
}

abbrev pub decreases-loop-waits : goal.decreases-loop-waits
decreases-loop-waits g l = l.left + l.left + cond (is_some l.waits) 0 1
