use Rattle.std.proofs.Common.{◌≡◌, ◌≤◌, length, true}
use Rattle.script_texts.specs.Taker.{StaysOnward}
use Rattle.event_items.specs.Outcome.{DrumStays}
use Rattle.page_waits.specs.Machines.{IsBare}
use Rattle.paged_events.specs.Given.{IsWithin}
use Rattle.script_driver.specs.Machines.{auto, done, frames, is_live, limit}
use Rattle.script_driver.proofs.Generating.{Generated, most_behind}
use Rattle.script_driver.proofs.Running.{SoFar}
use Rattle.script_driver.proofs.generated.drive_generated.Given as goal

abbrev pub invariant-loop-event : goal.invariant-loop-event
invariant-loop-event g l = record {
  later : g.K.Taker.fault_count l.fn.taker ≤ g.K.Taker.fault_count l.taker;
  onward : StaysOnward g.K.Taker.onward l.fn.taker l.taker;
  drum : DrumStays g.D.Drum.fault_count g.D.Drum.read_count g.D.Drum.write_count g.D.Drum.size l.fn.drum l.drum;
  most : limit l.machine ≡ limit l.fn.machine;
  core : frames l.machine ≡ frames l.fn.machine;
  live : is_live l.machine ≡ true;
  bare : IsBare l.machine.waits;
  within : IsWithin g.M.System.means l.machine.waits.system (done l.machine);
  so_far : SoFar g.M.System.means g.D.Drum.held g.K.Taker.stands l.fn.machine.waits.system l.fn.drum (Generated l.fn.seed l.big) (most_behind l.big) l.fn.taker l.taker l.machine.waits.system l.machine.waits.lists l.drum (auto l.machine) (done l.machine);
}

abbrev pub decreases-loop-event : goal.decreases-loop-event
decreases-loop-event g l = length l.big
