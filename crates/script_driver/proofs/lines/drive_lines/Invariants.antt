use Rattle.std.proofs.Common.{◌≡◌, ◌≤◌, ◌-◌, [], true}
use Rattle.script_texts.specs.Script.{most_bytes}
use Rattle.script_texts.specs.Taker.{StaysOnward}
use Rattle.script_lang.specs.Lines.{IsOpen, given, lines_given, pending}
use Rattle.event_items.specs.Outcome.{DrumStays}
use Rattle.page_waits.specs.Machines.{IsBare}
use Rattle.paged_events.specs.Given.{IsWithin}
use Rattle.script_driver.specs.Machines.{auto, done, frames, is_live, limit}
use Rattle.script_driver.proofs.Lined.{Lined, most_entries}
use Rattle.script_driver.proofs.Running.{SoFar}
use Rattle.script_driver.proofs.lines.drive_lines.Given as goal

abbrev pub invariant-loop-lines : goal.invariant-loop-lines
invariant-loop-lines g l = record {
  read_later : g.S.Source.fault_count l.fn.script ≤ g.S.Source.fault_count l.script;
  unfaulted : g.S.Source.fault_count l.script ≡ g.S.Source.fault_count l.fn.script;
  later : g.K.Taker.fault_count l.fn.taker ≤ g.K.Taker.fault_count l.taker;
  onward : StaysOnward g.K.Taker.onward l.fn.taker l.taker;
  drum : DrumStays g.D.Drum.fault_count g.D.Drum.read_count g.D.Drum.write_count g.D.Drum.size l.fn.drum l.drum;
  most : limit l.machine ≡ limit l.fn.machine;
  core : frames l.machine ≡ frames l.fn.machine;
  live : is_live l.machine ≡ true;
  bare : IsBare l.machine.waits;
  within : IsWithin g.M.System.means l.machine.waits.system (done l.machine);
  is_open : IsOpen l.lines;
  none : pending l.initial.lines ≡ [];
  start : given l.initial.lines ≡ 0;
  no_lines : lines_given l.initial.lines ≡ 0;
  so_far : SoFar g.M.System.means g.D.Drum.held g.K.Taker.stands l.fn.machine.waits.system l.fn.drum (Lined g.S.Source.left l.initial.lines l.lines l.fn.script l.script) (most_entries l.lines) l.fn.taker l.taker l.machine.waits.system l.machine.waits.lists l.drum (auto l.machine) (done l.machine);
}

abbrev pub decreases-loop-lines : goal.decreases-loop-lines
decreases-loop-lines g l = most_bytes - given l.lines
