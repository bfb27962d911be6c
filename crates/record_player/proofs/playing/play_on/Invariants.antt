use Rattle.std.proofs.Common.{◌≡◌, ◌≤◌, ◌-◌, ◌+◌, ℕ, List, []}
use Rattle.std.specs.Prelude.{Option}
use Rattle.script_texts.specs.RecordLines.{RecordLine, entries_told}
use Rattle.script_texts.specs.Taker.{StaysOnward}
use Rattle.record_reader.specs.Reader.{line_given}
use Rattle.record_reader.specs.declared.reader.NextStep.TheVariants.{ReadFault}
use Rattle.record_player.specs.Hearing.{FaultsSo, Heard, TextHeard, size_ahead, size_given}
use Rattle.record_player.specs.Stages.{Gives}
use Rattle.record_player.proofs.Hearing.{ahead}
use Rattle.record_player.proofs.playing.play_on.Given as goal

abbrev pub invariant-lines : goal.invariant-lines
invariant-lines g l = record {
  read : List RecordLine;
  heard : Heard l.reader read l.next;
  text : (told : Option (List ℕ)) → TextHeard g.S.Source.left told l.fn.reader l.fn.input [] l.fn.first → TextHeard g.S.Source.left told l.reader l.input read l.next;
  faults : (base : ℕ) → FaultsSo base (g.S.Source.fault_count l.fn.input) (l.fn.first ≡ ReadFault) → FaultsSo base (g.S.Source.fault_count l.input) (l.next ≡ ReadFault);
  size : size_ahead read l.next ≡ size_given l.fn.first;
  gives : Gives g.T.Taker.stands l.fn.stage l.stage l.fn.out l.out (entries_told read);
  later : g.T.Taker.fault_count l.fn.out ≤ g.T.Taker.fault_count l.out;
  onward : StaysOnward g.T.Taker.onward l.fn.out l.out;
}

abbrev pub decreases-lines : goal.decreases-lines
decreases-lines g l = ahead (line_given l.next) l.reader.passed.bytes
