use Rattle.std.proofs.Common.{◌≡◌, ◌-◌, ℕ, List, Some, map}
use Rattle.record_reader.specs.OneLine.{told}
use Rattle.record_reader.specs.Verdicts.{most_record_bytes}
use Rattle.record_reader.specs.Reader.{HasRead, IsOpen, StandsIn}
use Rattle.record_reader.proofs.whole_reading.read_record.Given as goal

abbrev pub invariant-loop-said : goal.invariant-loop-said
invariant-loop-said g l = record {
  unfaulted : g.S.Source.fault_count l.source ≡ g.S.Source.fault_count l.fn.source;
  still_open : IsOpen l.reader;
  has : HasRead l.reader (map told l.lines.items);
  stands : (text : List ℕ) → g.S.Source.left l.fn.source ≡ Some text → StandsIn g.S.Source.left text l.reader l.source (map told l.lines.items);
}

abbrev pub decreases-loop-said : goal.decreases-loop-said
decreases-loop-said g l = most_record_bytes - l.reader.passed.bytes
