use Rattle.std.proofs.Common.{◌≡◌, ◌+◌, ◌-◌, ◌≤◌, length}
use Rattle.line_buffer.specs.Feeds.{Reads, StopsWithin}
use Rattle.line_buffer.proofs.Reading.{IsPlain}
use Rattle.line_buffer.proofs.buffer.Buffer.pass_line.Given as goal

abbrev pub invariant-loop-count : goal.invariant-loop-count
invariant-loop-count g l = record {
  later : g.S.Source.fault_count l.fn.s ≤ g.S.Source.fault_count l.s;
  unfaulted : g.S.Source.fault_count l.s ≡ g.S.Source.fault_count l.fn.s;
  reads : Reads g.S.Source.left (StopsWithin 0 l.room) l.fn.self l.fn.s l.s (IsPlain l.count);
  far : length l.fn.self ≤ l.count;
}

abbrev pub decreases-loop-count : goal.decreases-loop-count
decreases-loop-count g l = l.room + 1 - l.count
