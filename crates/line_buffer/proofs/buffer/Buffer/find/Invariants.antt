use Rattle.std.proofs.Common.{◌≡◌, ◌≤◌, ◌-◌, length}
use Rattle.line_buffer.specs.Feeds.{Reads, StopsWithin}
use Rattle.line_buffer.proofs.buffer.Buffer.find.Given as goal

abbrev pub invariant-loop-n : goal.invariant-loop-n
invariant-loop-n g l = record {
  later : g.S.Source.fault_count l.fn.s ≤ g.S.Source.fault_count l.s;
  unfaulted : g.S.Source.fault_count l.s ≡ g.S.Source.fault_count l.fn.s;
  reads : Reads g.S.Source.left (StopsWithin 0 l.room) l.fn.self l.fn.s l.s (λ xs. xs ≡ l.self);
}

abbrev pub decreases-loop-n : goal.decreases-loop-n
decreases-loop-n g l = 257 - length l.self
