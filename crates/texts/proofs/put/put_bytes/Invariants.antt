use Rattle.std.proofs.Common.{◌≡◌, length, take, ◌-◌, ◌≤◌}
use Rattle.outside.specs.Told.{Grows}
use Rattle.texts.proofs.put.put_bytes.Given as goal

abbrev pub invariant-loop-at : goal.invariant-loop-at
invariant-loop-at g l = record {
  within : l.at ≤ length l.bytes;
  unfaulted : g.S.Sink.fault_count l.sink ≡ g.S.Sink.fault_count l.fn.sink;
  grows : Grows (g.S.Sink.taken l.fn.sink) (g.S.Sink.taken l.sink) (take l.at l.bytes);
}

abbrev pub decreases-loop-at : goal.decreases-loop-at
decreases-loop-at g l = length l.bytes - l.at
