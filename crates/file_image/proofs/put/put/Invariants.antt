use Rattle.std.proofs.Common.{◌≡◌, length, take, ◌-◌, ◌≤◌}
use Rattle.outside.specs.Told.{Grows}
use Rattle.file_image.proofs.put.put.Given as goal

abbrev pub invariant-loop-at : goal.invariant-loop-at
invariant-loop-at g l = record {
  within : l.at ≤ length l.bytes;
  unfaulted : g.T.Sink.fault_count l.out ≡ g.T.Sink.fault_count l.fn.out;
  grows : Grows (g.T.Sink.taken l.fn.out) (g.T.Sink.taken l.out) (take l.at l.bytes);
}

abbrev pub decreases-loop-at : goal.decreases-loop-at
decreases-loop-at g l = length l.bytes - l.at
