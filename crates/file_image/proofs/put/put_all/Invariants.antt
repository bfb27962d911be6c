use Rattle.std.proofs.Common.{◌≡◌, take}
use Rattle.std.specs.List.{flat_map}
use Rattle.outside.specs.Told.{Grows}
use Rattle.file_image.proofs.put.put_all.Given as goal

abbrev pub invariant-loop-piece : goal.invariant-loop-piece
invariant-loop-piece g l = record {
  unfaulted : g.T.Sink.fault_count l.out ≡ g.T.Sink.fault_count l.fn.out;
  grows : Grows (g.T.Sink.taken l.fn.out) (g.T.Sink.taken l.out) (flat_map (λ p. p.now) (take l.piece-index l.pieces));
}
