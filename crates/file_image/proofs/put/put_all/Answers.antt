use Rattle.std.proofs.Common.{ℕ, ◌+◌, List, [], Bor, ◌∙◌, drop, take, sym}
use Rattle.std.specs.List.{flat_map}
use Rattle.file_image.proofs.Growing.{any_err, flat_more, flat_split, grows_same, grows_then, partly_longer, partly_same, partly_then}
use Rattle.file_image.proofs.put.put_all.Goals as goal

-- no piece
abbrev none : Bor (List ℕ)
none = record { ref_ptr = (0, 0); now = [] }

abbrev bytes_of : Bor (List ℕ) → List ℕ
bytes_of p = p.now

pub returns-in_err-put-clause-err : goal.returns-in_err-put-clause-err
returns-in_err-put-clause-err g c =
    let i = c.loop-piece.piece-index in
    let pieces = c.args.pieces.now in
    any_err c.from_residual.result
    (partly_same _ _ _ _ (sym (flat_split bytes_of pieces i none c.loop-piece-test.true))
    (partly_then _ _ _ (flat_map bytes_of (take i pieces)) _ c.loop-piece.invariant.grows (partly_longer _ _ _ (flat_map bytes_of (drop (i + 1) pieces)) c.in_err-put.ensures.err)))

pub loop-piece-preserved : goal.loop-piece-preserved
loop-piece-preserved g c =
    let i = c.loop-piece.piece-index in
    let pieces = c.args.pieces.now in
    let done = c.in_ok-put.ensures in
    record {
      unfaulted = done.unfaulted ∙ c.loop-piece.invariant.unfaulted;
      grows = grows_same _ _ _ _ (sym (flat_more bytes_of pieces i none c.loop-piece-test.true)) (grows_then _ _ _ _ _ c.loop-piece.invariant.grows done.ok);
    }
