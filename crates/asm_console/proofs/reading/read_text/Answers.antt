use Rattle.std.proofs.Common.{◌++◌, take, arith, length-append, length-take-le}
use Rattle.asm_console.proofs.Writes.{loses_then}
use Rattle.asm_console.proofs.reading.read_text.Goals as goal

pub returns-then-len-count-gt-PROGRAM_BYTES-clause-why : goal.returns-then-len-count-gt-PROGRAM_BYTES-clause-why
returns-then-len-count-gt-PROGRAM_BYTES-clause-why g c =
    let text = c.loop-count.text.items in
    let piece = c.read.new.piece in
    let n = c.in-Ok.count in
    let few = length-take-le n piece (omega (arith, c.in-Ok.ensures.bound, c.read.auto.piece)) in
    record {
      taken = text ++ take n piece;
      loses = loses_then _ _ _ text (take n piece) c.loop-count.invariant.loses c.in-Ok.ensures.bytes;
      count = omega (arith, c.if-len-count-gt-PROGRAM_BYTES.true, length-append text (take n piece), few);
    }
