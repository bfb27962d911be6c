use Rattle.std.proofs.Common.{◌∙◌, ◌-◌, ◌≤◌, ◌++◌, ap, take, length, arith, length-take-le, length-append}
use Rattle.line_buffer.proofs.Held.{part, part_filled, length-part}
use Rattle.line_buffer.proofs.buffer.Buffer.fill.Goals as goal

pub returns-clause-bytes : goal.returns-clause-bytes
returns-clause-bytes g c =
    let i = c.self.inside in
    let n = c.in_ok-count.count in
    let piece = c.read.new.piece in
    let few : n ≤ length piece = omega (arith, c.in_ok-count.ensures.bound, c.read.auto.piece) in
    record {
      bytes = take n piece;
      count = length-take-le n piece few;
      grown = part_filled i.bytes c.copy_within.new.self piece i.from i.to (4096 - (i.to - i.from)) n (omega (arith, c.self.invariant)) c.copy_within.ensures.after few ∙ ap (λ l. l ++ take n piece) c.self.view_is;
      loses = c.in_ok-count.ensures.bytes;
    }

pub returns-clause-fits : goal.returns-clause-fits
returns-clause-fits g c =
    let i = c.self.inside in
    let n = c.in_ok-count.count in
    let piece = c.read.new.piece in
    let few : n ≤ length piece = omega (arith, c.in_ok-count.ensures.bound, c.read.auto.piece) in
    let moved = part_filled i.bytes c.copy_within.new.self piece i.from i.to (4096 - (i.to - i.from)) n (omega (arith, c.self.invariant)) c.copy_within.ensures.after few in
    omega (arith, ap length moved, length-append (part i.bytes i.from i.to) (take n piece), length-part i.bytes i.from i.to (omega (arith, c.self.invariant)), length-take-le n piece few, c.in_ok-count.ensures.bound)
