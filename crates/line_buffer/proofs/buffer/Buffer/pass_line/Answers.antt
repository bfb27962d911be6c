use Rattle.std.proofs.Common.{◌≡◌, ◌+◌, arith, length, take, length-take-le, ◌∙◌}
use Rattle.line_buffer.specs.Feeds.{EndsWithin, GoesBeyond}
use Rattle.line_buffer.proofs.Held.{fed_inside}
use Rattle.line_buffer.proofs.Reading.{IsPlain, passed_more, plain_fed, plain_fed_beyond, plain_more}
use Rattle.line_buffer.proofs.buffer.Buffer.pass_line.Goals as goal

pub overflow_add-count : goal.overflow_add-count
overflow_add-count g c =
    let inside = fed_inside (take c.in-Ok.read c.read.new.piece) c.in-Some.n c.in-Some.ensures in
    let long : length (take c.in-Ok.read c.read.new.piece) ≡ c.in-Ok.read = length-take-le c.in-Ok.read c.read.new.piece (omega (arith, c.in-Ok.ensures.bound, c.read.auto.piece)) in
    omega (arith, c.requires.small, c.loop-count-test.true, inside, long, c.in-Ok.ensures.bound)

pub returns-then-count-n-clause-reads : goal.returns-then-count-n-clause-reads
returns-then-count-n-clause-reads g c =
    let i = c.loop-count.invariant in
    let least = length c.args.self.now in
    let piece = take c.in-Ok.read c.read.new.piece in
    let long : length piece ≡ c.in-Ok.read = length-take-le c.in-Ok.read c.read.new.piece (omega (arith, c.in-Ok.ensures.bound, c.read.auto.piece)) in
    passed_more g.S.Source.left i.reads c.loop-count-test.true (EndsWithin least c.args.room) piece c.read.new.self c.in-Ok.ensures.bytes (omega (arith, long, c.in-Ok.ensures.bound))
    (λ gone plain. plain_fed gone piece c.loop-count.count c.in-Some.n least c.args.room plain c.in-Some.ensures i.far c.if-count-n.true)

pub returns-else-count-n-clause-reads : goal.returns-else-count-n-clause-reads
returns-else-count-n-clause-reads g c =
    let i = c.loop-count.invariant in
    let piece = take c.in-Ok.read c.read.new.piece in
    let long : length piece ≡ c.in-Ok.read = length-take-le c.in-Ok.read c.read.new.piece (omega (arith, c.in-Ok.ensures.bound, c.read.auto.piece)) in
    passed_more g.S.Source.left i.reads c.loop-count-test.true (GoesBeyond c.args.room) piece c.read.new.self c.in-Ok.ensures.bytes (omega (arith, long, c.in-Ok.ensures.bound))
    (λ gone plain. plain_fed_beyond gone piece c.loop-count.count c.in-Some.n c.args.room plain c.in-Some.ensures (omega (arith, c.if-count-n.false)))

pub loop-count-preserved : goal.loop-count-preserved
loop-count-preserved g c =
    let i = c.loop-count.invariant in
    let piece = take c.in-Ok.read c.read.new.piece in
    let long : length piece ≡ c.in-Ok.read = length-take-le c.in-Ok.read c.read.new.piece (omega (arith, c.in-Ok.ensures.bound, c.read.auto.piece)) in
    record {
      later = omega (arith, i.later, c.read.ensures.later);
      unfaulted = c.in-Ok.ensures.unfaulted ∙ i.unfaulted;
      reads = passed_more g.S.Source.left i.reads c.loop-count-test.true (IsPlain (c.loop-count.count + c.in-Ok.read)) piece c.read.new.self c.in-Ok.ensures.bytes (omega (arith, long, c.in-Ok.ensures.bound))
          (λ gone is. plain_more gone piece c.loop-count.count c.in-Ok.read is c.in_default.ensures long);
      far = omega (arith, i.far);
    }
