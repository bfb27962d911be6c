use Rattle.std.proofs.Common.{ap, arith, length, subst, ◌∙◌}
use Rattle.script_texts.specs.Script.{HasNoFeed}
use Rattle.line_buffer.specs.Feeds.{StopsWithin}
use Rattle.line_buffer.proofs.Reading.{reads_filled}
use Rattle.line_buffer.proofs.buffer.Buffer.find.Goals as goal

pub loop-n-preserved : goal.loop-n-preserved
loop-n-preserved g c =
    let i = c.loop-n.invariant in
    let plain = subst HasNoFeed c.bytes-held.ensures c.in_default.ensures in
    let needs : StopsWithin 0 c.args.room c.loop-n.self = record { plain = plain; far = omega arith; near = omega (arith, c.if-count-room.false, ap length c.bytes-held.ensures) } in
    record {
      later = omega (arith, i.later, c.fill.ensures.later);
      unfaulted = c.in-Ok.ensures.unfaulted ∙ i.unfaulted;
      reads = reads_filled g.S.Source.left i.reads needs c.fill.new.self c.fill.new.s c.in-Ok.read c.in-Ok.ensures.bytes c.in-Ok.ensures.fits;
    }
