use Rattle.std.proofs.Common.{◌≡◌, sym, ◌∙◌, ap, subst, arith, take, length}
use Rattle.script_lang.proofs.Judging.{fed_line}
use Rattle.script_texts.specs.RecordLines.{said}
use Rattle.record_reader.specs.OneLine.{told}
use Rattle.record_reader.specs.Reader.{Advances, GoesOnBehind, pending}
use Rattle.record_reader.proofs.Behind.{bad_front, gives_line, long_front}
use Rattle.record_reader.proofs.Grown.{advances, goes_behind}
use Rattle.record_reader.proofs.OneLine.{one_said, short_line}
use Rattle.record_reader.proofs.reader.RecordReader.judge.Goals as goal

pub returns-then-count-room-clause-long : goal.returns-then-count-room-clause-long
returns-then-count-room-clause-long c h lines has =
    long_front lines (pending c.args.self.now) c.args.count c.requires (omega (arith, c.room.ensures.whole, has.bytes)) (omega (arith, c.room.ensures.whole, has.bytes, c.if-count-room.true))

pub returns-then-count-gt-MOST_LINE-clause-bad : goal.returns-then-count-gt-MOST_LINE-clause-bad
returns-then-count-gt-MOST_LINE-clause-bad c h lines has =
    bad_front lines (pending c.args.self.now) c.args.count c.requires (omega (arith, c.room.ensures.whole, has.bytes, c.if-count-room.false))
    (λ x is goes. omega (arith, short_line x goes.fits, ap length is, c.requires.long, c.if-count-gt-MOST_LINE.true))

pub returns-else-goes_on-clause-bad : goal.returns-else-goes_on-clause-bad
returns-else-goes_on-clause-bad c h lines has =
    let r = c.args.self.now in
    let text : take c.args.count c.bytes.result.now ≡ c.requires.line = ap (λ x. take c.args.count x) c.bytes.ensures ∙ fed_line (pending r) c.args.count c.requires in
    bad_front lines (pending r) c.args.count c.requires (omega (arith, c.room.ensures.whole, has.bytes, c.if-count-room.false))
    (λ x is goes.
    let same : told c.in-Some.said ≡ x = one_said (told c.in-Some.said) x c.in-Some.ensures.1 goes.fits (sym c.in-Some.ensures.0 ∙ (text ∙ is)) in
    let may : GoesOnBehind r (told c.in-Some.said) = subst (GoesOnBehind r) (sym same) (goes_behind r lines x has goes) in
    cc (c.if-goes_on.false, c.goes_on.ensures.1 may))

pub returns-then-goes_on-clause-gives : goal.returns-then-goes_on-clause-gives
returns-then-goes_on-clause-gives c x h =
    let r = c.args.self.now in
    let same : c.in-Some.said ≡ x = cc h in
    let text : take c.args.count c.bytes.result.now ≡ c.requires.line = ap (λ x. take c.args.count x) c.bytes.ensures ∙ fed_line (pending r) c.args.count c.requires in
    gives_line r c.give.new.self c.args.count (told x) c.requires (sym text ∙ (c.in-Some.ensures.0 ∙ ap (λ y. said (told y)) same)) c.give.ensures.pending

pub returns-then-goes_on-clause-advances : goal.returns-then-goes_on-clause-advances
returns-then-goes_on-clause-advances c x h =
    let r = c.args.self.now in
    let same : c.in-Some.said ≡ x = cc h in
    let text : take c.args.count c.bytes.result.now ≡ c.requires.line = ap (λ x. take c.args.count x) c.bytes.ensures ∙ fed_line (pending r) c.args.count c.requires in
    let long : length c.requires.line ≡ length (said (told c.in-Some.said)) = ap length (sym text ∙ c.in-Some.ensures.0) in
    subst (λ y. Advances r c.give.new.self (told y)) same
    (advances r c.give.new.self c.in-Some.said c.in-Some.ensures.1 (c.goes_on.ensures.0 c.if-goes_on.true) (omega (arith, c.give.ensures.bytes, c.requires.long, long)) c.give.ensures.lines c.give.ensures.turns c.give.ensures.last (omega (arith, c.give.ensures.bytes, c.room.ensures.whole, c.if-count-room.false)))
