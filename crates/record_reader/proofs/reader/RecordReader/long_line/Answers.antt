use Rattle.std.proofs.Common.{◌≡◌, ◌⊎◌, inl, inr, ◌+◌, ◌<◌, length, subst, sym, arith, refl}
use Rattle.script_texts.specs.RecordLines.{said_all}
use Rattle.record_reader.specs.Verdicts.{IsBadBehind, most_record_bytes}
use Rattle.record_reader.specs.Verdicts.{IsLongBehind}
use Rattle.record_reader.specs.Reader.{pending}
use Rattle.line_buffer.proofs.Reading.{all_read, all_spent}
use Rattle.record_reader.proofs.Behind.{ends_bad, goes_long, stops_bad}
use Rattle.record_reader.proofs.OneLine.{short_line}
use Rattle.record_reader.proofs.reader.RecordReader.long_line.Goals as goal

pub returns-in-Feed-clause-bad : goal.returns-in-Feed-clause-bad
returns-in-Feed-clause-bad g c h lines has =
    let held = pending c.args.self.now in
    let whole : c.room.result + length (said_all lines) ≡ most_record_bytes = omega (arith, c.room.ensures.whole, has.bytes) in
    let over : (256 < length held) ⊎ (c.room.result < length held) = subst (λ n. (256 < length held) ⊎ (n < length held)) (sym c.room.ensures.value) c.requires.over in
    all_read g.S.Source.left c.in-Feed.ensures.reads (IsBadBehind lines) (λ xs told ends. ends_bad lines (length held) c.room.result xs told (λ l goes. short_line l goes.fits) whole over ends)

pub returns-in-Last-clause-bad : goal.returns-in-Last-clause-bad
returns-in-Last-clause-bad g c h lines has =
    let held = pending c.args.self.now in
    let whole : c.room.result + length (said_all lines) ≡ most_record_bytes = omega (arith, c.room.ensures.whole, has.bytes) in
    let over : (256 < length held) ⊎ (c.room.result < length held) = subst (λ n. (256 < length held) ⊎ (n < length held)) (sym c.room.ensures.value) c.requires.over in
    let some : 0 < length held = elim over [ inl h ↦ omega arith | inr h ↦ omega arith ] in
    all_spent g.S.Source.left c.in-Last.ensures.reads (IsBadBehind lines) (c.in-Last.ensures.spends refl) (λ xs stops. stops_bad lines (length held) c.room.result xs whole some stops)

pub returns-in-Over-clause-long : goal.returns-in-Over-clause-long
returns-in-Over-clause-long g c h lines has =
    let whole : c.room.result + length (said_all lines) ≡ most_record_bytes = omega (arith, c.room.ensures.whole, has.bytes) in
    all_read g.S.Source.left c.in-Over.ensures.reads (IsLongBehind lines) (λ xs told goes. goes_long lines c.room.result xs told whole goes)
