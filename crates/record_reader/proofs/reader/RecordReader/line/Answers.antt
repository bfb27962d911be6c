use Rattle.std.proofs.Common.{◌≡◌, [], ◌++◌, sym, subst}
use Rattle.line_buffer.specs.Feeds.{StopsWithin}
use Rattle.line_buffer.proofs.Reading.{all_behind, all_read, reads_then, reads_weaker}
use Rattle.record_reader.specs.Verdicts.{IsBadBehind}
use Rattle.record_reader.specs.OneLine.{told}
use Rattle.record_reader.specs.Verdicts.{IsLongBehind}
use Rattle.record_reader.specs.Reader.{IsReadBy, room_left}
use Rattle.record_reader.proofs.Behind.{takes_front}
use Rattle.record_reader.proofs.reader.RecordReader.line.Goals as goal

pub returns-in-Line-clause-takes : goal.returns-in-Line-clause-takes
returns-in-Line-clause-takes g c x h = takes_front g.S.Source.left c.judge.new.self (told x) c.in-Line.ensures.reads (c.judge.ensures.gives x h)

pub returns-in-Line-clause-bad : goal.returns-in-Line-clause-bad
returns-in-Line-clause-bad g c h lines has =
    let bad = c.judge.ensures.bad h lines (record { bytes = has.bytes; lines = has.lines; turns = has.turns; last = has.last; right = has.right; short = has.short }) in
    all_read g.S.Source.left c.in-Line.ensures.reads (IsBadBehind lines) (λ xs behind same. subst (λ b. IsBadBehind lines (b ++ behind)) (sym same) (bad behind))

pub returns-in-Line-clause-long : goal.returns-in-Line-clause-long
returns-in-Line-clause-long g c h lines has =
    let long = c.judge.ensures.long h lines (record { bytes = has.bytes; lines = has.lines; turns = has.turns; last = has.last; right = has.right; short = has.short }) in
    all_read g.S.Source.left c.in-Line.ensures.reads (IsLongBehind lines) (λ xs behind same. subst (λ b. IsLongBehind lines (b ++ behind)) (sym same) (long behind))

pub returns-in-Over-clause-reads : goal.returns-in-Over-clause-reads
returns-in-Over-clause-reads g c =
    let room = room_left c.args.self.now in
    let found =
    reads_weaker g.S.Source.left c.in-Over.ensures.reads (StopsWithin 0 room) (λ xs. xs ≡ c.find.new.self) (λ xs stops. subst (λ n. StopsWithin 0 n xs) c.room-room.ensures.value stops) (λ xs same. same) in
    reads_then g.S.Source.left found (IsReadBy room c.long_line.result) [] c.find.new.self c.long_line.ensures.reads found.is (λ xs needs. needs) (λ xs by. by)

pub returns-in-Over-clause-bad : goal.returns-in-Over-clause-bad
returns-in-Over-clause-bad g c h lines has =
    all_behind g.S.Source.left (IsBadBehind lines) (IsBadBehind lines) c.in-Over.ensures.reads (λ xs bad. bad)
    (c.long_line.ensures.bad h lines (record { bytes = has.bytes; lines = has.lines; turns = has.turns; last = has.last; right = has.right; short = has.short }))

pub returns-in-Over-clause-long : goal.returns-in-Over-clause-long
returns-in-Over-clause-long g c h lines has =
    all_behind g.S.Source.left (IsLongBehind lines) (IsLongBehind lines) c.in-Over.ensures.reads (λ xs long. long)
    (c.long_line.ensures.long h lines (record { bytes = has.bytes; lines = has.lines; turns = has.turns; last = has.last; right = has.right; short = has.short }))
