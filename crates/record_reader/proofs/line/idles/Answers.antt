use Rattle.std.proofs.Common.{◌≡◌, arith}
use Rattle.record_reader.proofs.Digits.{same_number}
use Rattle.record_reader.proofs.OneLine.{i_line}
use Rattle.record_reader.proofs.line.idles.Goals.{then-count-lt1-via-then-count-lt1, then-count-lt1-via-else-count-lt1+then-count-gt-MOST_TURNS}
use Rattle.record_reader.proofs.line.idles.Goals as goal

pub returns-then-count-lt1 : goal.returns-then-count-lt1
returns-then-count-lt1 c l h =
    let i = i_line c.args.rest.now l h in
    let same : c.in_ok-count.count ≡ i.0 = same_number c.args.rest.now c.in_ok-count.count i.0 c.in_ok-count.ensures (omega (arith, i.3), i.1) in
    elim c.then-count-lt1.branch [
      | then-count-lt1-via-then-count-lt1 w ↦ absurd (omega (arith, same, i.2, w.if-count-lt1.true))
      | then-count-lt1-via-else-count-lt1+then-count-gt-MOST_TURNS w ↦ absurd (omega (arith, same, i.3, w.if-count-gt-MOST_TURNS.true))
    ]
