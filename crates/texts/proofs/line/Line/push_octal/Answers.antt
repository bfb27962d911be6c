use Rattle.std.proofs.Common.{◌≡◌, length, arith, ap, ◌∙◌}
use Rattle.word36.proofs.OctalLemmas.{length-octal_padded}
use Rattle.texts.proofs.line.Line.push_octal.Goals as goal

pub push-requires : goal.push-requires
push-requires c =
    let digits : length c.as_slice.result.now ≡ c.args.width = ap length (c.as_slice.ensures ∙ c.octal_padded-digits.ensures) ∙ length-octal_padded c.args.width c.args.n in
    omega (arith, digits, c.requires.room)

pub returns-clause-long : goal.returns-clause-long
returns-clause-long c =
    let digits : length c.as_slice.result.now ≡ c.args.width = ap length (c.as_slice.ensures ∙ c.octal_padded-digits.ensures) ∙ length-octal_padded c.args.width c.args.n in
    omega (arith, digits, c.push.ensures.long)
