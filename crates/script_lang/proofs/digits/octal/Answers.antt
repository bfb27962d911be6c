use Rattle.std.proofs.Common.{arith, ap, length, lit<}
use Rattle.script_texts.specs.Texts.{trimmed}
use Rattle.script_lang.proofs.CanonicalDigits.{octal_short}
use Rattle.script_lang.proofs.digits.octal.Goals as goal

pub new-requires : goal.new-requires
new-requires c =
    (lit< tt, omega (arith, ap length c.trim.ensures, ap (λ l. length (trimmed l)) c.fill_octal.ensures, octal_short c.args.n))
