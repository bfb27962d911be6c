use Rattle.std.proofs.Common.{◌≡◌, take}
use Rattle.word36.specs.Octal.{octal_value, AreOctalDigits}
use Rattle.word36.proofs.octal.read_octal.Given as goal

abbrev pub invariant-loop-digit : goal.invariant-loop-digit
invariant-loop-digit l = record {
  digits : AreOctalDigits (take l.digit-index l.text);
  value : l.n ≡ octal_value (take l.digit-index l.text);
}
