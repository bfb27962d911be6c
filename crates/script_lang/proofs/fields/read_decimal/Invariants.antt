use Rattle.std.proofs.Common.{◌≡◌, take, All}
use Rattle.script_texts.specs.Script.{IsDigit, decimal_value}
use Rattle.script_lang.proofs.fields.read_decimal.Given as goal

abbrev pub invariant-loop-digit : goal.invariant-loop-digit
invariant-loop-digit l = record {
  digits : All IsDigit (take l.digit-index l.text);
  value : l.n ≡ decimal_value (take l.digit-index l.text);
}
