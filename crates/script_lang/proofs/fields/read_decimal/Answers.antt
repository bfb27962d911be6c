use Rattle.std.proofs.Common.{◌≡◌, take, arith}
use Rattle.std.proofs.lemmas.List.Elements.{All-more}
use Rattle.script_texts.specs.Script.{IsDigit, decimal_value}
use Rattle.script_lang.proofs.Numbers.{decimal_value-room, decimal_value-take}
use Rattle.script_lang.proofs.fields.read_decimal.Goals as goal

pub overflow_mul-n : goal.overflow_mul-n
overflow_mul-n c =
    let small = decimal_value-room c.args.text.now c.loop-digit.digit-index c.loop-digit.invariant.digits c.loop-digit-test.true (omega arith) in
    let value : c.loop-digit.n ≡ decimal_value (take c.loop-digit.digit-index c.args.text.now) = c.loop-digit.invariant.value in
    omega arith

pub overflow_add-n : goal.overflow_add-n
overflow_add-n c =
    let small = decimal_value-room c.args.text.now c.loop-digit.digit-index c.loop-digit.invariant.digits c.loop-digit-test.true (omega arith) in
    let value : c.loop-digit.n ≡ decimal_value (take c.loop-digit.digit-index c.args.text.now) = c.loop-digit.invariant.value in
    omega arith

pub loop-digit-preserved : goal.loop-digit-preserved
loop-digit-preserved c = record {
  digits = All-more IsDigit c.args.text.now c.loop-digit.digit-index 0 c.loop-digit-test.true c.loop-digit.invariant.digits (omega arith, omega arith);
  value =
      let step = decimal_value-take c.args.text.now c.loop-digit.digit-index c.loop-digit-test.true in
      let value : c.loop-digit.n ≡ decimal_value (take c.loop-digit.digit-index c.args.text.now) = c.loop-digit.invariant.value in
      omega arith;
}
