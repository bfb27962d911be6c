use Rattle.std.proofs.Common.{◌≡◌, length, take, take_all, ◌∙◌, subst, ap, arith, ◌≤◌}
use Rattle.std.proofs.lemmas.Bool.Decides.{nat_tests}
use Rattle.word36.specs.Octal.{octal_value, AreOctalDigits}
use Rattle.word36.proofs.OctalLemmas.{digit_at, digits-take, octal_value-take, octal_value-take-word}
use Rattle.word36.proofs.octal.read_octal.Goals as goal
use Rattle.word36.proofs.octal.read_octal.Goals.{then-digit-lt48-via-then-digit-lt48, then-digit-lt48-via-else-digit-lt48+then-digit-gt55}

pub returns-then-digit-lt48 : goal.returns-then-digit-lt48
returns-then-digit-lt48 c h =
    let digit = digit_at c.args.text.now c.loop-digit.digit-index h.2 c.loop-digit-test.true in
    elim c.then-digit-lt48.branch [
      | then-digit-lt48-via-then-digit-lt48 w ↦ absurd (omega (arith, digit.0))
      | then-digit-lt48-via-else-digit-lt48+then-digit-gt55 w ↦ absurd (omega (arith, digit.1))
    ]

pub overflow_mul-n : goal.overflow_mul-n
overflow_mul-n c =
    let small = octal_value-take-word c.args.text.now c.loop-digit.digit-index c.loop-digit.invariant.digits (omega arith) (omega (arith, c.requires)) in
    let value : c.loop-digit.n ≡ octal_value (take c.loop-digit.digit-index c.args.text.now) = c.loop-digit.invariant.value in
    omega arith

pub overflow_add-n : goal.overflow_add-n
overflow_add-n c =
    let small = octal_value-take-word c.args.text.now c.loop-digit.digit-index c.loop-digit.invariant.digits (omega arith) (omega (arith, c.requires)) in
    let value : c.loop-digit.n ≡ octal_value (take c.loop-digit.digit-index c.args.text.now) = c.loop-digit.invariant.value in
    omega arith

pub loop-digit-preserved : goal.loop-digit-preserved
loop-digit-preserved c = record {
  digits = digits-take c.args.text.now c.loop-digit.digit-index c.loop-digit-test.true c.loop-digit.invariant.digits c.if-digit-lt48.false (omega arith);
  value =
      let step = octal_value-take c.args.text.now c.loop-digit.digit-index c.loop-digit-test.true in
      let value : c.loop-digit.n ≡ octal_value (take c.loop-digit.digit-index c.args.text.now) = c.loop-digit.invariant.value in
      omega arith;
}

pub returns : goal.returns
returns c =
    let all : take c.loop-digit.digit-index c.args.text.now ≡ c.args.text.now = take_all c.loop-digit.digit-index c.args.text.now c.loop-digit-test.false in
    let digits : AreOctalDigits c.args.text.now = subst AreOctalDigits all c.loop-digit.invariant.digits in
    let value : c.loop-digit.n ≡ octal_value c.args.text.now = c.loop-digit.invariant.value ∙ ap octal_value all in
    let some : 1 ≤ length c.args.text.now = grind (arith, nat_tests) in
    ((some, omega arith, digits), value)
