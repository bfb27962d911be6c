use Rattle.std.proofs.Common.{◌≡◌, ◌^◌, true, false, refl, arith}
use Rattle.std.specs.Prelude.{nat_le}
use Rattle.std.proofs.lemmas.Bool.Decides.{nat_tests}
use Rattle.word36.specs.Shifts.{ash_right}
use Rattle.ka10_alu.proofs.shifts.ash_to_right.Goals as goal

pub returns-then-d-power-clause-value : goal.returns-then-d-power-clause-value
unfolding ash_right
returns-then-d-power-clause-value c =
    let sign : nat_le (2 ^ c.args.under) c.args.d ≡ true = grind (arith, nat_tests) in
    rw (sign, c.divided.ensures.value, c.power-ones.ensures) refl

pub returns-else-d-power-clause-value : goal.returns-else-d-power-clause-value
unfolding ash_right
returns-else-d-power-clause-value c =
    let sign : nat_le (2 ^ c.args.under) c.args.d ≡ false = grind (arith, nat_tests) in
    rw sign c.divided-else-d-power.ensures.value
