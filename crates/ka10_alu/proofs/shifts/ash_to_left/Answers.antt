use Rattle.std.proofs.Common.{◌+◌, ◌-◌, ◌^◌, ◌<◌, ◌≤◌, arith}
use Rattle.std.proofs.Math.Pow.{pow_mono}
use Rattle.word36.specs.Shifts.{ash_left}
use Rattle.ka10_alu.proofs.Shifting.{sign_and_rest, sign_below}
use Rattle.ka10_alu.proofs.shifts.ash_to_left.Goals as goal

pub overflow_add-result : goal.overflow_add-result
overflow_add-result c =
    let below : c.args.d - c.low.result + c.low_times.result < 2 ^ (c.args.under + 1) = rw c.low.ensures.value (sign_below c.args.under c.args.d c.low_times.result c.requires.d c.low_times.ensures.below) in
    let most : 2 ^ (c.args.under + 1) ≤ 2 ^ 71 = pow_mono {i = c.args.under + 1} {j = 71} (omega arith) in
    omega arith

pub returns-clause-value : goal.returns-clause-value
unfolding ash_left
returns-clause-value c = rw (c.low.ensures.value, c.low_times.ensures.value) (sign_and_rest c.args.under c.args.d _)

pub returns-clause-below : goal.returns-clause-below
returns-clause-below c = rw c.low.ensures.value (sign_below c.args.under c.args.d c.low_times.result c.requires.d c.low_times.ensures.below)
