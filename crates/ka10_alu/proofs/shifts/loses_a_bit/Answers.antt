use Rattle.std.proofs.Common.{arith}
use Rattle.ka10_alu.proofs.Shifting.{overflows_negative, overflows_positive}
use Rattle.ka10_alu.proofs.shifts.loses_a_bit.Goals as goal

pub returns-then-d-limit : goal.returns-then-d-limit
returns-then-d-limit c = rw (c.divided.ensures.value, c.power.ensures, c.power-limit.ensures) (overflows_negative c.args.under c.args.d c.args.n (omega arith))

pub returns-else-d-limit : goal.returns-else-d-limit
returns-else-d-limit c = rw (c.divided-else-d-limit.ensures.value, c.power-limit.ensures) (overflows_positive c.args.under c.args.d c.args.n (omega arith))
