use Rattle.word36.specs.Shifts.{logical}
use Rattle.ka10_alu.proofs.shifts.shift_logical.Goals as goal

pub returns-then-is_right-clause-value : goal.returns-then-is_right-clause-value
unfolding logical
returns-then-is_right-clause-value c = rw c.if-is_right.true c.divided.ensures.value

pub returns-else-is_right-clause-value : goal.returns-else-is_right-clause-value
unfolding logical
returns-else-is_right-clause-value c = rw c.if-is_right.false c.low_times.ensures.value
