use Rattle.std.proofs.Common.{arith}
use Rattle.word36.specs.Shifts.{rotated_left}
use Rattle.ka10_alu.proofs.Shifting.{rotated_parts, rotated_below}
use Rattle.ka10_alu.proofs.shifts.rotate_left.Goals as goal

pub returns-clause-value : goal.returns-clause-value
unfolding rotated_left
returns-clause-value c = rotated_parts c.args.d c.args.k c.args.width c.low_times.result c.requires.d (omega arith) c.low_times.ensures.value

pub returns-clause-below : goal.returns-clause-below
returns-clause-below c = rotated_below c.args.d c.args.k c.args.width c.low_times.result c.requires.d c.low_times.ensures.below
