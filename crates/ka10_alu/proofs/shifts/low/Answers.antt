use Rattle.std.proofs.lemmas.Nat.{and_mask}
use Rattle.ka10_alu.proofs.shifts.low.Goals as goal

pub returns-clause-value : goal.returns-clause-value
returns-clause-value c = rw c.power.ensures (and_mask c.args.n c.args.width)
