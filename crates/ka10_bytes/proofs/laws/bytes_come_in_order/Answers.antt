use Rattle.ka10_bytes.proofs.Stepping.{in_order}
use Rattle.ka10_bytes.proofs.laws.bytes_come_in_order.Goals as goal

pub returns : goal.returns
returns c k = in_order c.args.p c.args.w k
