use Rattle.std.proofs.Common.{Bool, cond, sym, ap}
use Rattle.plain_model.specs.Unit.{instruction_unit, interrupted_unit}
use Rattle.psi_system.proofs.Wanting.{off}
use Rattle.psi_system.proofs.laws.nothing_is_looked_at_with_interrupts_off.Goals as goal

pub returns : goal.returns
returns c s f is_off = ap (λ (b : Bool). cond b (interrupted_unit s f) (instruction_unit s f)) (sym (off f.body.psi is_off))
