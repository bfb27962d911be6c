use Rattle.std.proofs.Common.{arith}
use Rattle.ka10_unit.proofs.Carried.{serves_still}
use Rattle.unit_runs.proofs.runs.run.Goals as goal

pub loop-unit-preserved : goal.loop-unit-preserved
loop-unit-preserved g c = record {
  serves = serves_still g.P.Pages.means _ c.loop-unit.pages _ c.slow_unit-outcome.ensures.grows.lives c.loop-unit.invariant.serves;
  serial = omega (arith, c.slow_unit-outcome.ensures.grows.serial, c.loop-unit.invariant.serial);
  pc = c.slow_unit-outcome.ensures.pc;
}
