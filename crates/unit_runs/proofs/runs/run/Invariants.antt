use Rattle.std.proofs.Common.{◌+◌, ◌*◌, ◌<◌, ◌≤◌, ◌^◌}
use Rattle.machine_names.specs.declared.names.ForkName.{ForkName}
use Rattle.ka10_unit.specs.Gathers.{Serves}
use Rattle.unit_runs.proofs.runs.run.Given as goal

abbrev top : ForkName
top = record { tty = record { 0 = 3 }; serial = 7 }

abbrev pub invariant-loop-unit : goal.invariant-loop-unit
invariant-loop-unit g l = record {
  serves : Serves g.P.Pages.means l.pages top;
  serial : g.P.Pages.means.serial l.pages top.tty ≤ 1 + 128 * l.unit;
  pc : l.regs.pc < 2 ^ 18;
}
