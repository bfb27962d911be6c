use Rattle.std.proofs.Common.{ap, ℕ, arith}
use Rattle.machine_names.specs.declared.names.Tty.{Tty}
use Rattle.machine_names.specs.declared.names.ForkName.{ForkName}
use Rattle.unit_runs.proofs.runs.come_out.Goals as goal

abbrev top : ForkName
top = record { tty = record { 0 = 3 }; serial = 7 }

pub add_top-requires-clause-absent : goal.add_top-requires-clause-absent
add_top-requires-clause-absent c = c.in_ok-pages.ensures.lives top

pub run-outcome-requires-clause-serves : goal.run-outcome-requires-clause-serves
run-outcome-requires-clause-serves c = record { lives = c.add_top.ensures.lives; terminal = omega arith }

pub run-outcome-requires-clause-serial : goal.run-outcome-requires-clause-serial
run-outcome-requires-clause-serial c = omega (arith, ap (λ (serial : Tty → ℕ). serial (record { 0 = 3 })) c.add_top.ensures.serials, c.in_ok-pages.ensures.first (record { 0 = 3 }))
