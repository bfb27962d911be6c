-- Who asks what of which forks.
use Rattle.std.specs.Prelude.{◌≡◌, true}
use Rattle.machine_names.specs.declared.names.ForkName.{ForkName}
use Rattle.plain_units.specs.declared.registers.Regs.{Regs}
use Rattle.plain_model.specs.Forks.{ForkMap}
use Rattle.plain_model.specs.Inferiors.{is_inferior}
use Rattle.plain_model.specs.Trees.{PlainTree}
use Rattle.plain_model.specs.Calls.{Asked}

-- a call of a fork, with these registers, among these forks
abbrev pub asked : ForkName → Regs → PlainTree → Asked
asked who regs tree = record { who = who; regs = regs; tree = tree }

-- a fork is an inferior of the caller
abbrev pub IsBelow : ForkMap → ForkName → ForkName → Type 0
IsBelow forks who name = is_inferior forks who name ≡ true
