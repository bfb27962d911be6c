-- What one unit of a fork comes to (PDP-10 handbook, "Instruction format").
use Rattle.std.specs.declared.cmp.Ordering.{Ordering}
use Rattle.machine_names.specs.declared.names.ForkName.{ForkName}
use Rattle.plain_units.specs.declared.registers.Regs.{Regs}
use Rattle.plain_pages.specs.PlainPages.{PlainPages}
use Rattle.plain_units.specs.Steps.{Planned, run, begun, plainly}
use Rattle.plain_units.specs.Instructions.{instruction}

-- what a unit comes to, on these pages and registers of a fork
abbrev pub unit_on : {K : Type 0} {file_cmp : K → K → Ordering} → ForkName → PlainPages file_cmp → Regs → Planned file_cmp ⊥
unit_on f p regs = run (plainly f) f (instruction regs) (begun p regs.ac)
