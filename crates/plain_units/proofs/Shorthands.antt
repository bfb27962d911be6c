-- Shorthands of proofs: parts of definitions that these say in place.
use Rattle.std.specs.Prelude.{ℕ}
use Rattle.ka10_table.specs.declared.families.Family.{Family}
use Rattle.ka10_table.specs.declared.families.OpMode.{OpMode}
use Rattle.plain_units.specs.Deeds.{Deed, Operands, acts, by_mode}
use Rattle.word36.specs.Boolean.{boolean_of}

-- what an instruction of a family does
abbrev pub done_by : Family → OpMode → ℕ → ℕ → Operands → Deed
done_by family mode code op o = (acts family mode code).1 op o

-- 400 to 477: SETZ to SETO
abbrev pub combines : OpMode → ℕ → Operands → Deed
combines mode op o = by_mode mode o.regs o.ac o.e (boolean_of op o.a o.m)
