-- Which rows of the instruction table have a name.
use Rattle.std.specs.Prelude.{ℕ, Bool, true, false, Option, None, Some, ◌==◌}
use Rattle.ka10_table.specs.declared.families.Family.{Family}
use Rattle.ka10_table.specs.declared.families.Family.TheVariants.{Illegal, Local}

-- all but the illegal ones and those that a program handles itself
abbrev pub has_name : Family → Bool
has_name Illegal = false
has_name Local = false
has_name f = true

-- an answer is this opcode
abbrev pub is_opcode : Option ℕ → ℕ → Bool
is_opcode None op = false
is_opcode (Some n) op = n == op
