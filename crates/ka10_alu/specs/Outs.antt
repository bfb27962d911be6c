-- An outcome as the code has it.
use Rattle.word36.specs.Arithmetic.{Outcome}
use Rattle.ka10_alu.specs.declared.out.Out.{Out}

-- the same word, low word and flags
abbrev pub out_of : Outcome → Out
out_of o = record { word = o.word; low = o.low; flags = o.flags }
