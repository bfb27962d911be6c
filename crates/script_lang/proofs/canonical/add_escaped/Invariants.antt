use Rattle.std.proofs.Common.{take}
use Rattle.std.specs.List.{flat_map}
use Rattle.script_texts.specs.Texts.{escaped}
use Rattle.script_lang.specs.Canonical.{Adds}
use Rattle.script_lang.proofs.canonical.add_escaped.Given as goal

abbrev pub invariant-loop-c : goal.invariant-loop-c
invariant-loop-c l = Adds l.fn.room l.room l.fn.at l.at (flat_map escaped (take l.c-index l.text))
