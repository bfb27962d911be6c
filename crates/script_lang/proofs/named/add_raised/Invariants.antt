use Rattle.std.proofs.Common.{◌≡◌, ◌++◌, take}
use Rattle.machine_names.specs.FileNames.{raised}
use Rattle.script_lang.proofs.named.add_raised.Given as goal

abbrev pub invariant-loop-c : goal.invariant-loop-c
invariant-loop-c l = l.full.items ≡ l.initial.full.items ++ raised (take l.c-index l.text)
