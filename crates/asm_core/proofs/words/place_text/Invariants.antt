use Rattle.std.proofs.Common.{◌≡◌, ◌++◌, ◌+◌, ◌-◌}
use Rattle.asm_core.specs.Places.{packed, placed_from}
use Rattle.asm_core.proofs.words.place_text.Given as goal

abbrev pub invariant-loop-place : goal.invariant-loop-place
invariant-loop-place l = l.program.items ++ placed_from (l.location + l.place) (packed (l.count - l.place) l.left) ≡ l.fn.program.items ++ placed_from l.location (packed l.count l.text)
