use Rattle.std.proofs.Common.{take, ◌*◌, ◌+◌, ◌≤◌}
use Rattle.std.specs.List.{flat_map}
use Rattle.script_texts.specs.Texts.{field, octal}
use Rattle.script_lang.specs.Canonical.{Adds}
use Rattle.script_lang.proofs.canonical.add_row.Given as goal

abbrev pub invariant-loop-word : goal.invariant-loop-word
invariant-loop-word l = record {
  within : l.at ≤ l.fn.at + 13 * l.word-index;
  adds : Adds l.fn.room l.room l.fn.at l.at (flat_map (λ w. field (octal w)) (take l.word-index l.words));
}
