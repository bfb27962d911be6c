use Rattle.std.proofs.Common.{◌≡◌, ◌≤◌, length, take}
use Rattle.script_texts.specs.Script.{Types}
use Rattle.script_lang.proofs.Sequences.{Reaches}
use Rattle.script_lang.proofs.typed.typed.Given as goal

abbrev pub invariant-loop-rest : goal.invariant-loop-rest
invariant-loop-rest l = record {
  few : l.count ≤ 100;
  room : length l.characters ≡ 100;
  reaches : Reaches Types l.text (take l.count l.characters) l.rest;
}

abbrev pub decreases-loop-rest : goal.decreases-loop-rest
decreases-loop-rest l = length l.rest
