use Rattle.std.proofs.Common.{◌≡◌, ◌<◌, ◌≤◌, ◌^◌, length, take, drop, All}
use Rattle.script_texts.specs.Script.{WordFields}
use Rattle.script_lang.proofs.Sequences.{Reaches}
use Rattle.script_lang.proofs.rows.row.Given as goal

abbrev pub invariant-loop-rest : goal.invariant-loop-rest
invariant-loop-rest l = record {
  few : l.count ≤ 8;
  room : length l.words ≡ 8;
  small : All (λ w. w < 2 ^ 36) l.words;
  zeros : All (λ w. w ≡ 0) (drop l.count l.words);
  reaches : Reaches WordFields l.text (take l.count l.words) l.rest;
}

abbrev pub decreases-loop-rest : goal.decreases-loop-rest
decreases-loop-rest l = length l.rest
