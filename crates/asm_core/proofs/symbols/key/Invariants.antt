use Rattle.std.proofs.Common.{◌≡◌, ◌<◌, ◌^◌, ◌-◌, length, drop}
use Rattle.asm_core.specs.Passes.{key}
use Rattle.asm_core.proofs.symbols.key.Given as goal

abbrev pub invariant-loop-place : goal.invariant-loop-place
invariant-loop-place l = record {
  value : l.number ≡ key (drop l.place l.symbol);
  below : l.number < 257 ^ (length l.symbol - l.place);
}
