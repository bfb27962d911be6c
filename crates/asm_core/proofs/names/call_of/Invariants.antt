use Rattle.std.proofs.Common.{◌≡◌, drop}
use Rattle.asm_core.specs.Cutting.{pieces}
use Rattle.asm_core.specs.Names.{call_of, meaning}
use Rattle.asm_core.proofs.Naming.{numbered}
use Rattle.asm_core.proofs.names.call_of.Given as goal

abbrev pub invariant-loop-number : goal.invariant-loop-number
invariant-loop-number l = meaning (numbered (pieces 32 l.names) (drop l.number-index l.number-items)) l.word ≡ call_of l.word
