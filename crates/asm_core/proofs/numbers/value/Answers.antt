use Rattle.std.proofs.Common.{sym, lit<}
use Rattle.asm_core.proofs.Digits.{symbol_short}
use Rattle.asm_core.proofs.numbers.value.Goals as goal

pub new-requires : goal.new-requires
new-requires c = (lit< tt, symbol_short c.args.text.now (sym c.if-is_symbol.ensures.value))
