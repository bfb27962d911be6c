use Rattle.std.proofs.Common.{refl}
use Rattle.asm_core.specs.Passes.{kept}
use Rattle.asm_core.proofs.Wording.{named_half, number_half, unnamed_half}
use Rattle.asm_core.proofs.words.half.Goals as goal

pub returns-in-Number : goal.returns-in-Number
returns-in-Number c = number_half (kept c.args.symbols.now) c.args.value.now c.in-Number.half c.in-Number.is

pub returns-in-Some : goal.returns-in-Some
returns-in-Some c = named_half (kept c.args.symbols.now) c.args.value.now c.in-Named.symbol c.in-Some.half c.in-Named.is c.in-Some.ensures

pub returns-in-None : goal.returns-in-None
returns-in-None c = (c.in-Named.symbol, refl, unnamed_half (kept c.args.symbols.now) c.args.value.now c.in-Named.symbol c.in-Named.is c.in-None.ensures)
