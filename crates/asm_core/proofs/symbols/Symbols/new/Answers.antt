use Rattle.asm_core.proofs.Keys.{kept_empty}
use Rattle.asm_core.proofs.symbols.Symbols.new.Goals as goal

pub returns : goal.returns
returns c = kept_empty (record { values = c.new.result }) c.new.ensures.empty
