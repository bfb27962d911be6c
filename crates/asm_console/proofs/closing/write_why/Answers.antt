use Rattle.std.proofs.Common.{ap, sym}
use Rattle.asm_console.specs.Endings.{stopped_line}
use Rattle.asm_console.proofs.Writes.{grows_same, map_ok}
use Rattle.asm_console.proofs.closing.write_why.Goals as goal

pub returns-in-LongText-clause-ok : goal.returns-in-LongText-clause-ok
returns-in-LongText-clause-ok g c = map_ok c.put_line-in-LongText.result (grows_same _ _ _ _ (sym (ap stopped_line c.in-LongText.is))) c.put_line-in-LongText.ensures.ok
