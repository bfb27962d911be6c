use Rattle.std.proofs.Common.{◌++◌, ◌∙◌, ap, codes, sym}
use Rattle.script_texts.specs.Texts.{ended}
use Rattle.asm_console.specs.Endings.{fault_line}
use Rattle.asm_console.proofs.Writes.{grows_same, map_ok}
use Rattle.asm_console.proofs.closing.write_fault.Goals as goal

pub returns-in-Undefined-clause-ok : goal.returns-in-Undefined-clause-ok
returns-in-Undefined-clause-ok g c =
    map_ok c.put_both-in-Undefined.result (grows_same _ _ _ _ (ap (λ s. ended (codes "?UNDEFINED " ++ s)) c.as_slice-in-Undefined.ensures ∙ sym (ap fault_line c.in-Undefined.is))) c.put_both-in-Undefined.ensures.ok
