use Rattle.asm_core.specs.Places.{lines_of, outcome}
use Rattle.asm_core.proofs.Assembling.{outcome_fault}
use Rattle.asm_core.proofs.Reading.{fault_passed}
use Rattle.asm_core.proofs.program.assemble.Goals as goal

pub returns-in-Err : goal.returns-in-Err
returns-in-Err c =
    let text = c.args.text.now in
    fault_passed c.in-Err.fault (lines_of text) (outcome text) (outcome_fault text c.in-Err.fault) c.in-Err.ensures
