use Rattle.asm_console.proofs.Below.{program_below}
use Rattle.asm_console.proofs.Scripts.{lines_read, lines_script, lines_short}
use Rattle.asm_console.proofs.laws.lines_are_read.Goals as goal

pub returns-clause-lines : goal.returns-clause-lines
returns-clause-lines c = lines_read

pub returns-clause-below : goal.returns-clause-below
returns-clause-below c = program_below

pub returns-clause-script : goal.returns-clause-script
returns-clause-script c = lines_script

pub returns-clause-short : goal.returns-clause-short
returns-clause-short c = lines_short
