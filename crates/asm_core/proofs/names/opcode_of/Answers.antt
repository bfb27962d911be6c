use Rattle.std.proofs.Common.{Some}
use Rattle.asm_core.proofs.Opcodes.{arithmetic_found, jump_found, logic_found}
use Rattle.asm_core.proofs.names.opcode_of.Goals as goal

pub returns-in-Some-clause-below : goal.returns-in-Some-clause-below
returns-in-Some-clause-below c = arithmetic_found (Some c.in-Some.op) c.args.word.now c.in-Some.ensures

pub returns-in-Some-jump-clause-below : goal.returns-in-Some-jump-clause-below
returns-in-Some-jump-clause-below c = jump_found (Some c.in-Some-jump.op) c.args.word.now c.in-Some-jump.ensures

pub returns-clause-below : goal.returns-clause-below
returns-clause-below c = logic_found c.logic.result c.args.word.now c.logic.ensures
