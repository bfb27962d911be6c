use Rattle.asm_core.proofs.Digits.{octal_read}
use Rattle.asm_core.proofs.operands.word.Goals as goal

pub returns : goal.returns
returns c = octal_read 12 c.args.text.now c.read_octal.result c.read_octal.ensures
