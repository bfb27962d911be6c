use Rattle.asm_core.proofs.Digits.{octal_read, octal_small}
use Rattle.asm_core.proofs.numbers.octal_number.Goals as goal

pub returns-clause-value : goal.returns-clause-value
returns-clause-value c = octal_read c.args.most c.args.text.now c.read_octal.result c.read_octal.ensures

pub returns-clause-below : goal.returns-clause-below
returns-clause-below c = octal_small c.args.most c.args.text.now c.read_octal.result c.read_octal.ensures
