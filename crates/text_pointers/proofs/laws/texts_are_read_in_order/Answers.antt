use Rattle.text_pointers.proofs.InOrder.{in_order}
use Rattle.text_pointers.proofs.laws.texts_are_read_in_order.Goals as goal

pub returns : goal.returns
returns c = in_order c.args.regs.now c.args.pointer
