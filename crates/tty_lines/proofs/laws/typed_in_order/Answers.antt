use Rattle.tty_lines.proofs.Ordered.{in_order, same_codes}
use Rattle.tty_lines.proofs.laws.typed_in_order.Goals as goal

pub returns-clause-stored : goal.returns-clause-stored
returns-clause-stored c = λ line typed few. in_order typed line few

pub returns-clause-codes : goal.returns-clause-codes
returns-clause-codes c = same_codes
