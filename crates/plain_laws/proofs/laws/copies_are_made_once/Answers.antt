use Rattle.std.specs.Cmp.{nat_cmp_total}
use Rattle.plain_laws.proofs.Copying.{copy_made, makes_none, made_once}
use Rattle.plain_laws.proofs.laws.copies_are_made_once.Goals as goal

pub returns-clause-made : goal.returns-clause-made
returns-clause-made c = λ p q owner s k l w own h f g. copy_made nat_cmp_total owner own p q w s k l h f g

pub returns-clause-only : goal.returns-clause-only
returns-clause-only c = λ p q owner s kind k h there none g. makes_none p s kind owner q k h there none g

pub returns-clause-once : goal.returns-clause-once
returns-clause-once c = λ p q owner s kind own g. made_once nat_cmp_total owner own p q s kind g
