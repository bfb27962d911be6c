use Rattle.ka10_unit.proofs.UnitEnds.{takes_none, takes_some}
use Rattle.ka10_unit.proofs.ends.operand.Goals as goal

pub returns-in-None-clause-told : goal.returns-in-None-clause-told
returns-in-None-clause-told g c d f fits stands = rw c.in-None.is (takes_none _ _ _ c.args.taken.now c.args.e _ stands c.join.ensures)

pub returns-in-Some-clause-told : goal.returns-in-Some-clause-told
returns-in-Some-clause-told g c d f fits stands = rw c.in-Some.is (takes_some _ _ _ c.args.taken.now _ c.args.e c.in-Some.at _ (c.refer.ensures.told d f fits stands))
