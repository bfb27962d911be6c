use Rattle.std.proofs.Common.{◌∙◌}
use Rattle.ka10_alu.proofs.Tables.{picked_is}
use Rattle.ka10_alu.proofs.booleans.boolean_by.Goals as goal

pub returns : goal.returns
returns c = rw (← c.value-a.ensures.value, ← c.value-m.ensures.value) (c.wrapped.ensures ∙ picked_is c.args.function c.value-a.result c.value-m.result _ _ _ _ c.requires c.picked.ensures.bits c.picked-2.ensures.bits c.picked-3.ensures.bits c.picked-4.ensures.bits)
