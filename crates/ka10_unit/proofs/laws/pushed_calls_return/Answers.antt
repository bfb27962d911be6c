use Rattle.std.proofs.Common.{refl, ap, Some}
use Rattle.plain_units.specs.Deeds.{up}
use Rattle.ka10_unit.proofs.InARow.{down_up, pc_right}
use Rattle.ka10_unit.proofs.laws.pushed_calls_return.Goals as goal

pub returns : goal.returns
returns c calling returning word = record { pointer = up calling.a; goes = refl; grows = refl; stores = refl; takes = refl; comes = pc_right calling.regs; shrinks = ap Some (down_up calling.a word) }
