use Rattle.std.proofs.Common.{refl, ap, Some}
use Rattle.plain_units.specs.Deeds.{up}
use Rattle.ka10_unit.proofs.InARow.{down_up}
use Rattle.ka10_unit.proofs.laws.pushed_words_come_back.Goals as goal

pub returns : goal.returns
returns c pushed popped word = record { pointer = up pushed.a; grows = refl; stores = refl; takes = refl; shrinks = ap Some (down_up pushed.a word); gives = refl }
