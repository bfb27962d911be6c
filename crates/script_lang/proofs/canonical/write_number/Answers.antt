use Rattle.script_lang.proofs.CanonicalRoom.{adds_both}
use Rattle.script_lang.proofs.canonical.write_number.Goals as goal

pub returns-clause-value : goal.returns-clause-value
returns-clause-value c = adds_both _ _ _ _ _ _ _ _ c.add-at.ensures c.add_decimal.ensures.value
