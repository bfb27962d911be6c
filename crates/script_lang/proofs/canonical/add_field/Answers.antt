use Rattle.script_lang.proofs.CanonicalRoom.{adds_both}
use Rattle.script_lang.proofs.canonical.add_field.Goals as goal

pub returns : goal.returns
returns c = adds_both _ _ _ _ _ _ _ _ c.add-at.ensures c.add.ensures
