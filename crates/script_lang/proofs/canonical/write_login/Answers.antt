use Rattle.std.proofs.Common.{◌++◌, ap, codes, decimal}
use Rattle.script_texts.specs.Texts.{field}
use Rattle.script_lang.proofs.CanonicalRoom.{adds_both, adds_same}
use Rattle.script_lang.proofs.canonical.write_login.Goals as goal

pub returns : goal.returns
returns c =
    adds_both _ _ _ _ _ _ _ _
    (adds_same _ _ _ _ (ap (λ n. codes "LOGIN " ++ decimal n) c.from.ensures) c.write_number-at.ensures.value)
    (adds_same _ _ _ _ (ap field c.as_slice.ensures) c.add_field.ensures)
