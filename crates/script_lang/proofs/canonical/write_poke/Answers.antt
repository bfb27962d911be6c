use Rattle.std.proofs.Common.{◌++◌, ap, codes, decimal}
use Rattle.script_texts.specs.Texts.{field, octal}
use Rattle.script_lang.proofs.CanonicalRoom.{adds_both, adds_same}
use Rattle.script_lang.proofs.canonical.write_poke.Goals as goal

pub returns : goal.returns
returns c =
    adds_both _ _ _ _ _ _ _ _
    (adds_same _ _ _ _ (ap (λ n. codes "POKE " ++ decimal n) c.from.ensures) c.write_number-at.ensures.value)
    (adds_both _ _ _ _ _ _ _ _
    (adds_same _ _ _ _ (ap (λ n. field (octal n)) c.from-2.ensures) c.add_octal-at.ensures.value)
    (adds_same _ _ _ _ (ap (λ n. field (octal n)) c.value.ensures.value) c.add_octal.ensures.value))
