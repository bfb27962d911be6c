use Rattle.std.proofs.Common.{◌++◌, ap, codes}
use Rattle.script_texts.specs.Texts.{field, octal}
use Rattle.script_lang.proofs.CanonicalRoom.{adds_both, adds_same}
use Rattle.script_lang.proofs.canonical.write_page.Goals as goal

pub returns : goal.returns
returns c =
    adds_both _ _ _ _ _ _ _ _
    (adds_same _ _ _ _ (ap (λ l. codes "PAGE " ++ l) c.as_slice.ensures) c.write_text-at.ensures)
    (adds_same _ _ _ _ (ap (λ n. field (octal n)) c.from.ensures) c.add_octal.ensures.value)
