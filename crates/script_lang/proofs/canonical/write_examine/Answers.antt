use Rattle.std.proofs.Common.{◌++◌, ap, arith, codes, decimal}
use Rattle.script_texts.specs.Texts.{field, octal}
use Rattle.script_lang.proofs.CanonicalRoom.{adds_both, adds_same}
use Rattle.script_lang.proofs.canonical.write_examine.Goals as goal

pub add_decimal-at-requires : goal.add_decimal-at-requires
add_decimal-at-requires c = omega (arith, c.add-at.ensures.ends, c.write_number-at.ensures.short)

pub add_octal-requires : goal.add_octal-requires
add_octal-requires c = omega (arith, c.add_decimal-at.ensures.short, c.add-at.ensures.ends, c.write_number-at.ensures.short)

pub returns : goal.returns
returns c =
    adds_both _ _ _ _ _ _ _ _
    (adds_same _ _ _ _ (ap (λ n. codes "EXAMINE " ++ decimal n) c.from.ensures) c.write_number-at.ensures.value)
    (adds_both _ _ _ _ _ _ _ _ c.add-at.ensures
    (adds_both _ _ _ _ _ _ _ _ c.add_decimal-at.ensures.value (adds_same _ _ _ _ (ap (λ n. field (octal n)) c.from-2.ensures) c.add_octal.ensures.value)))
