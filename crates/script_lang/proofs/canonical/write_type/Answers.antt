use Rattle.std.proofs.Common.{◌++◌, ap, codes, decimal}
use Rattle.std.specs.List.{flat_map}
use Rattle.script_texts.specs.Texts.{escaped}
use Rattle.script_lang.proofs.CanonicalRoom.{adds_both, adds_same}
use Rattle.script_lang.proofs.canonical.write_type.Goals as goal

pub returns : goal.returns
returns c =
    adds_both _ _ _ _ _ _ _ _
    (adds_same _ _ _ _ (ap (λ n. codes "TYPE " ++ decimal n) c.from.ensures) c.write_number-at.ensures.value)
    (adds_both _ _ _ _ _ _ _ _ c.add-at.ensures (adds_same _ _ _ _ (ap (flat_map escaped) c.as_slice.ensures) c.add_escaped.ensures))
