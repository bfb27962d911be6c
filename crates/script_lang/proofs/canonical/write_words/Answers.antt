use Rattle.std.proofs.Common.{◌++◌, ap, codes, take}
use Rattle.std.specs.List.{flat_map}
use Rattle.script_texts.specs.Texts.{field, octal}
use Rattle.script_lang.proofs.CanonicalRoom.{adds_both, adds_same}
use Rattle.script_lang.proofs.canonical.write_words.Goals as goal

pub returns : goal.returns
returns c =
    adds_both _ _ _ _ _ _ _ _
    (adds_same _ _ _ _ (ap (λ l. codes "WORDS " ++ l) c.as_slice.ensures) c.write_text-at.ensures)
    (adds_both _ _ _ _ _ _ _ _
    (adds_same _ _ _ _ (ap (λ n. field (octal n)) c.from.ensures) c.add_octal-at.ensures.value)
    (adds_both _ _ _ _ _ _ _ _
    (adds_same _ _ _ _ (ap (λ n. field (octal n)) c.from-2.ensures) c.add_octal-at-2.ensures.value)
    (adds_same _ _ _ _ (ap (λ n. flat_map (λ w. field (octal w)) (take n c.args.row.now.words)) c.from-3.ensures) c.add_row.ensures)))
