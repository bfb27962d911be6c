use Rattle.std.proofs.Common.{◌∙◌, ap, arith}
use Rattle.script_texts.specs.Texts.{field, octal}
use Rattle.script_lang.proofs.CanonicalRoom.{adds_each, adds_same}
use Rattle.script_lang.proofs.canonical.add_row.Goals as goal

pub loop-word-preserved : goal.loop-word-preserved
loop-word-preserved c = record {
  within = omega (arith, c.loop-word.invariant.within, c.add_octal-at.ensures.short);
  adds = adds_each (λ w. field (octal w)) _ _ _ _ _ _ c.args.words.now c.loop-word.word-index c.word-item.result c.loop-word-test.true c.loop-word.invariant.adds (adds_same _ _ _ _ (ap (λ w. field (octal w)) (c.value.ensures.value ∙ c.word-item.is)) c.add_octal-at.ensures.value);
}
