use Rattle.std.proofs.Common.{◌∙◌, ap, arith, length}
use Rattle.script_texts.specs.Texts.{escaped}
use Rattle.script_lang.proofs.CanonicalRoom.{adds_each, adds_same}
use Rattle.script_lang.proofs.FlatMaps.{flat_room}
use Rattle.script_lang.proofs.canonical.add_escaped.Goals as goal

pub add-at-requires : goal.add-at-requires
add-at-requires c =
    omega (arith, c.requires, c.loop-c.invariant.ends, ap length (c.as_slice.ensures ∙ c.escaped-c.ensures), flat_room escaped c.args.text.now c.loop-c.c-index 0 c.loop-c-test.true)

pub loop-c-preserved : goal.loop-c-preserved
loop-c-preserved c =
    adds_each escaped _ _ _ _ _ _ c.args.text.now c.loop-c.c-index 0 c.loop-c-test.true c.loop-c.invariant (adds_same _ _ _ _ (c.as_slice.ensures ∙ c.escaped-c.ensures) c.add-at.ensures)
