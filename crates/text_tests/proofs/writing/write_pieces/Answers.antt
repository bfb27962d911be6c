use Rattle.std.proofs.Common.{[], ◌∷◌, refl, sym, subst, lit<, lit≤}
use Rattle.std.specs.Fmt.{digits}
use Rattle.word36.specs.Octal.{octal_padded}
use Rattle.script_texts.specs.Limits.{FitsEvent}
use Rattle.script_texts.specs.declared.event.Event.TheVariants.{TypeIn}
use Rattle.script_lang.proofs.CanonicalFits.{typed_low}
use Rattle.text_tests.proofs.writing.write_pieces.Goals as goal

pub take_step-requires-5 : goal.take_step-requires-5
unfolding digits octal_padded
take_step-requires-5 g c =
    (subst (λ l. FitsEvent (TypeIn (record { 0 = 10 }) l)) (sym c.new.ensures) (lit< tt, lit≤ tt, lit≤ tt, typed_low (65 ∷ 32 ∷ 92 ∷ 13 ∷ []) refl, lit≤ tt), refl)
