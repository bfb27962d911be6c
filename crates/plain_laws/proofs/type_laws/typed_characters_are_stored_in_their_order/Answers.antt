use Rattle.std.proofs.Common.{refl, ap, ◌∙◌, subst, sym, ◌∷◌}
use Rattle.plain_model.specs.Unit.{Effect}
use Rattle.plain_laws.specs.TypeLaws.{StoresText}
use Rattle.plain_laws.proofs.TypedLines.{typed_here}
use Rattle.plain_laws.proofs.TypedTexts.{input_grows, read_itself, text_shown, text_stored}
use Rattle.plain_laws.proofs.type_laws.typed_characters_are_stored_in_their_order.Goals as goal

pub returns-clause-shown : goal.returns-clause-shown
returns-clause-shown c = λ s t j text w is mode each room. ap (λ (e : Effect). e.items) (typed_here s t j is text) ∙ text_shown t text s j is (record { mode = mode; each = each; room = room })

pub returns-clause-stored : goal.returns-clause-stored
returns-clause-stored c = λ s t j x xs w is mode each room. subst (λ (e : Effect). StoresText s e.state t j (x ∷ xs)) (sym (typed_here s t j is (x ∷ xs))) (text_stored t xs x s j w.machine is (record { mode = mode; each = each; room = room }))

pub returns-clause-input : goal.returns-clause-input
returns-clause-input c = λ old new t j text is stores. input_grows t old new j text is stores

pub returns-clause-end : goal.returns-clause-end
returns-clause-end c = λ t. refl

pub returns-clause-itself : goal.returns-clause-itself
returns-clause-itself c = λ t x other more. read_itself t x other more
