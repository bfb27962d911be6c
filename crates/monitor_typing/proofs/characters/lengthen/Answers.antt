use Rattle.std.proofs.Common.{◌<◌, ◌++◌, ◌∷◌, [], length, refl, ◌∙◌, ap, subst}
use Rattle.monitor_calls.specs.declared.typing.Typing.{Typing}
use Rattle.monitor_calls.specs.Typings.{new_typing}
use Rattle.monitor_calls.proofs.Sounds.{stands}
use Rattle.monitor_typing.proofs.CommandDid.{has_lengthened}
use Rattle.monitor_typing.proofs.TypeDid.{low_typed}
use Rattle.plain_typing.specs.declared.typed.TheConstants.{MOST_STORED}
use Rattle.std.proofs.Common.{arith, rules}
use Rattle.std.proofs.lemmas.Grind.{common_steps}
use Rattle.ka10_spots.proofs.Stored.{lost_none}
use Rattle.monitor_typing.proofs.characters.lengthen.Goals as goal

pub returns-in-Ok-clause-has : goal.returns-in-Ok-clause-has
returns-in-Ok-clause-has g c =
    let m = c.args.system.now in
    let j = c.args.job in
    let read = stands m.typed.items c.args.t.0 c.index_mut.result.now new_typing (low_typed m m c.args.t j c.requires.job) in
    has_lengthened m _ c.args.t j c.requires.job refl refl refl _ refl refl refl c.args.code
    (subst (λ (y : Typing). length y.line.items < MOST_STORED) (c.index_mut.ensures.value ∙ read) (c.in-Ok.ensures.variant.0 refl))
    (λ i. record ((c.index_mut.ensures.value ∙ read) i) { line = record { items = (c.in-Ok.ensures.ok ∙ ap (λ (y : Typing). y.line.items ++ c.args.code ∷ []) (c.index_mut.ensures.value ∙ read)) i } })

pub returns-in-Err-clause-has : goal.returns-in-Err-clause-has
returns-in-Err-clause-has g c = record { each = grind (arith, common_steps); within = search rules; most = search rules; loses = lost_none g.P.Pages.means c.args.system.now.pages }
