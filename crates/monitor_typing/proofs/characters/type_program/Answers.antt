use Rattle.std.proofs.Common.{refl, sym, ◌∙◌, ap, subst, length-set}
use Rattle.plain_model.specs.Trees.{PlainTree}
use Rattle.plain_model.specs.TypeEvents.{interrupted, posted_at}
use Rattle.monitor_calls.specs.declared.typing.Typing.{Typing}
use Rattle.step_shown.specs.Echoes.{echo_items}
use Rattle.plain_typing.specs.declared.typed.Typed.TheVariants.{Stored}
use Rattle.plain_typing.specs.Characters.{read_as}
use Rattle.plain_typing.specs.Typing.{fate_of, left_by}
use Rattle.job_forks.proofs.Places.{Keep}
use Rattle.monitor_calls.specs.Typings.{new_typing}
use Rattle.monitor_typing.proofs.CommandDid.{has_kept, has_shown, has_stopped, readers_keep}
use Rattle.monitor_core.proofs.SoundKept.{sound_kept}
use Rattle.monitor_typing.proofs.HasDone.{has_from}
use Rattle.monitor_core.proofs.JobDid.{put_back}
use Rattle.monitor_typing.proofs.PostDid.{has_posting}
use Rattle.monitor_calls.proofs.Sounds.{same_tops, stands}
use Rattle.monitor_typing.proofs.TypeDid.{low_typed}
use Rattle.monitor_typing.proofs.CharacterOthers.{readers_change, stored_reaches}
use Rattle.std.proofs.Common.{arith, rules}
use Rattle.std.proofs.lemmas.Grind.{common_steps}
use Rattle.ka10_spots.proofs.Stored.{lost_none}
use Rattle.monitor_typing.proofs.characters.type_program.Goals as goal

pub invariant_of-system : goal.invariant_of-system
invariant_of-system g c =
    let m = c.args.system.now in
    let tops = same_tops m.jobs.items m.jobs.items refl in
    let keep = subst (λ (x : PlainTree). Keep m.tree.forks x.forks) (sym c.wake-may.ensures.tree) (readers_keep m.tree.forks c.wake-may.ensures.was.slotted.own c.args.t) in
    record {
      sound = sound_kept g.P.Pages.means m.pages m.pages m.tree c.wake-may.new.tree m.jobs.items m.sound m.jobs.items tops c.wake-may.ensures.was c.wake-may.ensures.is keep refl refl;
      unheld = m.unheld;
      typing_room = length-set m.typed.items c.args.t.0 _ ∙ m.typing_room;
    }

pub returns-in-Stored-clause-has : goal.returns-in-Stored-clause-has
returns-in-Stored-clause-has g c =
    let m = c.args.system.now in
    let t = c.args.t in
    let code = read_as c.args.c in
    let at = c.index_mut.ensures.value ∙ stands m.typed.items t.0 c.index_mut.result.now new_typing (low_typed m m t c.args.job c.requires.job) in
    has_shown m _ _ t c.wake-may.result c.read_as.result c.stored.result c.stored.ensures
    (has_kept m _ t c.args.job c.requires.job c.wake-may.ensures.was refl refl refl _ refl refl c.read_as.result code _ c.read_as.ensures (c.in-Stored.ensures.fate ∙ ap (λ (y : Typing). fate_of y.input code) at)
    (λ i. record (at i) { input = (c.in-Stored.ensures.line ∙ ap (λ (y : Typing). left_by y.input code Stored) at) i }) c.wake-may.ensures.tree)

pub returns-in-ControlC-clause-has : goal.returns-in-ControlC-clause-has
returns-in-ControlC-clause-has g c =
    let m = c.args.system.now in
    let t = c.args.t in
    let code = read_as c.args.c in
    let at = c.index_mut.ensures.value ∙ stands m.typed.items t.0 c.index_mut.result.now new_typing (low_typed m m t c.args.job c.requires.job) in
    let typed = put_back m.typed.items t.0 c.index_mut.result.now _ c.index_mut.ensures.value (λ i. record c.index_mut.result.now { input = sym c.in-ControlC.ensures.line i }) in
    has_stopped m c.interrupt.new.system t c.args.job code _ (echo_items t c.interrupt.result) (c.in-ControlC.ensures.fate ∙ ap (λ (y : Typing). fate_of y.input code) at)
    (has_from m _ c.interrupt.new.system t c.args.job (λ s j. interrupted s t j) (echo_items t c.interrupt.result) refl refl refl refl typed refl c.interrupt.ensures.has)

pub returns-in-Posts-clause-has : goal.returns-in-Posts-clause-has
returns-in-Posts-clause-has g c =
    let m = c.args.system.now in
    let t = c.args.t in
    let code = read_as c.args.c in
    let at = c.index_mut.ensures.value ∙ stands m.typed.items t.0 c.index_mut.result.now new_typing (low_typed m m t c.args.job c.requires.job) in
    let typed = put_back m.typed.items t.0 c.index_mut.result.now _ c.index_mut.ensures.value (λ i. record c.index_mut.result.now { input = sym c.in-Posts.ensures.line i }) in
    has_posting m c.post_typed.new.system t c.args.job code c.in-Posts.fork c.in-Posts.channel _ (echo_items t c.post_typed.result) (c.in-Posts.ensures.fate ∙ ap (λ (y : Typing). fate_of y.input code) at)
    (has_from m _ c.post_typed.new.system t c.args.job (λ s j. posted_at s c.in-Posts.fork c.in-Posts.channel) (echo_items t c.post_typed.result) refl refl refl refl typed refl (c.post_typed.ensures.has t))

pub returns-in-Stored-clause-others : goal.returns-in-Stored-clause-others
returns-in-Stored-clause-others g c =
    let tree = c.args.system.now.tree in
    stored_reaches c.args.t c.wake-may.result c.read_as.result c.stored.result c.stored.ensures tree.forks c.wake-may.new.tree.forks (λ no. ap (λ (x : PlainTree). x.forks) (c.wake-may.ensures.none no))
    (readers_change tree c.wake-may.new.tree c.wake-may.ensures.was c.args.t c.wake-may.ensures.tree)

pub returns-in-Dropped-clause-has : goal.returns-in-Dropped-clause-has
returns-in-Dropped-clause-has g c = record { each = grind (arith, common_steps); within = search rules; most = search rules; loses = lost_none g.P.Pages.means c.args.system.now.pages }
