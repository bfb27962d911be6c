use Rattle.std.proofs.Common.{refl, sym, ◌∙◌, subst}
use Rattle.event_deeds.specs.Deeds.{one_killed}
use Rattle.event_deeds.specs.Leaves.{last_below}
use Rattle.event_deeds.specs.declared.answer.Answer.{Answer}
use Rattle.monitor_typing.specs.Deeds.{Does}
use Rattle.monitor_typing.specs.Reaching.{PartReaches}
use Rattle.monitor_typing.proofs.EndDid.{behind_is, does_kill, sound_after}
use Rattle.monitor_typing.proofs.CharacterOthers.{top_left}
use Rattle.monitor_typing.proofs.deeds.kill_one.Goals as goal

pub invariant_of-system : goal.invariant_of-system
invariant_of-system g c =
    let m = c.args.system.now in
    record {
      sound = sound_after m c.kill_next.new.pages c.kill_next.new.tree c.args.job.top c.kill_next.result c.kill_next.ensures.leaves c.kill_next.ensures.stays;
      unheld = m.unheld;
      typing_room = m.typing_room;
    }

pub returns-in-Ok-clause-does : goal.returns-in-Ok-clause-does
returns-in-Ok-clause-does g c =
    let m = c.args.system.now in
    let t = c.args.t in
    let top = c.args.job.top in
    let e = c.in-Ok.ensures in
    subst (Does m _ (λ s. one_killed s t c.args.purpose top)) (sym c.printed.ensures)
    (does_kill m _ t top c.args.purpose refl refl refl refl e.leaves e.told c.behind_kill-next.result
    (c.behind_kill-next.ensures ∙ behind_is t c.args.purpose c.in-Ok.some (last_below m.tree.forks top) e.some))

pub returns-in-Ok-clause-others : goal.returns-in-Ok-clause-others
returns-in-Ok-clause-others g c =
    let m = c.args.system.now in
    let new = c.kill_next.new.tree.forks in
    subst (λ (a : Answer). PartReaches a.showing m.tree.forks new) (sym c.printed.ensures) (top_left m c.args.t c.args.job c.requires.job new c.are_trees.ensures.slotted c.in-Ok.ensures.leaves.kept c.in-Ok.ensures.leaves.others)
