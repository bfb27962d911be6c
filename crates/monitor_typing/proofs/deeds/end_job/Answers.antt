use Rattle.std.proofs.Common.{[], None, set, refl, sym, subst, arith}
use Rattle.event_deeds.specs.Deeds.{over, purpose_done}
use Rattle.event_deeds.specs.declared.answer.Answer.{Answer}
use Rattle.event_deeds.specs.declared.deed.Purpose.TheVariants.{Logout}
use Rattle.file_tables.specs.Tables.{open_of}
use Rattle.monitor_calls.specs.Jobs.{AreUnheld}
use Rattle.monitor_typing.specs.Deeds.{Does}
use Rattle.monitor_typing.specs.Reaching.{PartReaches}
use Rattle.monitor_typing.specs.Effects.{job_in}
use Rattle.monitor_typing.proofs.EndDid.{does_logout}
use Rattle.monitor_typing.proofs.HasDone.{open_room, sound_gone, unheld_gone}
use Rattle.monitor_typing.proofs.CharacterOthers.{top_left}
use Rattle.monitor_typing.proofs.deeds.end_job.Goals as goal

pub invariant_of-system : goal.invariant_of-system
invariant_of-system g c =
    let m = c.args.system.now in
    let j = c.args.job in
    record {
      sound = sound_gone g.P.Pages.means m.pages c.kill_top.new.pages m.tree c.kill_top.new.tree m.jobs.items m.sound c.args.t.0 j c.requires.job c.in-Ok.ensures.leaves;
      unheld = subst (λ held. AreUnheld held (set m.jobs.items c.args.t.0 None)) (sym c.release_all.ensures.released)
          (unheld_gone g.P.Pages.means m.pages c.kill_top.new.pages m.tree c.kill_top.new.tree m.jobs.items m.sound c.args.t.0 j c.requires.job (open_of m.files) (omega (arith, open_room m.files, c.requires.terminal)) m.unheld);
      typing_room = m.typing_room;
    }

pub returns-in-Ok-clause-does : goal.returns-in-Ok-clause-does
returns-in-Ok-clause-does g c =
    let m = c.args.system.now in
    let t = c.args.t in
    let j = c.args.job in
    subst (Does m _ (λ s. over (record { state = purpose_done s t (job_in m t j) Logout; items = [] }))) (sym c.printed.ensures)
    (does_logout m _ t j c.requires.job refl refl c.in-Ok.ensures.leaves c.release_all.ensures.files c.release_all.ensures.released refl c.in-Ok.ensures.told)

pub returns-in-Ok-clause-others : goal.returns-in-Ok-clause-others
returns-in-Ok-clause-others g c =
    let m = c.args.system.now in
    let new = c.kill_top.new.tree.forks in
    subst (λ (a : Answer). PartReaches a.showing m.tree.forks new) (sym c.printed.ensures) (top_left m c.args.t c.args.job c.requires.job new c.are_trees.ensures.slotted c.in-Ok.ensures.leaves.kept c.in-Ok.ensures.leaves.others)
