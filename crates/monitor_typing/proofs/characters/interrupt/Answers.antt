use Rattle.std.proofs.Common.{Some, set, refl, sym, ◌∙◌, ap, subst, length-set}
use Rattle.std.specs.Prelude.{IsSome}
use Rattle.plain_model.specs.Trees.{PlainTree}
use Rattle.job_forks.proofs.Places.{Keep}
use Rattle.file_tables.specs.Tables.{open_of}
use Rattle.monitor_calls.specs.declared.job.Job.{Job}
use Rattle.monitor_calls.specs.Typings.{new_typing}
use Rattle.monitor_core.proofs.SoundKept.{sound_kept}
use Rattle.monitor_calls.proofs.Sounds.{same_tops_set, stands}
use Rattle.monitor_core.proofs.Systems.{top_fork_of, unheld_still}
use Rattle.monitor_typing.proofs.CommandDid.{has_interrupted, stopped_keeps}
use Rattle.monitor_typing.proofs.TypeDid.{low_job, low_typed}
use Rattle.monitor_typing.proofs.CharacterOthers.{top_stopped}
use Rattle.monitor_typing.proofs.characters.interrupt.Goals as goal

pub stop-requires : goal.stop-requires
stop-requires g c = let k = top_fork_of c.args.system.now c.args.t.0 c.args.job c.requires.job in subst IsSome (sym k.1) refl

pub invariant_of-system : goal.invariant_of-system
invariant_of-system g c =
    let m = c.args.system.now in
    let j = c.args.job in
    let k = c.in_command.result in
    let jobs = set m.jobs.items c.args.t.0 (Some k) in
    let tops = same_tops_set m.jobs.items c.args.t.0 j k (low_job m m c.args.t j c.requires.job) c.requires.job (ap (λ (x : Job). x.top) c.in_command.ensures) in
    let keep = subst (λ (x : PlainTree). Keep m.tree.forks x.forks) (sym c.stop.ensures) (stopped_keeps m.tree c.are_trees.ensures j.mode j.top) in
    record {
      sound = sound_kept g.P.Pages.means m.pages m.pages m.tree c.stop.new.tree m.jobs.items m.sound jobs tops c.are_trees.ensures c.are_trees-2.ensures keep refl refl;
      unheld = unheld_still (open_of m.files) m.jobs.items jobs m.unheld tops;
      typing_room = length-set m.typed.items c.args.t.0 _ ∙ m.typing_room;
    }

pub returns-clause-has : goal.returns-clause-has
returns-clause-has g c =
    let m = c.args.system.now in
    let j = c.args.job in
    let read = stands m.typed.items c.args.t.0 c.index_mut-2.result.now new_typing (low_typed m m c.args.t j c.requires.job) in
    has_interrupted m _ c.args.t j c.requires.job c.are_trees.ensures refl refl refl _ refl
    (λ i. record ((c.index_mut-2.ensures.value ∙ read) i) { line = record { items = c.clear.ensures i } })
    (ap (λ k. set m.jobs.items c.args.t.0 (Some k)) c.in_command.ensures) c.stop.ensures

pub returns-clause-others : goal.returns-clause-others
returns-clause-others g c = top_stopped c.args.system.now c.args.t c.args.job c.requires.job c.are_trees.ensures c.args.job.mode c.stop.new.tree c.stop.ensures
