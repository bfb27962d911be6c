use Rattle.std.proofs.Common.{◌<◌, ◌^◌, Some, set, refl, sym, ◌∙◌, ap, subst}
use Rattle.std.specs.Prelude.{IsSome}
use Rattle.plain_model.specs.Commands.{restarted}
use Rattle.plain_model.specs.Trees.{PlainTree, with_changed_of}
use Rattle.job_forks.proofs.Places.{Keep}
use Rattle.file_tables.specs.Tables.{open_of}
use Rattle.monitor_calls.specs.declared.job.Job.{Job}
use Rattle.monitor_typing.proofs.CommandDid.{has_started, restarted_mild}
use Rattle.monitor_core.proofs.SoundKept.{sound_kept}
use Rattle.monitor_typing.proofs.HasDone.{change_keeps}
use Rattle.monitor_calls.proofs.Sounds.{same_tops_set}
use Rattle.monitor_core.proofs.Systems.{top_fork_of, unheld_still}
use Rattle.monitor_typing.proofs.TypeDid.{low_job}
use Rattle.monitor_core.proofs.JobOthers.{top_changed}
use Rattle.std.proofs.Common.{rules}
use Rattle.ka10_spots.proofs.Stored.{lost_none}
use Rattle.monitor_typing.proofs.commands.start_again.Goals as goal

pub start-requires-clause-lives : goal.start-requires-clause-lives
start-requires-clause-lives g c = let k = top_fork_of c.args.system.now c.args.t.0 c.args.job c.requires.job in subst IsSome (sym k.1) refl

pub invariant_of-system : goal.invariant_of-system
invariant_of-system g c =
    let m = c.args.system.now in
    let j = c.args.job in
    let k = c.in_program.result in
    let jobs = set m.jobs.items c.args.t.0 (Some k) in
    let tops = same_tops_set m.jobs.items c.args.t.0 j k (low_job m m c.args.t j c.requires.job) c.requires.job (ap (λ (x : Job). x.top) c.in_program.ensures) in
    let keep = subst (λ (x : PlainTree). Keep m.tree.forks x.forks) (sym c.start.ensures) (change_keeps m.tree c.are_trees.ensures j.top (restarted c.right.result) (restarted_mild c.right.result c.right.ensures.below)) in
    record {
      sound = sound_kept g.P.Pages.means m.pages m.pages m.tree c.start.new.tree m.jobs.items m.sound jobs tops c.are_trees.ensures c.are_trees-2.ensures keep refl refl;
      unheld = unheld_still (open_of m.files) m.jobs.items jobs m.unheld tops;
      typing_room = m.typing_room;
    }

pub returns-clause-has : goal.returns-clause-has
returns-clause-has g c =
    let m = c.args.system.now in
    let j = c.args.job in
    has_started m _ c.args.t j c.requires.job refl refl refl refl (ap (λ k. set m.jobs.items c.args.t.0 (Some k)) c.in_program.ensures) c.are_trees.ensures c.in-Some.word c.in-Some.is
    (subst (λ a. a < 2 ^ 18) c.right.ensures.value c.right.ensures.below) (c.start.ensures ∙ ap (λ a. with_changed_of m.tree j.top (restarted a)) c.right.ensures.value)

pub returns-clause-others : goal.returns-clause-others
returns-clause-others g c = top_changed c.args.system.now c.args.t c.args.job c.requires.job c.are_trees.ensures (restarted c.right.result) (λ k. refl) c.start.new.tree c.start.ensures

pub returns-in_default-clause-has : goal.returns-in_default-clause-has
returns-in_default-clause-has g c = record { each = search rules; within = search rules; most = search rules; loses = lost_none g.P.Pages.means c.args.system.now.pages }
