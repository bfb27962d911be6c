use Rattle.std.proofs.Common.{◌≡◌, true, false, cond, Some, set, refl, sym, ◌∙◌, ap, subst}
use Rattle.std.specs.Prelude.{IsSome}
use Rattle.std.specs.Option.{option_map_or}
use Rattle.plain_model.specs.Commands.{resumed}
use Rattle.plain_model.specs.Trees.{PlainTree, with_changed_of}
use Rattle.job_forks.proofs.Places.{Keep}
use Rattle.file_tables.specs.Tables.{open_of}
use Rattle.job_commands.specs.Going.{can_continue}
use Rattle.monitor_calls.specs.declared.job.Job.{Job}
use Rattle.monitor_typing.proofs.CommandDid.{has_gone_on, has_stayed, resumed_mild}
use Rattle.monitor_core.proofs.SoundKept.{sound_kept}
use Rattle.monitor_typing.proofs.HasDone.{change_keeps}
use Rattle.monitor_calls.proofs.Sounds.{same_tops_set}
use Rattle.monitor_core.proofs.Systems.{top_fork_of, unheld_still}
use Rattle.monitor_typing.proofs.TypeDid.{low_job}
use Rattle.monitor_core.proofs.JobOthers.{job_same, top_changed}
use Rattle.monitor_typing.proofs.commands.resume.Goals as goal

pub go_on-requires : goal.go_on-requires
go_on-requires g c = let k = top_fork_of c.args.system.now c.args.t.0 c.args.job c.requires.job in record { lives = subst IsSome (sym k.1) refl }

pub returns-then-not-go_on-clause-has : goal.returns-then-not-go_on-clause-has
returns-then-not-go_on-clause-has g c =
    let m = c.args.system.now in
    let j = c.args.job in
    let k = top_fork_of m c.args.t.0 j c.requires.job in
    let can : can_continue k.0 ≡ false = sym (c.if-not-go_on.ensures.goes ∙ ap (λ o. option_map_or can_continue o false) k.1) in
    has_stayed m _ c.args.t j c.requires.job refl refl refl refl refl k.0 k.1 can c.if-not-go_on.ensures.tree

pub invariant_of-system-2 : goal.invariant_of-system-2
invariant_of-system-2 g c =
    let m = c.args.system.now in
    let j = c.args.job in
    let k = c.in_program.result in
    let jobs = set m.jobs.items c.args.t.0 (Some k) in
    let tops = same_tops_set m.jobs.items c.args.t.0 j k (low_job m m c.args.t j c.requires.job) c.requires.job (ap (λ (x : Job). x.top) c.in_program.ensures) in
    let went : c.go_on.new.tree ≡ with_changed_of m.tree j.top resumed = c.go_on.ensures.tree ∙ ap (λ r. cond r (with_changed_of m.tree j.top resumed) m.tree) c.if-not-go_on.false in
    let keep = subst (λ (x : PlainTree). Keep m.tree.forks x.forks) (sym went) (change_keeps m.tree c.are_trees.ensures j.top resumed resumed_mild) in
    record {
      sound = sound_kept g.P.Pages.means m.pages m.pages m.tree c.go_on.new.tree m.jobs.items m.sound jobs tops c.are_trees.ensures c.are_trees-2.ensures keep refl refl;
      unheld = unheld_still (open_of m.files) m.jobs.items jobs m.unheld tops;
      typing_room = m.typing_room;
    }

pub returns-clause-has : goal.returns-clause-has
returns-clause-has g c =
    let m = c.args.system.now in
    let j = c.args.job in
    let k = top_fork_of m c.args.t.0 j c.requires.job in
    let can : can_continue k.0 ≡ true = sym (sym c.if-not-go_on.false ∙ c.go_on.ensures.goes ∙ ap (λ o. option_map_or can_continue o false) k.1) in
    let went : c.go_on.new.tree ≡ with_changed_of m.tree j.top resumed = c.go_on.ensures.tree ∙ ap (λ r. cond r (with_changed_of m.tree j.top resumed) m.tree) c.if-not-go_on.false in
    has_gone_on m _ c.args.t j c.requires.job refl refl refl refl (ap (λ k. set m.jobs.items c.args.t.0 (Some k)) c.in_program.ensures) c.are_trees.ensures k.0 k.1 can went

pub returns-then-not-go_on-clause-others : goal.returns-then-not-go_on-clause-others
returns-then-not-go_on-clause-others g c =
    job_same c.args.t c.args.system.now.tree.forks _ (ap (λ (x : PlainTree). x.forks) (c.if-not-go_on.ensures.tree))

pub returns-clause-others : goal.returns-clause-others
returns-clause-others g c =
    let m = c.args.system.now in
    let j = c.args.job in
    top_changed m c.args.t j c.requires.job c.are_trees.ensures resumed (λ k. refl) c.go_on.new.tree (c.go_on.ensures.tree ∙ ap (λ r. cond r (with_changed_of m.tree j.top resumed) m.tree) c.if-not-go_on.false)
