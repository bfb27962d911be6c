use Rattle.std.proofs.Common.{[], Some, set, refl, sym, ◌∙◌, ap, subst, length-set}
use Rattle.std.specs.Prelude.{IsSome}
use Rattle.word36.specs.Words.{right}
use Rattle.event_deeds.specs.Deeds.{over, purpose_done}
use Rattle.event_deeds.specs.declared.answer.Answer.{Answer}
use Rattle.event_deeds.specs.declared.deed.Purpose.TheVariants.{Run}
use Rattle.file_tables.specs.Tables.{open_of}
use Rattle.plain_model.specs.InterruptCalls.{living_codes}
use Rattle.monitor_calls.specs.declared.typing.Typing.{Typing}
use Rattle.monitor_calls.specs.Typings.{new_typing}
use Rattle.monitor_calls.proofs.Sounds.{same_tops_set, stands}
use Rattle.monitor_typing.specs.Deeds.{Does}
use Rattle.monitor_typing.specs.Reaching.{PartReaches}
use Rattle.monitor_typing.specs.Effects.{job_in}
use Rattle.monitor_typing.proofs.EndDid.{does_no_run, does_run, right_half}
use Rattle.monitor_core.proofs.FileDid.{is_missing}
use Rattle.monitor_core.proofs.SoundKept.{sound_came}
use Rattle.monitor_typing.proofs.CharacterOthers.{top_left}
use Rattle.monitor_core.proofs.Systems.{top_fork_of, unheld_still}
use Rattle.monitor_typing.proofs.TypeDid.{low_job, low_typed}
use Rattle.monitor_typing.proofs.deeds.run_alone.Goals as goal

pub begin_program-requires-clause-lives : goal.begin_program-requires-clause-lives
begin_program-requires-clause-lives g c = let k = top_fork_of c.args.system.now c.args.t.0 c.args.job c.requires.job in subst IsSome (sym k.1) refl

pub returns-in_default-clause-does : goal.returns-in_default-clause-does
returns-in_default-clause-does g c =
    let m = c.args.system.now in
    let t = c.args.t in
    let name = c.args.name.now in
    subst (Does m _ (λ s. over (record { state = purpose_done s t (job_in m t c.args.job) (Run name c.args.address); items = [] }))) (sym c.printed.ensures)
    (does_no_run m _ t c.args.job name c.args.address refl refl refl refl refl refl (is_missing m.files name c.find.result c.find.ensures.found c.in_default.not-Some))

pub invariant_of-system-in-Ok : goal.invariant_of-system-in-Ok
invariant_of-system-in-Ok g c =
    let m = c.args.system.now in
    let j = c.args.job in
    let left = c.in-Ok.ensures.leaves in
    let jobs = set m.jobs.items c.args.t.0 (Some _) in
    let tops = same_tops_set m.jobs.items c.args.t.0 j _ (low_job m m c.args.t j c.requires.job) c.requires.job refl in
    record {
      sound = sound_came g.P.Pages.means m.pages c.begin_program.new.pages m.tree c.begin_program.new.tree m.jobs.items m.sound jobs tops left.holds left.kept left.tops;
      unheld = unheld_still (open_of m.files) m.jobs.items jobs m.unheld tops;
      typing_room = length-set m.typed.items c.args.t.0 _ ∙ m.typing_room;
    }

pub returns-in-Ok-clause-does : goal.returns-in-Ok-clause-does
returns-in-Ok-clause-does g c =
    let m = c.args.system.now in
    let t = c.args.t in
    let j = c.args.job in
    let found = c.in-Some.ensures.found in
    let at = c.index_mut-in-Ok.ensures.value ∙ stands m.typed.items t.0 c.index_mut-in-Ok.result.now new_typing (low_typed m m t j c.requires.job) in
    subst (Does m _ (λ s. over (record { state = purpose_done s t (job_in m t j) (Run c.args.name.now c.args.address); items = [] }))) (sym c.printed-in-Ok.ensures)
    (does_run m _ t j c.requires.job c.args.name.now c.in-Some.file.0 found.0 found.1 refl refl c.in-Ok.ensures.leaves c.args.address c.join.result
    (ap right c.join.ensures ∙ right_half c.args.address c.requires.address) _ refl
    (λ i. record (at i) { input = (c.forget_lost.ensures ∙ ap (λ (y : Typing). record y.input { codes = living_codes c.begin_program.new.tree.forks y.input.codes }) at) i }) refl c.in-Ok.ensures.told)

pub returns-in-Ok-clause-others : goal.returns-in-Ok-clause-others
returns-in-Ok-clause-others g c =
    let m = c.args.system.now in
    let new = c.begin_program.new.tree.forks in
    subst (λ (a : Answer). PartReaches a.showing m.tree.forks new) (sym c.printed-in-Ok.ensures) (top_left m c.args.t c.args.job c.requires.job new c.are_trees.ensures.slotted c.in-Ok.ensures.leaves.kept c.in-Ok.ensures.leaves.others)
