use Rattle.std.proofs.Common.{[], sym, subst}
use Rattle.std.proofs.lemmas.Result.{IfOk-weaker}
use Rattle.event_deeds.proofs.Leaves.{last_is, last_none}
use Rattle.event_deeds.specs.Deeds.{all_done, over, purpose_done}
use Rattle.event_deeds.specs.declared.answer.Answer.{Answer}
use Rattle.event_deeds.specs.declared.deed.Purpose.{Purpose}
use Rattle.event_deeds.specs.declared.deed.Purpose.TheVariants.{Logout, Run}
use Rattle.monitor_typing.specs.Deeds.{Does}
use Rattle.monitor_typing.specs.Effects.{job_in}
use Rattle.monitor_typing.proofs.CharacterDid.{does_finish, does_first}
use Rattle.monitor_typing.proofs.deeds.finish.Goals as goal

pub returns-in-Some-clause-does : goal.returns-in-Some-clause-does
returns-in-Some-clause-does g c =
    let m = c.args.system.now in
    let t = c.args.t in
    let j = c.args.job in
    subst (Does m m (λ s. all_done s t (job_in m t j) c.args.purpose.now)) (sym c.printed.ensures)
    (does_first m t j c.args.purpose.now c.in-Some.ensures.fork (last_is m.tree c.are_trees.ensures j.top c.in-Some.field-0 c.in-Some.ensures))

pub returns-in-Run-clause-does : goal.returns-in-Run-clause-does
returns-in-Run-clause-does g c =
    let m = c.args.system.now in
    let last = c.run_alone.new.system in
    let t = c.args.t in
    let j = c.args.job in
    IfOk-weaker c.run_alone.result (Does m last (λ s. over (record { state = purpose_done s t (job_in m t j) (Run c.in-Run.name c.in-Run.address); items = [] }))) (Does m last (λ s. all_done s t (job_in m t j) c.args.purpose.now))
    (λ (answer : Answer) does. does_finish m last t j c.requires.job answer c.args.purpose.now (last_none m.tree c.are_trees.ensures j.top c.in-None.ensures)
    (subst (λ (p : Purpose). Does m last (λ s. over (record { state = purpose_done s t (job_in m t j) p; items = [] })) answer) (sym c.in-Run.is) does)) c.run_alone.ensures.does

pub returns-in-Logout-clause-does : goal.returns-in-Logout-clause-does
returns-in-Logout-clause-does g c =
    let m = c.args.system.now in
    let last = c.end_job.new.system in
    let t = c.args.t in
    let j = c.args.job in
    IfOk-weaker c.end_job.result (Does m last (λ s. over (record { state = purpose_done s t (job_in m t j) Logout; items = [] }))) (Does m last (λ s. all_done s t (job_in m t j) c.args.purpose.now))
    (λ (answer : Answer) does. does_finish m last t j c.requires.job answer c.args.purpose.now (last_none m.tree c.are_trees.ensures j.top c.in-None.ensures)
    (subst (λ (p : Purpose). Does m last (λ s. over (record { state = purpose_done s t (job_in m t j) p; items = [] })) answer) (sym c.in-Logout.is) does)) c.end_job.ensures.does
