use Rattle.std.proofs.Common.{◌∙◌, sym, subst}
use Rattle.std.proofs.lemmas.Result.{IfOk-weaker}
use Rattle.event_deeds.specs.Deeds.{all_done, deed}
use Rattle.event_deeds.specs.declared.answer.Answer.{Answer}
use Rattle.event_deeds.specs.declared.deed.Deed.TheVariants.{End}
use Rattle.monitor_calls.proofs.Sounds.{entry_read, job_read}
use Rattle.monitor_typing.specs.Deeds.{Does}
use Rattle.monitor_typing.specs.Effects.{job_in}
use Rattle.monitor_typing.proofs.CharacterDid.{does_end_of, ends_nothing}
use Rattle.monitor_typing.proofs.deeds.end.Goals as goal

pub returns-in-Some-clause-does : goal.returns-in-Some-clause-does
returns-in-Some-clause-does g c =
    let m = c.args.system.now in
    let last = c.finish.new.system in
    let at = job_read m.jobs.items c.args.t.0 c.index.result.now c.in-Some.job m.sound.job_room c.requires.terminal c.index.ensures c.in-Some.is in
    IfOk-weaker c.finish.result (Does m last (λ s. all_done s c.args.t (job_in m c.args.t c.in-Some.job) c.args.purpose.now)) (Does m last (λ s. deed s (End c.args.t c.args.purpose.now)))
    (λ (answer : Answer) does. does_end_of m last c.args.t c.in-Some.job at answer c.args.purpose.now does) c.finish.ensures.does

pub returns-in-None-clause-does : goal.returns-in-None-clause-does
returns-in-None-clause-does g c =
    let m = c.args.system.now in
    let none = entry_read m.jobs.items c.args.t.0 c.index.result.now m.sound.job_room c.requires.terminal c.index.ensures ∙ c.in-None.is in
    subst (Does m m (λ s. deed s (End c.args.t c.args.purpose.now))) (sym c.printed.ensures) (ends_nothing m c.args.t none c.args.purpose.now)
