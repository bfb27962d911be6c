use Rattle.std.proofs.Common.{◌∙◌, sym, subst}
use Rattle.std.proofs.lemmas.Result.{IfOk-weaker}
use Rattle.event_deeds.specs.Deeds.{begun, deed}
use Rattle.event_deeds.specs.declared.answer.Answer.{Answer}
use Rattle.event_deeds.specs.declared.deed.Deed.TheVariants.{Begin}
use Rattle.monitor_calls.proofs.Sounds.{entry_read, job_read}
use Rattle.monitor_typing.specs.Deeds.{Does}
use Rattle.monitor_typing.proofs.CharacterDid.{does_begin, begins_nothing}
use Rattle.monitor_typing.proofs.deeds.begin.Goals as goal

pub returns-in-Some-clause-does : goal.returns-in-Some-clause-does
returns-in-Some-clause-does g c =
    let m = c.args.system.now in
    let last = m in
    let at = job_read m.jobs.items c.args.t.0 c.index.result.now c.in-Some.field-0 m.sound.job_room c.requires.terminal c.index.ensures c.in-Some.is in
    IfOk-weaker c.look_up.result (Does m last (λ s. begun s c.args.t c.args.name.now)) (Does m last (λ s. deed s (Begin c.args.t c.args.name.now)))
    (λ (answer : Answer) does. does_begin m last c.args.t c.in-Some.field-0 at answer c.args.name.now does) c.look_up.ensures.does

pub returns-in-None-clause-does : goal.returns-in-None-clause-does
returns-in-None-clause-does g c =
    let m = c.args.system.now in
    let none = entry_read m.jobs.items c.args.t.0 c.index.result.now m.sound.job_room c.requires.terminal c.index.ensures ∙ c.in-None.is in
    subst (Does m m (λ s. deed s (Begin c.args.t c.args.name.now))) (sym c.printed.ensures) (begins_nothing m c.args.t none c.args.name.now)
