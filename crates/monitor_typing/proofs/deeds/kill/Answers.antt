use Rattle.std.proofs.Common.{◌∙◌, sym, subst}
use Rattle.std.proofs.lemmas.Result.{IfOk-weaker}
use Rattle.event_deeds.specs.Deeds.{one_killed, deed}
use Rattle.event_deeds.specs.declared.answer.Answer.{Answer}
use Rattle.event_deeds.specs.declared.deed.Deed.TheVariants.{Kill}
use Rattle.monitor_calls.proofs.Sounds.{entry_read, job_read}
use Rattle.monitor_typing.specs.Deeds.{Does}
use Rattle.monitor_typing.proofs.CharacterDid.{does_kill_of, kills_nothing}
use Rattle.monitor_typing.proofs.deeds.kill.Goals as goal

pub returns-in-Some-clause-does : goal.returns-in-Some-clause-does
returns-in-Some-clause-does g c =
    let m = c.args.system.now in
    let last = c.kill_one.new.system in
    let at = job_read m.jobs.items c.args.t.0 c.index.result.now c.in-Some.job m.sound.job_room c.requires.terminal c.index.ensures c.in-Some.is in
    IfOk-weaker c.kill_one.result (Does m last (λ s. one_killed s c.args.t c.args.purpose c.in-Some.job.top)) (Does m last (λ s. deed s (Kill c.args.t c.args.purpose)))
    (λ (answer : Answer) does. does_kill_of m last c.args.t c.in-Some.job at answer c.args.purpose does) c.kill_one.ensures.does

pub returns-in-None-clause-does : goal.returns-in-None-clause-does
returns-in-None-clause-does g c =
    let m = c.args.system.now in
    let none = entry_read m.jobs.items c.args.t.0 c.index.result.now m.sound.job_room c.requires.terminal c.index.ensures ∙ c.in-None.is in
    subst (Does m m (λ s. deed s (Kill c.args.t c.args.purpose))) (sym c.printed.ensures) (kills_nothing m c.args.t none c.args.purpose)
