use Rattle.std.proofs.Common.{refl, subst, sym}
use Rattle.run_console.specs.Command.{IsAsked}
use Rattle.run_console.specs.Headline.{IsTrueOf}
use Rattle.run_console.proofs.Running.{began, unbegun}
use Rattle.run_console.proofs.Statuses.{ran_asked}
use Rattle.run_console.proofs.call.run_command.Goals as goal

pub returns-in-Ok-clause-runs : goal.returns-in-Ok-clause-runs
returns-in-Ok-clause-runs g c =
    let asked = c.in-Ok.ensures.booted in
    began c.args.words.now (g.D.Drum.size c.args.drum.now) _ _ _ _ _ _ c.run.result asked.0 _ (subst (λ n. IsAsked c.args.words.now n asked.0) c.pages.ensures asked.1) asked.2 c.run.ensures.began
    (ran_asked _ asked.0 _ _ _ c.run.result asked.2 (sym asked.3.core_is) (sym asked.3.room_is) c.run.ensures.ran)
    c.run.ensures.judged c.run.ensures.generated c.run.ensures.unread c.run.ensures.caused

pub returns-in-Err-clause-runs : goal.returns-in-Err-clause-runs
returns-in-Err-clause-runs g c =
    unbegun c.args.words.now (g.D.Drum.size c.args.drum.now) _ _ _ _ _ _ _ _ _ _ _ c.in-Err.why c.stop.result c.stop.ensures.stops
    (subst (λ n. IsTrueOf c.args.words.now n c.in-Err.why) c.pages.ensures c.in-Err.ensures.why)
    refl refl c.stop.ensures.out_later c.stop.ensures.rec_later c.stop.ensures.write_cause
