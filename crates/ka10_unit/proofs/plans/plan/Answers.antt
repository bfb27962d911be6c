use Rattle.ka10_unit.specs.Gathers.{framed}
use Rattle.ka10_unit.proofs.Adding.{sound_as}
use Rattle.ka10_unit.proofs.Stepping.{none_stands, plan_stops, plan_goes}
use Rattle.ka10_unit.proofs.Lost.{stop_plan}
use Rattle.ka10_unit.proofs.plans.plan.Goals as goal

pub returns-in-Err-clause-told : goal.returns-in-Err-clause-told
returns-in-Err-clause-told g c d fits =
    let stands = none_stands _ (framed g.P.Pages.means c.args.pages.now d) c.args.regs.now c.restart.new.self c.restart.ensures.fork (c.restart.ensures.told _ _ (sound_as g.P.Pages.means c.args.pages.now _ (g.met.P.Pages.whole c.args.pages.now d fits) (g.met.P.Pages.agrees c.args.pages.now d fits))) c.restart.ensures.kept in
    rw c.stopped.ensures.plan (plan_stops _ _ c.args.regs.now _ _ c.in-Err.stop c.restart.ensures.gather c.restart.ensures.refs c.restart.ensures.kept (c.in-Err.ensures.told d c.args.fork fits stands))

pub returns-in-Ok-clause-told : goal.returns-in-Ok-clause-told
returns-in-Ok-clause-told g c d fits =
    let stands = none_stands _ (framed g.P.Pages.means c.args.pages.now d) c.args.regs.now c.restart.new.self c.restart.ensures.fork (c.restart.ensures.told _ _ (sound_as g.P.Pages.means c.args.pages.now _ (g.met.P.Pages.whole c.args.pages.now d fits) (g.met.P.Pages.agrees c.args.pages.now d fits))) c.restart.ensures.kept in
    let first = c.in-Ok.ensures.told d c.args.fork fits stands in
    plan_goes _ _ c.args.regs.now _ _ _ c.in-Ok.word _ c.restart.ensures.gather c.restart.ensures.refs c.restart.ensures.kept first (c.follow.ensures.told d c.args.fork fits first.stands)

pub returns-in-Err-clause-needs : goal.returns-in-Err-clause-needs
returns-in-Err-clause-needs g c = rw c.stopped.ensures.plan (stop_plan g.P.Pages.means.store c.args.pages.now c.in-Err.stop c.in-Err.ensures.needs.1)

pub returns-in-Err-clause-core : goal.returns-in-Err-clause-core
returns-in-Err-clause-core g c = λ flat. c.stopped.ensures.core (c.in-Err.ensures.needs.0 flat)
