use Rattle.std.proofs.Common.{Option, ap, subst}
use Rattle.std.specs.Prelude.{MatchOption, Ok}
use Rattle.page_waits.specs.InCore.{IdledCalmly, RanCalmly}
use Rattle.page_waits.specs.declared.turn.Done.{Done}
use Rattle.page_waits.proofs.machine.Machine.turns.Goals as goal

pub returns-in-None-clause-turned : goal.returns-in-None-clause-turned
returns-in-None-clause-turned g c = c.in_ok-u.ensures.idled c.idle_turns.result (ap Ok c.in-None.is)

pub returns-in-Some-clause-calm : goal.returns-in-Some-clause-calm
returns-in-Some-clause-calm g c frames d fits core roomy =
    let means = g.S.System.means in
    let old = c.args.self.now in
    let new = c.look.new.self in
    subst (λ (o : Option Done). MatchOption o (IdledCalmly means old.system new.system old.lists new.lists) (λ u. RanCalmly means frames u old.system new.system old.lists new.lists)) c.in-Some.is (c.in_ok-u.ensures.calm frames d fits core roomy)

pub returns-in-None-clause-calm : goal.returns-in-None-clause-calm
returns-in-None-clause-calm g c frames d fits core roomy =
    let means = g.S.System.means in
    let old = c.args.self.now in
    let new = c.look.new.self in
    subst (λ (o : Option Done). MatchOption o (IdledCalmly means old.system new.system old.lists new.lists) (λ u. RanCalmly means frames u old.system new.system old.lists new.lists)) c.in-None.is (c.in_ok-u.ensures.calm frames d fits core roomy)
