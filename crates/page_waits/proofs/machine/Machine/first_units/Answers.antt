use Rattle.std.proofs.Common.{ℕ, ◌∙◌, subst}
use Rattle.std.specs.Prelude.{IsSomeAnd, None, Option}
use Rattle.machine_names.specs.declared.names.ForkName.{ForkName}
use Rattle.plain_model.specs.Trees.{PlainTree}
use Rattle.page_waits.specs.Calm.{IsRoomy}
use Rattle.page_waits.specs.Holders.{AreReleased}
use Rattle.page_waits.specs.InCore.{RanCalmly}
use Rattle.page_waits.specs.Told.{TookRow}
use Rattle.page_waits.specs.Waits.{the_lists}
use Rattle.page_waits.specs.declared.turn.Done.{Done}
use Rattle.page_waits.proofs.InCore.{from_calm}
use Rattle.page_waits.proofs.Quieting.{still_then}
use Rattle.page_waits.proofs.Silence.{row_behind, silent_then}
use Rattle.page_waits.proofs.machine.Machine.first_units.Goals as goal

pub returns-in-Some-plan-clause-row : goal.returns-in-Some-plan-clause-row
returns-in-Some-plan-clause-row g c =
    let u = c.in-Some-plan.u in
    let after = (g.S.System.means.tree c.plan.new.self.system).forks in
    row_behind u.fork u.progress.count u.ended (g.S.System.means.tree c.args.self.now.system).forks after c.args.self.now.lists.sched c.loop-head.self.lists.sched c.plan.new.self.lists.sched c.loop-head.invariant.silent
    (subst (λ (t : PlainTree). TookRow u.fork u.progress.count u.ended t.forks after c.loop-head.self.lists.sched c.plan.new.self.lists.sched) c.loop-head.invariant.still.told.tree c.in-Some-plan.ensures.row)

pub returns-in-Some-plan-clause-released : goal.returns-in-Some-plan-clause-released
returns-in-Some-plan-clause-released g c =
    subst (λ (m : ℕ → Option ForkName). AreReleased m (the_lists.member c.plan.new.self.lists) (g.S.System.means.store.holds c.plan.new.self.system)) c.loop-head.invariant.seated c.in-Some-plan.ensures.released

pub loop-head-preserved : goal.loop-head-preserved
loop-head-preserved g c =
    let i = c.loop-head.invariant in
    let none = c.in_default-plan.is in
    let old = c.args.self.now in
    let mid = c.loop-head.self in
    let new = c.plan.new.self in
    let still = c.plan.ensures.still none in
    record {
      still = still_then g.S.System.means the_lists None None None None old.system mid.system new.system old.lists mid.lists new.lists i.still still;
      mark = c.plan.ensures.mark ∙ i.mark;
      silent = silent_then old.lists.sched mid.lists.sched new.lists.sched i.silent (c.plan.ensures.silent none);
      seated = c.plan.ensures.seated none ∙ i.seated;
      within = λ n w. still.told.within n (i.within n w);
      limit = c.plan.ensures.limit ∙ i.limit;
      frames = c.plan.ensures.frames ∙ i.frames;
      bare = c.plan.ensures.bare;
      calm = λ frames d fits core roomy.
          absurd (from_calm g.S.System.means IsRoomy old.system mid.system old.lists mid.lists i.calm frames d fits core roomy (λ t m. ⊥)
          (λ f k r. subst (λ (o : Option Done). IsSomeAnd o (λ u. RanCalmly g.S.System.means frames u mid.system new.system mid.lists new.lists)) none (c.plan.ensures.calm frames d f k r)));
    }

pub returns-in-Some-plan-clause-calm : goal.returns-in-Some-plan-clause-calm
returns-in-Some-plan-clause-calm g c frames d fits core roomy =
    let old = c.args.self.now in
    let mid = c.loop-head.self in
    let new = c.plan.new.self in
    from_calm g.S.System.means IsRoomy old.system mid.system old.lists mid.lists c.loop-head.invariant.calm frames d fits core roomy
    (λ t m. RanCalmly g.S.System.means frames c.in-Some-plan.u t new.system m new.lists) (λ f k r. c.in-Some-plan.ensures.calm frames d f k r)
