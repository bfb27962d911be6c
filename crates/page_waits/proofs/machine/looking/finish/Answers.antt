use Rattle.std.proofs.Common.{◌≡◌, ℕ, List, [], Bool, cond, true, false, refl, sym, ◌∙◌, ap, subst, arith}
use Rattle.std.specs.Prelude.{◌==◌, Option}
use Rattle.std.proofs.lemmas.Bool.Decides.{nat_tests}
use Rattle.plain_model.specs.Trees.{PlainTree}
use Rattle.fork_lists.specs.Following.{last_counted}
use Rattle.job_sched.specs.Schedules.{Schedule}
use Rattle.fork_lists.specs.Ties.{AreTied}
use Rattle.fork_lists.specs.declared.lists.ForkLists.{ForkLists}
use Rattle.page_contracts.specs.declared.answers.Need.{Need}
use Rattle.page_waits.specs.Told.{ends_quantum}
use Rattle.page_waits.specs.Waits.{AreAwaited, the_lists}
use Rattle.page_waits.proofs.Awaiting.{awaited_same}
use Rattle.page_waits.proofs.Holding.{all_let_go, all_same, owned_of}
use Rattle.page_waits.proofs.InCore.{core_there, counted_waiting}
use Rattle.page_waits.proofs.Staying.{there_then}
use Rattle.page_waits.proofs.machine.looking.finish.Goals as goal

pub release_left-requires-clause-all : goal.release_left-requires-clause-all
release_left-requires-clause-all g c =
    let store = g.S.System.means.store in
    all_same c.args.holders.now (store.holds c.let_go.new.self) (store.holds c.tell.new.system) c.tell.ensures.holds
    (all_let_go c.args.holders.now c.args.head.seat (store.holds c.args.system.now) (store.holds c.let_go.new.self) c.let_go.ensures.lets_go.holds c.requires.all)

pub returns-clause-counted : goal.returns-clause-counted
returns-clause-counted g c = record {
  needs = c.tell.ensures.each.needs;
  counted = c.count_last-ended.ensures.schedule ∙ ap (last_counted c.args.head.fork) c.tell.ensures.each.are;
  ends = c.count_last-ended.ensures.ended ∙ ap (ends_quantum c.args.head.fork) c.tell.ensures.each.are;
}

pub returns-clause-standing : goal.returns-clause-standing
returns-clause-standing g c =
    let left = c.release_left.ensures in
    record {
      awaited =
          awaited_same g.S.System.means the_lists c.tell.new.system c.release_left.new.system (the_lists.waiting c.count_last-ended.new.lists)
          (subst (λ (w : ℕ → Option Need). AreAwaited g.S.System.means w c.tell.new.system) (sym c.count_last-ended.ensures.waiting) c.tell.ensures.awaited) left.queued.queue left.queued.untold;
      told = left.queued.untold ∙ c.tell.ensures.told;
      members =
          let was = c.requires.members in
          let set = c.tell.ensures.seated.set in
          let counted = c.count_last-ended.ensures.set in
          let kept = c.let_go.ensures.lets_go.stays.framed.members in
          let told = c.tell.ensures.members in
          let released = left.there.framed.members in
          omega (arith, was, set, counted, kept, told, released);
      owned = owned_of c.args.holders.now (the_lists.member c.count_last-ended.new.lists) (g.S.System.means.store.holds c.release_left.new.system) left.all left.released;
    }

pub returns-clause-tied : goal.returns-clause-tied
returns-clause-tied g c =
    let now = (g.S.System.means.tree c.release_left.new.system).forks in
    let same = c.release_left.ensures.state.told.tree ∙ c.tell.ensures.state.told.tree ∙ c.let_go.ensures.state.told.tree in
    c.count_last-ended.ensures.tied now (c.tell.ensures.tied now (subst (λ (t : PlainTree). AreTied t.forks c.args.lists.now) (sym same) c.requires.tied))

pub returns-clause-own : goal.returns-clause-own
returns-clause-own g c =
    let itself : (c.args.head.seat == c.args.head.seat) ≡ true = grind (arith, nat_tests) in
    c.release_left.ensures.less c.args.head.seat
    (ap (λ (f : ℕ → List ℕ). f c.args.head.seat) (c.tell.ensures.holds ∙ c.let_go.ensures.lets_go.holds) ∙ ap (λ b. cond b [] (g.S.System.means.store.holds c.args.system.now c.args.head.seat)) itself)

pub returns-clause-bare : goal.returns-clause-bare
returns-clause-bare g c none =
    c.release_left.ensures.less 63
    (ap (λ (f : ℕ → List ℕ). f 63) (c.tell.ensures.holds ∙ c.let_go.ensures.lets_go.holds) ∙ by (63 == c.args.head.seat))
  where
    by : (b : Bool) → cond b [] (g.S.System.means.store.holds c.args.system.now 63) ≡ []
    by true = refl
    by false = none

pub returns-clause-calm : goal.returns-clause-calm
returns-clause-calm g c frames core =
    c.count_last-ended.ensures.schedule ∙ ap (λ (l : ForkLists). last_counted c.args.head.fork l.sched) (c.tell.ensures.none (c.let_go.ensures.lets_go.queued.untold ∙ core.told))

pub returns-clause-core : goal.returns-clause-core
returns-clause-core g c frames core =
    let store = g.S.System.means.store in
    let gone = c.let_go.ensures.lets_go in
    let left = c.release_left.ensures in
    core_there g.S.System.means frames c.args.system.now c.release_left.new.system c.args.lists.now c.count_last-ended.new.lists core
    (there_then store c.args.system.now c.let_go.new.self c.release_left.new.system gone.stays (there_then store c.let_go.new.self c.tell.new.system c.release_left.new.system c.tell.ensures.there left.there))
    (left.queued.queue ∙ c.tell.ensures.queue ∙ gone.queued.queue) (left.queued.untold ∙ c.tell.ensures.told)
    (ap (λ (s : Schedule). s.waiting) c.count_last-ended.ensures.schedule ∙ counted_waiting c.args.head.fork c.tell.new.lists.sched ∙ ap (λ (l : ForkLists). l.sched.waiting) (c.tell.ensures.none (gone.queued.untold ∙ core.told)))

pub returns-clause-frames : goal.returns-clause-frames
returns-clause-frames g c = c.release_left.ensures.there.framed.frames ∙ c.tell.ensures.there.framed.frames ∙ c.let_go.ensures.lets_go.stays.framed.frames
