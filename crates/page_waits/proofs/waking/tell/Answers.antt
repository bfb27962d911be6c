use Rattle.std.proofs.Common.{◌≡◌, List, [], ◌∷◌, ◌∙◌, ap, sym}
use Rattle.page_contracts.specs.declared.answers.Need.{Need}
use Rattle.page_waits.specs.Told.{all_arrived}
use Rattle.page_waits.specs.Waits.{the_lists}
use Rattle.page_waits.proofs.Awaiting.{awaited_told}
use Rattle.page_waits.proofs.Silence.{told_more}
use Rattle.page_waits.proofs.Staying.{state_then, seated_then, there_then}
use Rattle.page_waits.proofs.waking.tell.Goals as goal

pub loop-need-preserved : goal.loop-need-preserved
loop-need-preserved g c =
    let i = c.loop-need.invariant in
    record {
      awaited = awaited_told g.S.System.means the_lists c.in-Some.need c.loop-need.system c.cancelled.new.self (the_lists.waiting c.loop-need.lists) (the_lists.waiting c.wake.new.lists) i.awaited c.in-Some.ensures.tells c.wake.ensures.wakes.waiting;
      state = state_then g.S.System.means c.args.system.now c.loop-need.system c.cancelled.new.self i.state c.in-Some.ensures.state;
      each = told_more c.args.lists.now.sched c.loop-need.lists.sched c.wake.new.lists.sched c.in-Some.need i.each c.wake.ensures.schedule;
      all =
          ap (all_arrived (g.S.System.means.store.untold c.cancelled.new.self)) c.wake.ensures.schedule
          ∙ ap (λ (needs : List Need). all_arrived needs c.loop-need.lists.sched) (sym c.in-Some.ensures.tells.untold) ∙ i.all;
      seated = seated_then the_lists c.args.lists.now c.loop-need.lists c.wake.new.lists i.seated c.wake.ensures.wakes.seated;
      tied = λ forks t. c.wake.ensures.tied forks (i.tied forks t);
      holds = c.in-Some.ensures.tells.holds ∙ i.holds;
      members = c.in-Some.ensures.tells.stays.framed.members ∙ i.members;
      there = there_then g.S.System.means.store c.args.system.now c.loop-need.system c.cancelled.new.self i.there c.in-Some.ensures.tells.stays;
      queue = c.in-Some.ensures.tells.queue ∙ i.queue;
      none = λ none. absurd (some_told (sym c.in-Some.ensures.tells.untold ∙ (i.none none).1));
    }
  where
    some_told : {A : Type 0} {x : A} {xs : List A} → x ∷ xs ≡ [] → ⊥
    some_told e = cc e
