use Rattle.std.proofs.Common.{◌+◌, ◌∙◌, List, Vec, Global, ap, refl, sym, arith}
use Rattle.job_sched.specs.Schedules.{Schedule}
use Rattle.fork_lists.specs.declared.seen.Seen.{Seen}
use Rattle.fork_lists.specs.Following.{lost_stopped, stopped_if}
use Rattle.fork_lists.specs.Seeing.{seen_in}
use Rattle.fork_lists.proofs.Folds.{all_slots, none_left, one_more, slots_from}
use Rattle.fork_lists.proofs.lists.ForkLists.stop_all.Goals as goal

pub loop-slot-init : goal.loop-slot-init
loop-slot-init c = record {
  schedule = ap (lost_stopped c.args.tree.now.forks c.args.self.now.seen.items c.args.t c.args.self.now.sched) all_slots;
  seen = refl;
}

pub loop-slot-preserved : goal.loop-slot-preserved
loop-slot-preserved c =
    let kept = c.loop-slot.invariant in
    let stops = lost_stopped c.args.tree.now.forks c.args.self.now.seen.items c.args.t in
    record {
      schedule =
          ap (λ (s : Schedule). stops s (slots_from (c.loop-slot.slot + 1))) (c.stop_lost.ensures.schedule ∙ ap (λ (seen : List Seen). stopped_if c.args.tree.now.forks (seen_in seen c.args.t c.loop-slot.slot).fork c.loop-slot.self.sched) (ap (λ (v : Vec Seen Global). v.items) kept.seen))
          ∙ sym (ap (stops c.loop-slot.self.sched) (one_more c.loop-slot.slot (omega arith))) ∙ kept.schedule;
      seen = c.stop_lost.ensures.seen ∙ kept.seen;
    }

pub returns-clause-schedule : goal.returns-clause-schedule
returns-clause-schedule c =
    sym (ap (lost_stopped c.args.tree.now.forks c.args.self.now.seen.items c.args.t c.loop-slot.self.sched) (none_left c.loop-slot.slot (omega arith))) ∙ c.loop-slot.invariant.schedule
