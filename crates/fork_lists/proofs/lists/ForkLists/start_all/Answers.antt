use Rattle.std.proofs.Common.{◌+◌, ◌∙◌, List, Vec, Global, ap, refl, sym, arith}
use Rattle.job_sched.specs.Schedules.{Schedule}
use Rattle.plain_model.specs.Forks.{fork_in}
use Rattle.fork_lists.specs.declared.seen.Seen.{Seen}
use Rattle.fork_lists.specs.Choices.{picked}
use Rattle.fork_lists.specs.Following.{picks_started, started_if}
use Rattle.fork_lists.proofs.Folds.{all_slots, none_left, one_more, slots_from}
use Rattle.fork_lists.proofs.lists.ForkLists.start_all.Goals as goal

pub loop-slot-init : goal.loop-slot-init
loop-slot-init c = record {
  schedule = ap (picks_started c.args.tree.now.forks (picked c.args.self.now.seen.items c.args.t c.args.choice) c.args.t c.args.self.now.sched) all_slots;
  living = c.requires.living;
  seen = refl;
}

pub loop-slot-preserved : goal.loop-slot-preserved
loop-slot-preserved c =
    let kept = c.loop-slot.invariant in
    let forks = c.args.tree.now.forks in
    let starts = picks_started forks (picked c.args.self.now.seen.items c.args.t c.args.choice) c.args.t in
    record {
      schedule =
          ap (λ (s : Schedule). starts s (slots_from (c.loop-slot.slot + 1))) (c.start_picked.ensures.schedule
          ∙ ap (λ (seen : List Seen). started_if forks (picked seen c.args.t c.args.choice c.loop-slot.slot) (fork_in forks c.args.t c.loop-slot.slot) c.loop-slot.self.sched) (ap (λ (v : Vec Seen Global). v.items) kept.seen))
          ∙ sym (ap (starts c.loop-slot.self.sched) (one_more c.loop-slot.slot (omega arith))) ∙ kept.schedule;
      living = c.start_picked.ensures.living;
      seen = c.start_picked.ensures.seen ∙ kept.seen;
    }

pub start_picked-requires-clause-living : goal.start_picked-requires-clause-living
start_picked-requires-clause-living c = c.loop-slot.invariant.living

pub returns-clause-schedule : goal.returns-clause-schedule
returns-clause-schedule c =
    sym (ap (picks_started c.args.tree.now.forks (picked c.args.self.now.seen.items c.args.t c.args.choice) c.args.t c.loop-slot.self.sched) (none_left c.loop-slot.slot (omega arith))) ∙ c.loop-slot.invariant.schedule
