use Rattle.std.proofs.Common.{Some, refl, sym, ◌∙◌, ap, subst}
use Rattle.fork_lists.specs.declared.lists.ForkLists.{ForkLists}
use Rattle.fork_lists.specs.Ties.{ComesOn}
use Rattle.fork_lists.proofs.Folds.{cannot_run, does_run, runs_on, stops_lost}
use Rattle.fork_lists.proofs.Nearing.{stop_keeps, stop_nears, stop_size}
use Rattle.job_sched.specs.Schedules.{Schedule, size}
use Rattle.job_sched.specs.Ties.{WaitsLess}
use Rattle.fork_lists.proofs.lists.ForkLists.follow_slot.Goals as goal
use Rattle.fork_lists.proofs.lists.ForkLists.follow_slot.Goals.{then-not-runnable, else-not-runnable}

pub returns-clause-schedule : goal.returns-clause-schedule
returns-clause-schedule c =
    let forks = c.args.tree.now.forks in
    c.note.ensures.schedule ∙ elim c.if-not-runnable.branch [
      | then-not-runnable w ↦
          ap (λ (l : ForkLists). l.sched) w.self-is ∙ w.stop.ensures.stopped
          ∙ stops_lost forks (Some c.args.who) c.args.who c.args.self.now.sched refl (cannot_run forks c.args.who c.runnable.result c.runnable.ensures w.if-not-runnable.true)
      | else-not-runnable w ↦
          ap (λ (l : ForkLists). l.sched) w.self-is
          ∙ runs_on forks c.args.who c.args.self.now.sched (sym (does_run forks c.args.who c.runnable.result c.runnable.ensures) ∙ w.if-not-runnable.false)
    ]

pub returns-clause-comes_on : goal.returns-clause-comes_on
returns-clause-comes_on c f runs here =
    subst (ComesOn f c.args.self.now.sched) (sym (returns-clause-schedule c)) (stop_nears c.args.tree.now.forks f runs (Some c.args.who) c.args.self.now.sched c.sound.ensures.timed here)

pub returns-clause-waits : goal.returns-clause-waits
returns-clause-waits c =
    subst (λ (s : Schedule). WaitsLess c.args.self.now.sched.waiting s.waiting) (sym (returns-clause-schedule c)) (stop_keeps c.args.tree.now.forks (Some c.args.who) c.args.self.now.sched)

pub returns-clause-set : goal.returns-clause-set
returns-clause-set c = ap size (returns-clause-schedule c) ∙ stop_size c.args.tree.now.forks (Some c.args.who) c.args.self.now.sched
