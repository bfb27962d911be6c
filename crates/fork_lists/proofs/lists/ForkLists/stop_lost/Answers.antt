use Rattle.std.proofs.Common.{◌∙◌, sym, ap}
use Rattle.fork_lists.specs.declared.seen.Seen.{Seen}
use Rattle.fork_lists.proofs.Folds.{stops_lost, cannot_run}
use Rattle.fork_lists.proofs.lists.ForkLists.stop_lost.Goals as goal

pub returns-then-not-runnable-clause-schedule : goal.returns-then-not-runnable-clause-schedule
returns-then-not-runnable-clause-schedule c =
    c.stop.ensures.stopped
    ∙ stops_lost c.args.tree.now.forks _ c.in-Some.name c.args.self.now.sched (ap (λ (x : Seen). x.fork) (sym c.seen_in-seen.ensures) ∙ c.in-Some.is) (cannot_run c.args.tree.now.forks c.in-Some.name _ c.runnable.ensures c.if-not-runnable.true)
