use Rattle.std.proofs.Common.{◌∙◌, sym}
use Rattle.fork_lists.specs.Choices.{picked}
use Rattle.plain_model.specs.Forks.{fork_in}
use Rattle.fork_lists.proofs.Tied.{has_room, living_started, slot_lives}
use Rattle.fork_lists.proofs.Folds.{starts_none, starts_there}
use Rattle.job_sched.specs.Schedules.{Schedule}
use Rattle.fork_lists.specs.Ties.{Living}
use Rattle.std.proofs.Common.{subst}
use Rattle.fork_lists.proofs.lists.ForkLists.start_picked.Goals as goal

pub start-requires-clause-room : goal.start-requires-clause-room
start-requires-clause-room c = λ none.
    let tree = c.in-Some.ensures.tree in
    has_room c.args.tree.now.forks tree.slotted c.args.self.now.sched c.in-Some.fork.now.name c.sound.ensures.apart c.requires.living (slot_lives c.args.tree.now.forks tree.slotted c.args.t c.args.slot c.in-Some.fork.now (sym c.in-Some.ensures.found)) none

pub returns-then-is_started-clause-schedule : goal.returns-then-is_started-clause-schedule
returns-then-is_started-clause-schedule c =
    c.start.ensures.started ∙ starts_there c.args.tree.now.forks (picked c.args.self.now.seen.items c.args.t c.args.choice c.args.slot) (fork_in c.args.tree.now.forks c.args.t c.args.slot) c.in-Some.fork.now c.args.self.now.sched (sym c.in-Some.ensures.found) (sym c.is_started.ensures ∙ c.if-is_started.true)

pub returns-then-is_started-clause-living : goal.returns-then-is_started-clause-living
returns-then-is_started-clause-living c =
    let tree = c.in-Some.ensures.tree in
    subst (λ (s : Schedule). Living c.args.tree.now.forks s) (sym c.start.ensures.started)
    (living_started c.args.tree.now.forks c.args.self.now.sched c.in-Some.fork.now.name c.requires.living (slot_lives c.args.tree.now.forks tree.slotted c.args.t c.args.slot c.in-Some.fork.now (sym c.in-Some.ensures.found)))

pub returns-else-is_started-clause-schedule : goal.returns-else-is_started-clause-schedule
returns-else-is_started-clause-schedule c =
    starts_none c.args.tree.now.forks (picked c.args.self.now.seen.items c.args.t c.args.choice c.args.slot) (fork_in c.args.tree.now.forks c.args.t c.args.slot) c.in-Some.fork.now c.args.self.now.sched (sym c.in-Some.ensures.found) (sym c.is_started.ensures ∙ c.if-is_started.false)
