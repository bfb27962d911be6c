use Rattle.std.proofs.Common.{◌∙◌, ap, sym, subst, Vec, Global}
use Rattle.job_sched.specs.Schedules.{Schedule}
use Rattle.fork_lists.specs.declared.following.Choice.TheVariants.{Others}
use Rattle.fork_lists.specs.declared.seen.Seen.{Seen}
use Rattle.fork_lists.specs.Choices.{picked}
use Rattle.fork_lists.specs.Following.{picks_started}
use Rattle.fork_lists.specs.Seeing.{has_waited, job_slots, seen_in}
use Rattle.fork_lists.specs.Ties.{Living}
use Rattle.fork_lists.proofs.Tied.{left_living}
use Rattle.fork_lists.proofs.Followed.{come_on, follows_all}
use Rattle.fork_lists.proofs.lists.ForkLists.follow.Goals as goal

pub start_waiters-requires-clause-living : goal.start_waiters-requires-clause-living
start_waiters-requires-clause-living c =
    let old = c.args.self.now in
    subst (Living c.args.tree.now.forks) (sym c.stop_all.ensures.schedule)
    (left_living c.args.tree.now.forks c.are_trees.ensures.slotted old.seen.items c.args.t old.sched c.requires.can.mine old.named c.requires.terminal c.requires.can.others)

pub returns-clause-schedule : goal.returns-clause-schedule
returns-clause-schedule c =
    let forks = c.args.tree.now.forks in
    let first = c.stop_all.ensures.seen in
    let second = c.start_waiters.ensures.seen ∙ first in
    c.note_all.ensures.schedule ∙ c.start_all.ensures.schedule
    ∙ ap (λ (v : Vec Seen Global). picks_started forks (picked v.items c.args.t Others) c.args.t c.start_waiters.new.self.sched job_slots) second
    ∙ ap (λ (s : Schedule). picks_started forks (picked c.args.self.now.seen.items c.args.t Others) c.args.t s job_slots) (
    c.start_waiters.ensures.schedule
    ∙ ap (λ (v : Vec Seen Global). picks_started forks (has_waited v.items c.args.t) c.args.t c.stop_all.new.self.sched job_slots) first
    ∙ ap (λ (s : Schedule). picks_started forks (has_waited c.args.self.now.seen.items c.args.t) c.args.t s job_slots) c.stop_all.ensures.schedule
    )

pub returns-clause-follows : goal.returns-clause-follows
returns-clause-follows c =
    let seen = c.start_all.ensures.seen ∙ c.start_waiters.ensures.seen ∙ c.stop_all.ensures.seen in
    follows_all c.args.tree.now.forks c.are_trees.ensures.slotted c.args.self.now c.note_all.new.self c.args.t c.requires.terminal c.requires.can (returns-clause-schedule c) c.note_all.ensures.mine
    (λ u slot other first last. c.note_all.ensures.others u slot other first last ∙ ap (λ (v : Vec Seen Global). seen_in v.items u slot) seen)

pub returns-clause-comes_on : goal.returns-clause-comes_on
returns-clause-comes_on c = come_on c.args.tree.now.forks c.are_trees.ensures.slotted c.args.self.now c.note_all.new.self c.args.t c.requires.terminal c.requires.can (returns-clause-schedule c) c.sound.ensures
