use Rattle.std.proofs.Common.{◌∙◌, ap, sym, subst}
use Rattle.machine_names.specs.Bounds.{IsTerminal}
use Rattle.fork_calls.proofs.OtherRuns.{body_runs, runs_other}
use Rattle.paged_system.proofs.ListsTied.{can_follow, tied_followed, tied_own}
use Rattle.plain_model.specs.Forks.{runs_in}
use Rattle.plain_model.specs.Trees.{PlainTree}
use Rattle.step_shown.specs.declared.reach.Reach.{Reach}
use Rattle.step_shown.specs.Reaching.{Reaches}
use Rattle.paged_system.proofs.following.follow_reach.Goals as goal

pub follow-requires-clause-can : goal.follow-requires-clause-can
follow-requires-clause-can c =
    let e = c.requires.ended in
    can_follow e.old.forks e.trees.slotted c.args.lists.now e.tied c.args.who.fork.tty c.args.tree.now.forks c.are_trees.ensures.slotted
    (subst (λ (r : Reach). Reaches r c.args.who.fork e.old c.args.tree.now) c.in-Job.is e.reaches)

pub follow_maker-requires : goal.follow_maker-requires
follow_maker-requires c =
    let e = c.requires.ended in
    record {
      can = record {
        old = e.old;
        trees = e.trees;
        tied = e.tied;
        fork = e.runner.fork;
        there = e.runner.there;
        named = e.runner.named;
        runs = e.runner.runs;
        adds = subst (λ (r : Reach). Reaches r c.args.who.fork e.old c.args.tree.now) c.in-Made.is e.reaches;
      };
    }

pub returns-in-Own-clause-tied : goal.returns-in-Own-clause-tied
returns-in-Own-clause-tied c =
    let e = c.requires.ended in
    let own = subst (λ (r : Reach). Reaches r c.args.who.fork e.old c.args.tree.now) c.in-Own.is e.reaches in
    let follows = c.follow_slot.ensures in
    tied_own e.old c.args.tree.now e.trees c.are_trees.ensures c.args.who.fork c.args.who.slot e.runner.fork e.runner.there e.runner.named own.body own.left c.args.lists.now c.follow_slot.new.self e.tied e.runner.runs follows.schedule follows.mine follows.others

pub returns-in-Job-clause-tied : goal.returns-in-Job-clause-tied
returns-in-Job-clause-tied c =
    let e = c.requires.ended in
    let others = subst (λ (r : Reach). Reaches r c.args.who.fork e.old c.args.tree.now) c.in-Job.is e.reaches in
    tied_followed e.old.forks e.trees.slotted c.args.lists.now e.tied c.args.who.fork.tty c.args.tree.now.forks c.are_trees.ensures.slotted others c.follow.new.self c.follow.ensures.follows

pub returns-in-Own-clause-moved : goal.returns-in-Own-clause-moved
returns-in-Own-clause-moved c old trees tied runner reaches slots =
    let forks = c.args.tree.now.forks in
    let own = subst (λ (r : Reach). Reaches r c.args.who.fork old c.args.tree.now) c.in-Own.is reaches in
    c.follow_slot.ensures.schedule ∙ c.following_is_moving.ensures.own old.forks forks c.args.who.fork c.args.lists.now trees.slotted c.are_trees.ensures.slotted tied runner.runs
    (λ f apart. ap (λ (t : PlainTree). runs_in t.forks f) own.left ∙ sym (body_runs old trees c.args.who.fork own.body f apart))

pub returns-in-Made-clause-moved : goal.returns-in-Made-clause-moved
returns-in-Made-clause-moved c old trees tied runner reaches slots =
    c.follow_maker.ensures.schedule ∙ c.following_is_moving.ensures.made c.args.tree.now c.args.who.fork c.args.who.slot c.args.lists.now c.are_trees.ensures (record {
      old = old;
      trees = trees;
      tied = tied;
      fork = runner.fork;
      there = runner.there;
      named = runner.named;
      runs = runner.runs;
      adds = subst (λ (r : Reach). Reaches r c.args.who.fork old c.args.tree.now) c.in-Made.is reaches;
    })

pub returns-in-Job-clause-moved : goal.returns-in-Job-clause-moved
returns-in-Job-clause-moved c old trees tied runner reaches slots =
    let forks = c.args.tree.now.forks in
    let t = c.args.who.fork.tty in
    let others = subst (λ (r : Reach). Reaches r c.args.who.fork old c.args.tree.now) c.in-Job.is reaches in
    let low : IsTerminal t = subst (λ n. IsTerminal n.tty) runner.named (trees.slotted.named runner.fork runner.there.0).0 in
    c.follow.ensures.schedule ∙ c.following_is_moving.ensures.job old.forks forks t c.args.lists.now trees.slotted c.are_trees.ensures.slotted low tied slots
    (λ f apart. sym (runs_other t old.forks forks trees.slotted c.are_trees.ensures.slotted others f apart))
