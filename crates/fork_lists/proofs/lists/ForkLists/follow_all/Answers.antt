use Rattle.std.proofs.Common.{◌∙◌, ap, sym, arith}
use Rattle.fork_lists.specs.Following.{followed_all}
use Rattle.fork_lists.proofs.Alike.{no_job}
use Rattle.fork_lists.proofs.AllFollowed.{all_done, all_more, can_each, none_done}
use Rattle.fork_lists.proofs.lists.ForkLists.follow_all.Goals as goal

pub loop-t-init : goal.loop-t-init
loop-t-init c = none_done c.args.tree.now.forks c.args.self.now c.sound.ensures c.requires.can.living

pub follow-requires-clause-can : goal.follow-requires-clause-can
follow-requires-clause-can c = can_each c.args.tree.now.forks c.args.self.now c.loop-t.self c.loop-t.t c.loop-t-test.true c.requires.can c.loop-t.invariant

pub loop-t-preserved : goal.loop-t-preserved
loop-t-preserved c = all_more c.args.tree.now.forks c.args.self.now c.are_trees.ensures.slotted c.loop-t.self c.follow.new.self c.loop-t.t c.loop-t-test.true c.loop-t.invariant c.follow.ensures.schedule c.follow.ensures.follows c.follow.ensures.comes_on

pub returns-clause-follows : goal.returns-clause-follows
returns-clause-follows c = all_done c.args.tree.now.forks c.args.self.now c.are_trees.ensures.slotted c.loop-t.self c.loop-t.t (omega arith) c.loop-t.invariant

pub returns-clause-schedule : goal.returns-clause-schedule
returns-clause-schedule c = sym (ap (followed_all c.args.tree.now.forks c.args.self.now.seen.items c.loop-t.self.sched) (no_job c.loop-t.t (omega arith))) ∙ c.loop-t.invariant.schedule
