use Rattle.fork_lists.proofs.AllFollowed.{FollowedTo}
use Rattle.fork_lists.proofs.lists.ForkLists.follow_all.Given as goal

abbrev pub invariant-loop-t : goal.invariant-loop-t
invariant-loop-t l = FollowedTo l.tree.forks l.fn.self l.self l.t
