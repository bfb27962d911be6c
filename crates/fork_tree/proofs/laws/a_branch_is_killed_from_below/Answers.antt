use Rattle.fork_tree.proofs.Branches.{branch_without_leaf, gone_or_left, last_of_branch}
use Rattle.fork_tree.proofs.Leaves.{nobodys_superior}
use Rattle.fork_tree.proofs.laws.a_branch_is_killed_from_below.Goals as goal

pub returns-clause-gone : goal.returns-clause-gone
returns-clause-gone c = gone_or_left

pub returns-clause-leaf : goal.returns-clause-leaf
returns-clause-leaf c = λ tree who f is leaf. branch_without_leaf tree is f leaf.lives (nobodys_superior tree is f leaf.lives leaf.leaf) who leaf.below

pub returns-clause-last : goal.returns-clause-last
returns-clause-last c = last_of_branch
