use Rattle.fork_tree.proofs.Killing.{killed_branch, killed_last, leaf_first, without_none}
use Rattle.fork_tree.proofs.laws.a_killed_fork_takes_its_branch.Goals as goal

pub returns-clause-branch : goal.returns-clause-branch
returns-clause-branch c = killed_branch

pub returns-clause-leaf : goal.returns-clause-leaf
returns-clause-leaf c = leaf_first

pub returns-clause-none : goal.returns-clause-none
returns-clause-none c = without_none

pub returns-clause-last : goal.returns-clause-last
returns-clause-last c = killed_last
