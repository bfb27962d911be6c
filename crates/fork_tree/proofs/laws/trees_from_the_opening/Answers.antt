use Rattle.plain_model.specs.State.{opening}
use Rattle.fork_tree.proofs.Kept.{none_tree}
use Rattle.fork_tree.proofs.laws.trees_from_the_opening.Goals as goal

pub returns : goal.returns
unfolding opening
returns c = λ limit. none_tree
