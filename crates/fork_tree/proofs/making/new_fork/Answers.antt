use Rattle.std.proofs.Common.{ap}
use Rattle.plain_model.specs.Forks.{first_regs}
use Rattle.plain_model.specs.Trees.{new_fork}
use Rattle.fork_tree.proofs.making.new_fork.Goals as goal

pub returns : goal.returns
unfolding first_regs
returns c = ap (λ psi. let f = new_fork c.args.name c.args.slot c.args.superior in record f { body = record f.body { psi = psi } }) c.at_rest.ensures
