use Rattle.std.proofs.Common.{sym}
use Rattle.fork_tree.proofs.Named.{named_lives}
use Rattle.fork_tree.proofs.tree.Tree.fork_named.Goals as goal

pub returns-in-Some-clause-lives : goal.returns-in-Some-clause-lives
returns-in-Some-clause-lives c =
    named_lives c.args.self.now.forks c.in-Some.ensures.tree.slotted c.args.who c.args.handle c.in-Some.caller.now (sym c.in-Some.ensures.found) _ c.named_by.ensures
