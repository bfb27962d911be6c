use Rattle.std.proofs.Common.{sym}
use Rattle.plain_model.proofs.OtherJobs.{handle_of}
use Rattle.job_forks.proofs.naming.fork_named.Goals as goal

pub returns-in-Some-clause-job : goal.returns-in-Some-clause-job
returns-in-Some-clause-job c = handle_of c.args.tree.now.forks c.are_trees.ensures.slotted.own c.args.who c.right.result c.in-Some.fork.now (sym c.in-Some.ensures.found)
