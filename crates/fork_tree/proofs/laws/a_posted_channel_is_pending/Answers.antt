use Rattle.fork_tree.proofs.Posted.{pending_here, pending_others}
use Rattle.fork_tree.proofs.laws.a_posted_channel_is_pending.Goals as goal

pub returns-clause-taken : goal.returns-clause-taken
returns-clause-taken c = pending_here

pub returns-clause-others : goal.returns-clause-others
returns-clause-others c = pending_others
