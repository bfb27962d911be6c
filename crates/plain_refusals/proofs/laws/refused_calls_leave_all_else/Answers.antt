use Rattle.plain_refusals.proofs.CallsLeave.{failed_leaves, refused_leaves, trapped_leaves, waiting_leaves}
use Rattle.plain_refusals.proofs.StopsLeave.{stopped_leaves}
use Rattle.plain_refusals.proofs.laws.refused_calls_leave_all_else.Goals as goal

pub returns-clause-failed : goal.returns-clause-failed
returns-clause-failed c = λ s f number code makes is. failed_leaves s f number makes code is

pub returns-clause-refused : goal.returns-clause-refused
returns-clause-refused c = λ s f number code makes is. refused_leaves s f number makes code is

pub returns-clause-waits : goal.returns-clause-waits
returns-clause-waits c = λ s f number what makes is. waiting_leaves s f number makes what is

pub returns-clause-trapped : goal.returns-clause-trapped
returns-clause-trapped c = λ s f number channel makes is. trapped_leaves s f number makes channel is

pub returns-clause-stopped : goal.returns-clause-stopped
returns-clause-stopped c = λ s f whole. stopped_leaves s whole.machine.tree.slotted.own f
