use Rattle.map_tests.proofs.Counting.{counted_fewer}
use Rattle.map_tests.proofs.paged_calls.PagedCalls.end.Goals as goal

pub invariant_of-self : goal.invariant_of-self
invariant_of-self g c = record { counted = counted_fewer (rw c.first-fork.ensures at c.drop_fork.ensures.forks) c.drop_fork.ensures.serials c.args.self.now.counted }
