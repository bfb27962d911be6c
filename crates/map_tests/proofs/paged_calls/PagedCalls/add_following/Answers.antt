use Rattle.map_tests.proofs.Counting.{counted_more}
use Rattle.map_tests.proofs.paged_calls.PagedCalls.add_following.Goals as goal

pub invariant_of-self : goal.invariant_of-self
invariant_of-self g c = record { counted = counted_more (rw c.first-fork.ensures at c.add_fork.ensures.forks) c.add_fork.ensures.serials c.args.self.now.counted }
