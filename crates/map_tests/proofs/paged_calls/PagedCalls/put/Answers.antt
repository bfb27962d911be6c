use Rattle.map_tests.proofs.Counting.{counted_same}
use Rattle.map_tests.proofs.paged_calls.PagedCalls.put.Goals as goal

pub invariant_of-self : goal.invariant_of-self
invariant_of-self g c = record { counted = counted_same c.put.ensures.stays.forks c.put.ensures.stays.serials c.args.self.now.counted }
