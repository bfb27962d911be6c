use Rattle.map_tests.proofs.Counting.{counted_same}
use Rattle.map_tests.proofs.paged_calls.PagedCalls.name.Goals as goal

pub invariant_of-self : goal.invariant_of-self
invariant_of-self g c = record { counted = counted_same c.set_entry.ensures.forks c.set_entry.ensures.serials c.args.self.now.counted }
