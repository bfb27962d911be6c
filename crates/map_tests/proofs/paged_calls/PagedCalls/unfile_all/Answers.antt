use Rattle.map_tests.proofs.Counting.{counted_same}
use Rattle.map_tests.proofs.paged_calls.PagedCalls.unfile_all.Goals as goal

pub invariant_of-self : goal.invariant_of-self
invariant_of-self g c = record { counted = counted_same c.drop_file.ensures.forks c.drop_file.ensures.serials c.args.self.now.counted }
