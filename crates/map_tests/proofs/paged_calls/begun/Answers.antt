use Rattle.std.proofs.Common.{arith}
use Rattle.map_tests.specs.Counted.{first}
use Rattle.map_tests.proofs.paged_calls.begun.Goals as goal

pub invariant_of-result : goal.invariant_of-result
invariant_of-result g c =
    let none = rw c.made-pages.ensures at c.boot-2.ensures.forks in
    let low = rw c.made-pages.ensures at c.boot-2.ensures.serials in
    let same = rw c.made-known.ensures at c.over.ensures in
    record { counted = record { few = rw same (omega (arith, none first)); low = rw same (omega (arith, low first)); roomy = omega (arith) } }
