use Rattle.std.proofs.Common.{arith}
use Rattle.paged_store.specs.StoreSound.{paged_sound}
use Rattle.store_tests.proofs.calls.complete.Goals as goal

pub complete-requires : goal.complete-requires
complete-requires g c = let few = (paged_sound c.args.store.now).few in omega (arith, few, c.pages.ensures, c.if-pages-lt-MOST_HOMES.false)
