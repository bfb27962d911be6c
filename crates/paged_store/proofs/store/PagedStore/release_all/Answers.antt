use Rattle.std.proofs.Common.{sym, rules}
use Rattle.paged_store.specs.HeldHomes.{held_by}
use Rattle.paged_store.proofs.HeldLists.{others_all}
use Rattle.paged_store.proofs.store.PagedStore.release_all.Goals as goal

pub returns-then-not-is_held-clause-holders : goal.returns-then-not-is_held-clause-holders
returns-then-not-is_held-clause-holders c k = sym (others_all (held_by c.args.self.now.holders k) c.args.home.0 (c.is_held.ensures (search rules) k))
