use Rattle.std.proofs.Common.{◌≡◌, None, replicate}
use Rattle.paged_tables.proofs.paged_tables.no_shares.Given as goal

abbrev pub invariant-loop-home : goal.invariant-loop-home
invariant-loop-home l = l.shared.items ≡ replicate l._home None
