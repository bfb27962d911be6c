use Rattle.std.proofs.Common.{◌≡◌, None, replicate}
use Rattle.flat_tables.proofs.map_tables.no_names.Given as goal

abbrev pub invariant-loop-home : goal.invariant-loop-home
invariant-loop-home l = l.names.items ≡ replicate l._home None
