use Rattle.std.proofs.Common.{◌≡◌, replicate}
use Rattle.known_slots.specs.WalkTimes.{unknown_row}
use Rattle.known_slots.proofs.known_walks.unknown_rows.Given as goal

abbrev pub invariant-loop-page : goal.invariant-loop-page
invariant-loop-page l = l.rows.items ≡ replicate l._page unknown_row
