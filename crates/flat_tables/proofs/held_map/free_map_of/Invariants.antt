use Rattle.std.proofs.Common.{◌≡◌, ℕ, ◌≤◌, ◌<◌, None}
use Rattle.flat_tables.specs.HeldMaps.{fork_at}
use Rattle.flat_tables.proofs.held_map.free_map_of.Given as goal

abbrev pub invariant-loop-number : goal.invariant-loop-number
invariant-loop-number l = (k : ℕ) → l.first ≤ k → k < l.number → fork_at l.maps.items k ≡ None → ⊥
