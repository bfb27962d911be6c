use Rattle.std.proofs.Common.{◌≡◌, ℕ, ◌≤◌, ◌<◌, Some}
use Rattle.fork_maps.specs.ForkMaps.{fork_at}
use Rattle.fork_maps.proofs.finding.searched.Given as goal

abbrev pub invariant-loop-number : goal.invariant-loop-number
invariant-loop-number g l = (k : ℕ) → l.first ≤ k → k < l.number → fork_at g.M.ForkMap.whose g.M.ForkMap.past l.maps.items k ≡ Some l.fork → ⊥
