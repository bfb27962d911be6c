use Rattle.std.proofs.Common.{◌≡◌, ℕ, ◌≤◌, ◌<◌, None}
use Rattle.pager_walk.specs.MapPages.{fork_at}
use Rattle.pager_walk.proofs.map_pages.KeptMaps.free_number.Given as goal

abbrev pub invariant-loop-number : goal.invariant-loop-number
invariant-loop-number l = (k : ℕ) → l.first ≤ k → k < l.number → fork_at l.self.pages.items k ≡ None → ⊥
