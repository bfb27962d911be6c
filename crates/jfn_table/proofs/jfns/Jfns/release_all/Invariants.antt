use Rattle.std.proofs.Common.{◌≡◌, ◌<◌, ◌⊎◌, ℕ, None}
use Rattle.std.specs.FinMap as map
use Rattle.plain_files.specs.declared.bounds.TheConstants.{MOST_JFNS}
use Rattle.jfn_table.proofs.jfns.Jfns.release_all.Given as goal

abbrev pub invariant-loop-n : goal.invariant-loop-n
invariant-loop-n l = (k : ℕ) → (k < l.n) ⊎ (MOST_JFNS < k) → map.get l.self k ≡ None
