-- Counts that never fall, and stop at the last value of 64 bits.
use Rattle.std.specs.Prelude.{◌≡◌, ℕ, ◌+◌, ◌≤◌, min, List, Contains, Option, Result, IsSome, OnOk, OnErr}

-- the count rose, or stands at its last value
abbrev pub Rose : ℕ → ℕ → Type 0
Rose before after = min (before + 1) 18446744073709551615 ≤ after

-- the count rose by one, or stays at its last value
abbrev pub CountsUp : ℕ → ℕ → Type 0
CountsUp before after = after ≡ min (before + 1) 18446744073709551615

-- where so many calls were made, the number of the next is one of those that fail
abbrev pub FailsNext : List ℕ → ℕ → Type 0
FailsNext failing made = Contains failing (min (made + 1) 18446744073709551615)

-- a call that fails has counted one fault, whose error is kept; one that doesn't has left the count and the last error
pub record FailsCounted {X F E : Type 0} (result : Result X F) (faults faults_after : ℕ) (error error_after : Option E) : Type 0 where
  pub later : faults ≤ faults_after
  pub faulted : OnErr result (CountsUp faults faults_after)
  pub unfaulted : OnOk result (faults_after ≡ faults)
  pub fresh : OnErr result (IsSome error_after)
  pub kept : OnOk result (error_after ≡ error)
