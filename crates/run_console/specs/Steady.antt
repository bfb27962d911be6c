-- Where no count of faults rises.
use Rattle.std.specs.Prelude.{◌≡◌, ℕ, ◌<◌}
use Rattle.script_driver.specs.Observed.{Faults}

-- the last value of a count of faults
abbrev pub last_count : ℕ
last_count = 18446744073709551615

-- a count hasn't risen, and doesn't stand at its last value
abbrev pub IsSteady : ℕ → ℕ → Type 0
IsSteady before after = (after ≡ before) × (before < last_count)

-- no count has risen, and none stands at its last value
pub record AreSteady (f : Faults) : Type 0 where
  pub script : IsSteady f.script f.script_after
  pub out : IsSteady f.out f.out_after
  pub rec : IsSteady f.rec f.rec_after
  pub drum : IsSteady f.drum f.drum_after
