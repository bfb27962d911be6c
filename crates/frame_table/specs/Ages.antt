-- What a use makes of the ages of frames.
use Rattle.std.specs.Prelude.{◌≡◌, ◌≢◌, ℕ, ◌<◌, IsSome}
use Rattle.frame_table.specs.Core.{Core, age_of, seat_of}

-- a frame was used after all others that are taken
abbrev pub IsYoungest : Core → ℕ → Type 0
IsYoungest c f = (g : ℕ) → g ≢ f → IsSome (seat_of c g) → age_of c g < age_of c f

-- all other frames keep their ages
abbrev pub OthersKeepAges : Core → Core → ℕ → Type 0
OthersKeepAges old new f = (g : ℕ) → g ≢ f → age_of new g ≡ age_of old g

-- one frame alone has another age, which makes it the youngest
abbrev pub RenewsAge : Core → Core → ℕ → Type 0
RenewsAge old new f = IsYoungest new f × OthersKeepAges old new f
