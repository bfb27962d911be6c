-- The places of a table of forks: one for each slot of each job, and one for slot 0, which stays free.
use Rattle.std.specs.Prelude.{◌≡◌, ℕ, ◌+◌, ◌*◌, ◌^◌, ◌≤◌, ◌<◌, List, [], ◌∷◌, length, Option, None, Some, slice_index, slice_index_or}
use Rattle.std.specs.FinMap as map
use Rattle.std.specs.Int.{bit_at}
use Rattle.machine_names.specs.declared.names.Tty.{Tty}
use Rattle.machine_names.specs.declared.names.ForkName.{ForkName}
use Rattle.machine_names.specs.declared.names.TheConstants.{TERMINALS, MOST_FORKS, LAST_SERIAL}
use Rattle.plain_model.specs.declared.fork.Fork.{Fork}
use Rattle.plain_model.specs.Forks.{ForkMap}
use Rattle.machine_names.specs.Bounds.{IsForkName}

-- the forks that stand in places, by name
unfoldable pub forks_of : List (Option Fork) → ForkMap
forks_of [] = map.empty
forks_of (None ∷ places) = forks_of places
forks_of (Some f ∷ places) = map.insert (forks_of places) f.name f

-- a fork stands in a place
abbrev pub StandsAt : List (Option Fork) → ℕ → Fork → Type 0
StandsAt places i f = slice_index_or places i None ≡ Some f

-- the place of a slot of a job
abbrev pub place_in : Tty → ℕ → ℕ
place_in t slot = t.0 * (MOST_FORKS + 1) + slot

-- where a fork's name stands among those of all terminals
abbrev pub name_index : ForkName → ℕ
name_index name = name.tty.0 * (LAST_SERIAL + 1) + name.serial

-- Each fork stands in the place of its terminal and slot; the slot that its name has had is its own; and none of its job is in a slot
-- above the last.
pub record IsTable (places : List (Option Fork)) (slots lasts : List ℕ) : Type 0 where
  pub all_places : length places ≡ TERMINALS * (MOST_FORKS + 1)
  pub all_names : length slots ≡ TERMINALS * (LAST_SERIAL + 1)
  pub all_jobs : length lasts ≡ TERMINALS
  pub place : (i : ℕ) (f : Fork) → StandsAt places i f → place_in f.name.tty f.slot ≡ i
  pub first : (i : ℕ) (f : Fork) → StandsAt places i f → 1 ≤ f.slot
  pub last : (i : ℕ) (f : Fork) → StandsAt places i f → f.slot ≤ MOST_FORKS
  pub named : (i : ℕ) (f : Fork) → StandsAt places i f → IsForkName f.name
  pub slot : (i : ℕ) (f : Fork) → StandsAt places i f → slice_index slots (name_index f.name) ≡ f.slot
  pub below : (i : ℕ) (f : Fork) → StandsAt places i f → f.slot ≤ slice_index lasts f.name.tty.0
  pub few : (t : ℕ) → t < TERMINALS → slice_index lasts t ≤ MOST_FORKS

-- the bit of a place: it is set where a fork stands there
abbrev pub place_bit : Option Fork → ℕ
place_bit None = 0
place_bit (Some f) = 1

-- Of each job, the bit of each slot is that of its place, and the bit of slot 0 is set.
pub record AreTaken (places : List (Option Fork)) (taken : List ℕ) : Type 0 where
  pub all_jobs : length taken ≡ TERMINALS
  pub few : (t : ℕ) → t < TERMINALS → slice_index taken t < 2 ^ 31
  pub lowest : (t : ℕ) → t < TERMINALS → bit_at (slice_index taken t) 0 ≡ 1
  pub each : (t : Tty) (slot : ℕ) → t.0 < TERMINALS → 1 ≤ slot → slot ≤ MOST_FORKS → bit_at (slice_index taken t.0) slot ≡ place_bit (slice_index_or places (place_in t slot) None)

-- both
pub record IsWholeTable (places : List (Option Fork)) (slots lasts taken : List ℕ) : Type 0 where
  pub table : IsTable places slots lasts
  pub bits : AreTaken places taken

-- the place of a slot of a job, where there is one
abbrev pub IsPlaceOf : Tty → ℕ → Option ℕ → Type 0
IsPlaceOf t slot None = (t.0 < TERMINALS) → (slot ≤ MOST_FORKS) → ⊥
IsPlaceOf t slot (Some place) = (t.0 < TERMINALS) × (slot ≤ MOST_FORKS) × (place ≡ place_in t slot)
