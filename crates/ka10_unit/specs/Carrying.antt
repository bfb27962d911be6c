-- What a unit that is carried out leaves.
use Rattle.std.specs.Prelude.{◌≡◌, ◌≢◌, ℕ, ◌+◌, ◌≤◌, ◌<◌, ◌^◌, length, Some, true}
use Rattle.std.specs.Ordering.{nat_cmp}
use Rattle.machine_names.specs.declared.names.Tty.{Tty}
use Rattle.machine_names.specs.declared.names.ForkName.{ForkName}
use Rattle.plain_units.specs.declared.registers.Regs.{Regs}
use Rattle.page_contracts.specs.DrumWords.{DrumWords}
use Rattle.plain_pages.specs.PlainPages.{NumberedPages}
use Rattle.page_contracts.specs.Pages.{PagesMeaning, MayLose, Scene}
use Rattle.page_contracts.specs.Stores.{StoreMeaning, IsNeeded}
use Rattle.plain_units.specs.Steps.{Ending, Progress, done, stopped, trap, need, call}
use Rattle.plain_units.specs.Units.{unit_on}
use Rattle.ka10_unit.specs.declared.slow.Outcome.{Outcome}
use Rattle.ka10_unit.specs.declared.slow.Outcome.TheVariants as outcome
use Rattle.ka10_spots.specs.Once.{once}
use Rattle.ka10_deeds.specs.Done.{channel_of}
use Rattle.ka10_unit.specs.Gathers.{framed}
use Rattle.ka10_unit.specs.Planning.{unit_over}
use Rattle.ka10_unit.specs.Taking.{Plan, most_frames}

-- what was in a frame is in one still, and what was in none has not come into one
pub record StaysAway (old new : Scene) : Type 0 where
  pub maps : new.map_away ≡ old.map_away
  pub pages : new.page_away ≡ old.page_away

-- so many pages of an owner were made at most, transfers may have been taken from the queue, and nothing else changed that is told without a drum
pub record Grows {P : Type 0} (means : PagesMeaning P) (owner : Tty) (pages : ℕ) (old new : P) : Type 0 where
  pub lives : means.lives new ≡ means.lives old
  pub forks : means.forks_of new ≡ means.forks_of old
  pub most : means.most new ≡ means.most old
  pub serial : means.serial new owner ≤ means.serial old owner + pages
  pub serials : (t : Tty) → t ≢ owner → means.serial new t ≡ means.serial old t
  pub loses : MayLose means old new

-- what a unit came to on plain pages, which it left as others; nothing is said where it needs something first
abbrev pub CameTo : ForkName → NumberedPages → Regs → NumberedPages → Regs → Outcome → Type 0
CameTo f p regs q after (outcome.Done post) = once f p regs ≡ Some (record { pages = q; regs = after; post = channel_of post })
CameTo f p regs q after (outcome.Need n) = Unit {0}
CameTo f p regs q after (outcome.Trap channel) = unit_on f p regs ≡ stopped (trap channel)
CameTo f p regs q after (outcome.Call number) = unit_on f p regs ≡ call number

-- how a unit came out, over pages of which some are in no frame: it needs something first exactly where this does
abbrev pub CameOut : Plan → Outcome → Type 0
CameOut plan (outcome.Done post) = (t : Progress nat_cmp) × (e : Ending) × (plan ≡ done t e)
CameOut plan (outcome.Need n) = plan ≡ stopped (need n)
CameOut plan (outcome.Trap channel) = plan ≡ stopped (trap channel)
CameOut plan (outcome.Call number) = plan ≡ call number

-- a unit that isn't done changes nothing
abbrev pub Keeps : {P : Type 0} → P → P → Regs → Regs → Outcome → Type 0
Keeps old new regs after (outcome.Done post) = Unit {0}
Keeps old new regs after other = (after ≡ regs) × (new ≡ old)

-- a unit that needs nothing first
abbrev pub IsOver : Outcome → Type 0
IsOver (outcome.Need n) = ⊥
IsOver other = Unit {0}

-- what a unit needs first is so, over whatever drum
abbrev pub OutcomeNeeds : {P : Type 0} → StoreMeaning P → P → Outcome → Type 0
OutcomeNeeds store p (outcome.Need n) = IsNeeded store most_frames p n
OutcomeNeeds store p other = Unit {0}

-- the number of a monitor call is an address
abbrev pub IsNumbered : Outcome → Type 0
IsNumbered (outcome.Call number) = number < 2 ^ 18
IsNumbered other = Unit {0}

-- a unit of a fork as it came out on pages and registers
pub record Slowly {P : Type 0} (means : PagesMeaning P) (f : ForkName) (old new : P) (regs after : Regs) (result : Outcome) : Type 0 where
  pub told : (d : DrumWords) → means.fits old d → means.fits new d × CameTo f (means.plain old d) regs (means.plain new d) after result
  pub over : (d : DrumWords) → means.fits old d → CameOut (unit_over f (framed means old d) regs) result
  pub stopped : Keeps old new regs after result
  pub core : means.flat ≡ true → IsOver result
  pub needs : OutcomeNeeds means.store new result
  pub grows : Grows means f.tty 128 old new
  pub pc : after.pc < 2 ^ 18
  pub number : IsNumbered result
  pub accumulators : length after.ac ≡ length regs.ac
