-- What is said of the console of a run, whatever the words are.
use Rattle.std.specs.Prelude.{◌≡◌, ◌⊎◌, ℕ, List, Some, String}
use Rattle.script_texts.specs.Script.{IsTooLong, StopsAt}
use Rattle.script_texts.specs.declared.event.Event.{Event}
use Rattle.script_driver.specs.Observed.{Faults, IsCaused, Observed}
use Rattle.script_driver.specs.Statuses.{Judges}
use Rattle.texts.specs.declared.last.Status.{Status}
use Rattle.texts.specs.declared.last.Status.TheVariants.{Done, Usage, Script, Memory, LongScript}
use Rattle.run_console.specs.Command.{Generates, IsRight, IsUsage, ReadsScript}
use Rattle.run_console.specs.Headline.{HasFrames, HasHeadline}
use Rattle.run_console.specs.Isolation.{HasIsolation}
use Rattle.run_console.specs.Statuses.{IsEarly, IsFaultless, IsUsageOrBefore, Tells}
use Rattle.run_console.specs.Steady.{AreSteady}

-- a status that judges the script is true of these bytes of it, and a bad or too long one is never passed over
pub record IsJudged (bytes : List ℕ) (status : Status) : Type 0 where
  pub judged : Judges status bytes
  pub bad : (n : ℕ) (events : List Event) → StopsAt n bytes events → (status ≡ Done → ⊥) × (status ≡ LongScript → ⊥)
  pub long : (events : List Event) → IsTooLong bytes events → (status ≡ Done → ⊥) × (status ≡ Script → ⊥)

-- before a run begins the source and the drum are as they were, and the source is where the words ask for a generated script
pub record AreLeft {Z S D : Type 0} (words : List (String Z)) (drum_pages : ℕ) (script script' : S) (drum drum' : D) (status : Status) : Type 0 where
  pub unread : IsEarly status → script' ≡ script
  pub untouched : IsEarly status → drum' ≡ drum
  pub unasked : IsUsage words drum_pages → (script' ≡ script) × (drum' ≡ drum)
  pub not_asked : (seed : ℕ) → Generates words seed → script' ≡ script

-- THE CONSOLE OF A RUN: the headline, the frames and each terminal's work where it is done; what is told on each status; what a status says of the
-- script and of the words; what is left alone; and the causes
pub record Runs {Z S D : Type 0} (words : List (String Z)) (drum_pages : ℕ) (told : Observed) (counts : Faults) (script script' : S) (drum drum' : D) (status : Status) : Type 0 where
  pub headline : status ≡ Done → HasHeadline words told
  pub framed : status ≡ Done → HasFrames words told
  pub alone : status ≡ Done → HasIsolation words told
  pub tells : Tells words drum_pages told status
  pub judged : (bytes : List ℕ) → ReadsScript words → told.before.script ≡ Some bytes → IsJudged bytes status
  pub usage : status ≡ Usage → IsUsage words drum_pages
  pub always_usage : IsUsage words drum_pages → IsUsageOrBefore status
  pub left : AreLeft words drum_pages script script' drum drum' status
  pub caused : IsCaused status counts
  pub complete : AreSteady counts → IsFaultless status
  pub complete_run : IsRight words drum_pages told.before.script → IsFaultless status → (status ≡ Done) ⊎ (status ≡ Memory)
