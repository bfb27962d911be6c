-- The headline, and what is told where nothing was run.
use Rattle.std.specs.Prelude.{◌≡◌, ◌⊎◌, ℕ, List, Option, IsSome, String, map, string_bytes}
use Rattle.outside.specs.Told.{Grows, Stays}
use Rattle.command_words.specs.declared.request.Request.{Request}
use Rattle.command_words.specs.Words.{Ask, AskOf}
use Rattle.texts.specs.declared.last.Status.{Status}
use Rattle.texts.specs.declared.last.Status.TheVariants.{Usage, Memory, WriteFault}
use Rattle.texts.specs.Ends.{closing_line}
use Rattle.texts.specs.Wrote.{WrotePartly}
use Rattle.script_driver.specs.Observed.{Observed}
use Rattle.script_driver.specs.OverFrames.{RunsOverFrames}
use Rattle.script_driver.specs.RunTexts.{Headline}
use Rattle.run_console.specs.declared.asked.Unbegun.{Unbegun}
use Rattle.run_console.specs.declared.asked.Unbegun.TheVariants.{Usage as WrongWords, Memory as NoMemory}
use Rattle.run_console.specs.Command.{IsUsage}

-- the words ask for a run, of which the headline holds, where the drum tells its pages
abbrev pub HasHeadline : {Z : Type 0} → List (String Z) → Observed → Type 0
HasHeadline words told = (request : Request) × AskOf (map string_bytes words) request × (IsSome told.before.drum → Headline request.events request.sizes told)

-- the words ask for a run, of which the headline holds over its frames, where the drum tells its pages
abbrev pub HasFrames : {Z : Type 0} → List (String Z) → Observed → Type 0
HasFrames words told = (request : Request) × Ask words request × (IsSome told.before.drum → RunsOverFrames request.events request.sizes told)

-- nothing was run, and the transcript is the line that tells why
pub record Only (line : List ℕ) (told : Observed) : Type 0 where
  pub unread : Stays told.before.script told.after.script
  pub transcript_is : Grows told.before.out told.after.out line
  pub record_stays : Stays told.before.rec told.after.rec
  pub drum_stays : told.after.drum ≡ told.before.drum

-- the status of a run that did not begin
abbrev pub status_of : Unbegun → Status
status_of WrongWords = Usage
status_of NoMemory = Memory

-- a reason why a run did not begin is true of the words and of how many pages the drum has
abbrev pub IsTrueOf : {Z : Type 0} → List (String Z) → ℕ → Unbegun → Type 0
IsTrueOf words drum_pages WrongWords = IsUsage words drum_pages
IsTrueOf words drum_pages NoMemory = Unit {0}

-- Where nothing was run for this reason, the transcript is the line that tells it, or a front of it where a sink failed.
abbrev pub Stops : Unbegun → (out out' rec rec' : Option (List ℕ)) → Status → Type 0
Stops why out out' rec rec' status =
    ((status ≡ status_of why) × Grows out out' (closing_line (status_of why) 0) × Stays rec rec')
    ⊎ ((status ≡ WriteFault) × WrotePartly out out' (closing_line (status_of why) 0) × Stays rec rec')

-- nothing was run, and the transcript is a front of the line that tells why
pub record OnlyFront {Z : Type 0} (words : List (String Z)) (drum_pages : ℕ) (told : Observed) : Type 0 where
  pub why : Unbegun
  pub is_true : IsTrueOf words drum_pages why
  pub unread : Stays told.before.script told.after.script
  pub transcript_front : WrotePartly told.before.out told.after.out (closing_line (status_of why) 0)
  pub record_stays : Stays told.before.rec told.after.rec
  pub drum_stays : told.after.drum ≡ told.before.drum
