-- What each status of a command that reads a text tells.
use Rattle.std.specs.Prelude.{◌≡◌, ◌⊎◌, List, String}
use Rattle.outside.specs.Told.{Grows}
use Rattle.command_words.specs.TextWords.{AskText}
use Rattle.command_words.specs.declared.request.TextRequest.{TextRequest}
use Rattle.texts.specs.declared.last.Status.{Status}
use Rattle.texts.specs.declared.last.Status.TheVariants.{Usage, Memory, WriteFault}
use Rattle.texts.specs.Ends.{closing_line}
use Rattle.texts.specs.Wrote.{Told, WrotePartly}
use Rattle.text_console.specs.Made.{Makes, status_of}
use Rattle.text_console.specs.declared.text_end.TextEnd.{TextEnd}

-- the words ask for nothing to be made of a text
abbrev pub AskForNoText : {Z : Type 0} → List (String Z) → Type 0
AskForNoText words = (q : TextRequest) → AskText words q → ⊥

-- Nothing was read: the line of this status was written, or a front of it where the sink failed.
abbrev pub Stops : Status → (out out' : Told) → Status → Type 0
Stops why out out' status = ((status ≡ why) × Grows out out' (closing_line why 0)) ⊎ ((status ≡ WriteFault) × WrotePartly out out' (closing_line why 0))

-- There was no memory to read the words.
abbrev pub LacksMemory : (out out' : Told) → Status → Type 0
LacksMemory out out' status = Stops Memory out out' status

-- NOTHING IS ASKED FOR: this is said, or that there was no memory to read the words
abbrev pub Refuses : (out out' : Told) → Status → Type 0
Refuses out out' status = Stops Usage out out' status ⊎ LacksMemory out out' status

-- what was asked for was made of the text, and ended with this status
pub record MadeOf (q : TextRequest) (told told' out out' : Told) (status : Status) : Type 0 where
  pub how : TextEnd
  pub status_is : status_of how ≡ status
  pub made : Makes q told told' how out out'

-- SOMETHING IS ASKED FOR: it was made of the text, as far as the status says, or there was no memory to read the words
abbrev pub Ends : TextRequest → (told told' out out' : Told) → Status → Type 0
Ends q told told' out out' status = MadeOf q told told' out out' status ⊎ LacksMemory out out' status
