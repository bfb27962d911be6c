-- Words that ask for nothing.
use Rattle.std.specs.Prelude.{ℕ, List, String}
use Rattle.run_console.specs.Command.{IsUsage}
use Rattle.text_console.specs.Statuses.{AskForNoText}

-- the words ask for nothing to be made of a text, and for no run, or for one with more pages than the drum has
abbrev pub AskForNothing : {Z : Type 0} → List (String Z) → (drum_pages : ℕ) → Type 0
AskForNothing words drum_pages = IsUsage words drum_pages × AskForNoText words
