-- The words of a command that reads a text.
use Rattle.std.specs.Prelude.{◌≡◌, List, [], ◌∷◌, codes, map, Option, Some, None, option_map, String, string_bytes, if◌then◌else◌}
use Rattle.std.specs.Str.{bytes_eq}
use Rattle.machine_names.specs.declared.names.Tty.{Tty}
use Rattle.script_texts.specs.Script.{IsTty}
use Rattle.command_words.specs.Parser.{command_named}
use Rattle.command_words.specs.RecordWords.{AskRecordOf}
use Rattle.command_words.specs.Words.{Text}
use Rattle.command_words.specs.declared.request.TextRequest.{TextRequest}
use Rattle.command_words.specs.declared.request.TextRequest.TheVariants.{Record as OfRecord, Assemble as OfProgram}
use Rattle.command_words.specs.declared.text_command.TextCommand.{TextCommand}
use Rattle.command_words.specs.declared.text_command.TextCommand.TheVariants.{Record, Assemble}

-- the first words of a command that reads a text
abbrev pub text_named : Text → Option TextCommand
text_named name = if bytes_eq name (codes "asm") then Some Assemble else option_map Record (command_named name)

-- the command that the first word names
abbrev pub first_of : List Text → Option TextCommand
first_of [] = None
first_of (name ∷ rest) = text_named name

-- the same of words as the program has them
abbrev pub first_command : {Z : Type 0} → List (String Z) → Option TextCommand
first_command words = first_of (map string_bytes words)

-- the words are `asm` and the number of this terminal
abbrev pub AskForTerminalOf : List Text → Tty → Type 0
AskForTerminalOf words t = (digits : Text) × (words ≡ codes "asm" ∷ digits ∷ []) × IsTty digits t

abbrev pub AskForTerminal : {Z : Type 0} → List (String Z) → Tty → Type 0
AskForTerminal words t = AskForTerminalOf (map string_bytes words) t

-- the words ask for this to be made of a text
abbrev pub AskTextOf : List Text → TextRequest → Type 0
AskTextOf words (OfRecord request) = AskRecordOf words request
AskTextOf words (OfProgram t) = AskForTerminalOf words t

-- the same of words as the program has them
abbrev pub AskText : {Z : Type 0} → List (String Z) → TextRequest → Type 0
AskText words request = AskTextOf (map string_bytes words) request
