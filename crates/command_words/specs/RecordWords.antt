-- The words of a command that reads a record: its name, and the drum's size.
use Rattle.std.specs.Prelude.{◌≡◌, List, [], ◌∷◌, codes, map, flat_map, String, string_bytes}
use Rattle.command_words.specs.Words.{AsksForDrum, Setting, Text, a_seed, a_size, drum_size, frames_size, given, words_of}
use Rattle.command_words.specs.declared.record_command.RecordCommand.{RecordCommand}
use Rattle.command_words.specs.declared.record_command.RecordCommand.TheVariants.{Replay, Image}
use Rattle.command_words.specs.declared.request.RecordRequest.{RecordRequest}

-- the name of a command
abbrev pub command_name : RecordCommand → Text
command_name Replay = codes "replay"
command_name Image = codes "image"

-- the words are a command's name and those of settings, which set no frames and no seed, and ask for this size of the drum
pub record AreRecordBy (settings : List Setting) (words : List Text) (request : RecordRequest) : Type 0 where
  pub words_are : words ≡ command_name request.command ∷ flat_map words_of settings
  pub no_frames : given (a_size frames_size) settings ≡ []
  pub no_seed : given a_seed settings ≡ []
  pub drum : AsksForDrum (given (a_size drum_size) settings) request.drum

-- the words are `replay` or `image`, with the drum's size at most once, and ask for this
abbrev pub AskRecordOf : List Text → RecordRequest → Type 0
AskRecordOf words request = (settings : List Setting) × AreRecordBy settings words request

-- the same of words as the program has them
abbrev pub AskRecord : {Z : Type 0} → List (String Z) → RecordRequest → Type 0
AskRecord words request = AskRecordOf (map string_bytes words) request
