-- What `clap` is given to read the words with.
use Rattle.std.specs.Prelude.{◌≡◌, ℕ, Bool, List, [], not, true, Some, None, Option, option_map, codes, if◌then◌else◌}
use Rattle.std.specs.List.{list_all}
use Rattle.std.specs.Str.{bytes_eq}
use Rattle.std.specs.Borrow.{Bor}
use Rattle.clap.specs.Words.{App, Rule, fault_of, first_value, matches_of, new_app, new_rule, rows_of, with_rule}
use Rattle.clap.specs.Simple.{on_top}
use Rattle.clap.specs.declared.builder.action.ArgAction.TheVariants.{Set}
use Rattle.clap.specs.declared.parser.matches.Found.{Found}
use Rattle.command_words.specs.Words.{AsksFor, AsksForDrum, AsksForEvents, AsksForFrames, Given, Size, Text, a_seed, a_size, drum_size, frames_size, listed, option_name}
use Rattle.command_words.specs.declared.record_command.RecordCommand.{RecordCommand}
use Rattle.command_words.specs.declared.record_command.RecordCommand.TheVariants.{Replay, Image}
use Rattle.command_words.specs.declared.request.RecordRequest.{RecordRequest}
use Rattle.command_words.specs.declared.request.Request.{Request}
use Rattle.command_words.specs.declared.request.EventSource.{EventSource}
use Rattle.command_words.specs.declared.sizes.Range.{Range}
use Rattle.command_words.specs.declared.sizes.Sizes.{Sizes}
use Rattle.command_words.specs.declared.verb.Verb.{Verb}
use Rattle.command_words.specs.declared.verb.Verb.TheVariants.{Run, Big}

-- the name under which `clap` keeps what is given
abbrev pub kept_name : Given → Text
kept_name (a_size size) = option_name size
kept_name a_seed = codes "seed"

-- `--name` with one value
abbrev pub rule_named : Text → Rule
rule_named name = record (new_rule name) { long = Some name; action = Some Set }

-- the option that sets a size
abbrev pub option_rule : Size → Rule
option_rule size = rule_named (option_name size)

-- one word that stands alone
abbrev pub seed_rule : Rule
seed_rule = record (new_rule (codes "seed")) { action = Some Set }

-- the command with both options and a seed, without help
abbrev pub run_app : App
run_app = with_rule (with_rule (with_rule (on_top (λ s. record s { disable_help_flag = true }) (new_app (codes "tenex"))) (option_rule frames_size)) (option_rule drum_size)) seed_rule

-- a word that is not `--`
abbrev pub is_other : Text → Bool
is_other word = not (bytes_eq word (codes "--"))

-- no word is `--`, and `clap` finds nothing wrong
pub record AreRight (words : List Text) : Type 0 where
  pub others : list_all is_other words ≡ true
  pub faultless : fault_of run_app words ≡ []

-- the words are right, and this is what `clap` finds in them
pub record IsFoundIn (words : List Text) (found : Found) : Type 0 where
  pub right : AreRight words
  pub rows : rows_of found ≡ matches_of run_app words

-- the first words of a run
abbrev pub verb_named : Text → Option Verb
verb_named name = if bytes_eq name (codes "run") then Some Run else (if bytes_eq name (codes "big") then Some Big else None)

abbrev pub name_of : Verb → Text
name_of Run = codes "run"
name_of Big = codes "big"

-- the first words of a command that reads a record
abbrev pub command_named : Text → Option RecordCommand
command_named name = if bytes_eq name (codes "replay") then Some Replay else (if bytes_eq name (codes "image") then Some Image else None)

-- the values of what is given, as `clap` has them
abbrev pub found_values : Found → Given → List Text
found_values found what = listed (first_value found (kept_name what))

-- the values of both options, as `clap` has them, ask for the sizes
abbrev pub AsksForSizes : Found → Sizes → Type 0
AsksForSizes found s = AsksForFrames (found_values found (a_size frames_size)) s.frames × AsksForDrum (found_values found (a_size drum_size)) s.drum

-- a first word, and what `clap` has, ask for the run
pub record AsksForRun (verb : Verb) (found : Found) (request : Request) : Type 0 where
  pub events : AsksForEvents (name_of verb) (found_values found a_seed) request.events
  pub sizes : AsksForSizes found request.sizes

-- a command that reads a record, and what `clap` has, which is no frames and no seed, ask for this
pub record AsksForRecord (command : RecordCommand) (found : Found) (request : RecordRequest) : Type 0 where
  pub command_is : request.command ≡ command
  pub no_frames : found_values found (a_size frames_size) ≡ []
  pub no_seed : found_values found a_seed ≡ []
  pub drum : AsksForDrum (found_values found (a_size drum_size)) request.drum

-- the number that a value, if there is one, asks for in a range
abbrev pub AsksIn : Range → Option (Bor Text) → ℕ → Type 0
AsksIn range value n = AsksFor range.least range.most range.standard (listed (option_map (λ s. s.now) value)) n

-- which events a first word asks for with a value, if there is one
abbrev pub AsksWith : Verb → Option (Bor Text) → EventSource → Type 0
AsksWith verb seed source = AsksForEvents (name_of verb) (listed (option_map (λ s. s.now) seed)) source
