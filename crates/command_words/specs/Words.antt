-- The words of the command: `run`, or `big` with a seed, and options that set the sizes of a run.
use Rattle.std.specs.Prelude.{◌≡◌, ℕ, ◌≤◌, Bool, true, false, List, [], ◌∷◌, ◌++◌, codes, Option, None, Some, map, filter, flat_map, String, string_bytes}
use Rattle.outside.specs.declared.TheConstants.{MOST_DRUM_PAGES}
use Rattle.command_words.specs.declared.sizes.TheConstants.{LEAST_DRUM_PAGES, LEAST_FRAMES, MOST_FRAMES, STANDARD_DRUM_PAGES, STANDARD_FRAMES}
use Rattle.script_texts.specs.Script.{IsDecimal}
use Rattle.command_words.specs.declared.request.EventSource.{EventSource}
use Rattle.command_words.specs.declared.request.EventSource.TheVariants.{Script, Generated}
use Rattle.command_words.specs.declared.request.Request.{Request}

-- a word, by its bytes
abbrev pub Text : Type 0
Text = List ℕ

-- the sizes that options set
pub data Size : Type 0 where
  frames_size : Size
  drum_size : Size

-- the name of the option that sets a size
abbrev pub option_name : Size → Text
option_name frames_size = codes "frames"
option_name drum_size = codes "drum"

-- what words give: a size, or the seed of the generated script
pub data Given : Type 0 where
  a_size : Size → Given
  a_seed : Given

-- the same is given twice
abbrev pub is_same : Given → Given → Bool
is_same (a_size frames_size) (a_size frames_size) = true
is_same (a_size drum_size) (a_size drum_size) = true
is_same a_seed a_seed = true
is_same _ _ = false

-- an option and its value, two words, or one with `=`; or a seed, which stands alone
pub data Setting : Type 0 where
  apart : Size → Text → Setting
  joined : Size → Text → Setting
  alone : Text → Setting

-- what is given
abbrev pub given_by : Setting → Given
given_by (apart size value) = a_size size
given_by (joined size value) = a_size size
given_by (alone value) = a_seed

-- its value, as it is written
abbrev pub value_of : Setting → Text
value_of (apart size value) = value
value_of (joined size value) = value
value_of (alone value) = value

-- the words of a setting
abbrev pub words_of : Setting → List Text
words_of (apart size value) = (codes "--" ++ option_name size) ∷ value ∷ []
words_of (joined size value) = ((codes "--" ++ option_name size) ++ (codes "=" ++ value)) ∷ []
words_of (alone value) = value ∷ []

-- the values that are given of a size, or of the seed
abbrev pub given : Given → List Setting → List Text
given what settings = map value_of (filter (λ s. is_same what (given_by s)) settings)

-- a value that may be missing, as the values that are given
abbrev pub listed : Option Text → List Text
listed None = []
listed (Some value) = value ∷ []

-- what these values ask for: the standard size where there is none, and one value's own number, of 1
-- to 9 decimal digits, where it is in its range; two values ask for nothing
abbrev pub AsksFor : (least most standard : ℕ) → List Text → ℕ → Type 0
AsksFor least most standard [] n = n ≡ standard
AsksFor least most standard (value ∷ []) n = IsDecimal 9 value n × (least ≤ n) × (n ≤ most)
AsksFor least most standard (_ ∷ _ ∷ _) n = ⊥

-- page frames of core: 160 to 8,192, and 256 where none are asked for
abbrev pub AsksForFrames : List Text → ℕ → Type 0
AsksForFrames = AsksFor LEAST_FRAMES MOST_FRAMES STANDARD_FRAMES

-- pages of the drum: 256 to 16,384, and 2,048 where none are asked for
abbrev pub AsksForDrum : List Text → ℕ → Type 0
AsksForDrum = AsksFor LEAST_DRUM_PAGES MOST_DRUM_PAGES STANDARD_DRUM_PAGES

-- which events the first word and the seeds ask for: `run` without a seed those of the script, and `big` with
-- one seed, of 1 to 9 decimal digits, those of the generated script
abbrev pub AsksForEvents : Text → List Text → EventSource → Type 0
AsksForEvents name [] Script = name ≡ codes "run"
AsksForEvents name (value ∷ []) (Generated seed) = (name ≡ codes "big") × IsDecimal 9 value seed
AsksForEvents name values events = ⊥

-- the words are this first word and those of these settings, which ask for the run
pub record AreBy (name : Text) (settings : List Setting) (words : List Text) (request : Request) : Type 0 where
  pub words_are : words ≡ name ∷ flat_map words_of settings
  pub events : AsksForEvents name (given a_seed settings) request.events
  pub frames : AsksForFrames (given (a_size frames_size) settings) request.sizes.frames
  pub drum : AsksForDrum (given (a_size drum_size) settings) request.sizes.drum

-- the words are `run`, or `big` and a seed, with options, in any order and each at most once, that ask for
-- the run
abbrev pub AskOf : List Text → Request → Type 0
AskOf words request = (name : Text) × (settings : List Setting) × AreBy name settings words request

-- the same of words as the program has them
abbrev pub Ask : {Z : Type 0} → List (String Z) → Request → Type 0
Ask words request = AskOf (map string_bytes words) request
