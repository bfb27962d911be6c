-- The words of the command, and the run that they ask for.
use Rattle.std.specs.Prelude.{◌≡◌, ◌⊎◌, ℕ, ◌<◌, ◌≤◌, List, Option, Some, String}
use Rattle.script_texts.specs.declared.event.Event.{Event}
use Rattle.script_texts.specs.Script.{IsScript}
use Rattle.command_words.specs.declared.request.EventSource.{EventSource}
use Rattle.command_words.specs.declared.request.EventSource.TheVariants.{Script, Generated}
use Rattle.command_words.specs.declared.request.Request.{Request}
use Rattle.command_words.specs.Words.{Ask}

-- the words ask for this run, and a drum of so many pages has as many as it asks for
pub record IsAsked {Z : Type 0} (words : List (String Z)) (drum_pages : ℕ) (request : Request) : Type 0 where
  pub asks : Ask words request
  pub enough : request.sizes.drum ≤ drum_pages

-- the words ask for nothing, or for more pages than the drum has
abbrev pub IsUsage : {Z : Type 0} → List (String Z) → ℕ → Type 0
IsUsage words drum_pages = ((request : Request) → Ask words request → ⊥) ⊎ ((request : Request) × Ask words request × (drum_pages < request.sizes.drum))

-- the words ask for a run of the script
abbrev pub ReadsScript : {Z : Type 0} → List (String Z) → Type 0
ReadsScript words = (request : Request) × Ask words request × (request.events ≡ Script)

-- the words ask for a run of the generated script of this seed
abbrev pub Generates : {Z : Type 0} → List (String Z) → ℕ → Type 0
Generates words seed = (request : Request) × Ask words request × (request.events ≡ Generated seed)

-- where the script's lines are run, what the source tells is a script
abbrev pub IsReady : EventSource → Option (List ℕ) → Type 0
IsReady Script left = (bytes : List ℕ) × (events : List Event) × (left ≡ Some bytes) × IsScript bytes events
IsReady (Generated seed) left = Unit {0}

-- the words are right, the drum is large enough for them, and what is left of the script is one, where it is run
pub record IsRight {Z : Type 0} (words : List (String Z)) (drum_pages : ℕ) (left : Option (List ℕ)) : Type 0 where
  pub request : Request
  pub asked : IsAsked words drum_pages request
  pub ready : IsReady request.events left
