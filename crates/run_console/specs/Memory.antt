-- A run in memory, where all is told.
use Rattle.std.specs.Prelude.{◌≡◌, ℕ, ◌-◌, List, ◌++◌, true, false, String}
use Rattle.script_texts.specs.declared.event.Event.{Event}
use Rattle.script_texts.specs.declared.event.Item.{Item}
use Rattle.script_texts.specs.declared.event.Step.{Step}
use Rattle.plain_model.specs.State.{opening}
use Rattle.script_texts.specs.Entries.{FitsRecord}
use Rattle.script_texts.specs.Follows.{Follows}
use Rattle.page_waits.specs.Calm.{AreCalmlyFair}
use Rattle.script_driver.specs.Runs.{AreTaken}
use Rattle.page_waits.specs.Placed.{AreOnDrum}
use Rattle.plain_model.specs.Run.{IsLegal, items_of, state_after}
use Rattle.script_texts.specs.Script.{IsScript}
use Rattle.script_texts.specs.Texts.{record_text, transcript}
use Rattle.outside.specs.declared.memory_drum.SureDrum.{SureDrum}
use Rattle.outside.specs.declared.memory_sink.MemSink.{MemSink}
use Rattle.script_lang.specs.Generator.{big_events}
use Rattle.command_words.specs.declared.request.EventSource.{EventSource}
use Rattle.command_words.specs.declared.request.EventSource.TheVariants.{Script, Generated}
use Rattle.command_words.specs.declared.request.Request.{Request}
use Rattle.command_words.specs.Words.{Ask}
use Rattle.script_driver.specs.RunTexts.{generated_transcript}

-- these bytes are lines that spell the events, or the events are those of the generated script that is asked for
abbrev pub AreSpelled : EventSource → List ℕ → List Event → Type 0
AreSpelled Script script events = IsScript script events
AreSpelled (Generated seed) script events = events ≡ big_events seed

-- the transcript of a script, or of a generated one
abbrev pub whole_transcript : EventSource → List Item → List Step → List ℕ
whole_transcript Script items entries = transcript items
whole_transcript (Generated seed) items entries = generated_transcript items entries

-- The headline in bytes: the events are those that are asked for, and behind what both sinks had stand the
-- transcript of the plain machine and the record of the entries, with how often the drum was read and written.
-- And all pages of the plain state that the entries leave but as many as there are frames stand on the drum.
pub record HeadlineInBytes {Z : Type 0} (words : List (String Z)) (script : List ℕ) (out out' rec rec' : MemSink) (drum drum' : SureDrum) : Type 0 where
  pub request : Request
  pub asked : Ask words request
  pub events : List Event
  pub entries : List Step
  pub spelled : AreSpelled request.events script events
  pub follows : Follows events entries
  pub legal : IsLegal false true (opening request.sizes.drum) events entries follows
  pub calm : AreCalmlyFair request.sizes.frames (opening request.sizes.drum) events entries follows
  pub turns : AreTaken request.sizes.frames (opening request.sizes.drum) entries
  pub transcript_is : out'.bytes.items ≡ out.bytes.items ++ whole_transcript request.events (items_of (opening request.sizes.drum) entries) entries
  pub record_is : rec'.bytes.items ≡ rec.bytes.items ++ record_text entries (drum'.held.reads - drum.held.reads) (drum'.held.writes - drum.held.writes)
  pub fits : FitsRecord entries (drum'.held.reads - drum.held.reads) (drum'.held.writes - drum.held.writes)
  pub placed : AreOnDrum request.sizes.frames (state_after (opening request.sizes.drum) entries) drum'.held.pages.items
