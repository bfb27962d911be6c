-- What a run reads and writes, on each way in which it ends.
use Rattle.std.specs.Prelude.{◌≡◌, ℕ, List, [], ◌++◌, true, false, Option, None, Some, All, length, ◌<◌, ◌^◌}
use Rattle.outside.specs.Told.{Grows}
use Rattle.script_texts.specs.declared.event.Event.{Event}
use Rattle.script_texts.specs.declared.event.Item.{Item}
use Rattle.script_texts.specs.declared.event.Step.{Step}
use Rattle.plain_model.specs.State.{opening}
use Rattle.script_texts.specs.Follows.{Follows}
use Rattle.plain_model.specs.Run.{IsLegal, items_of}
use Rattle.script_texts.specs.Script.{IsScript, Spells}
use Rattle.script_texts.specs.Texts.{transcript, entries_text, record_text}
use Rattle.script_lang.specs.Generator.{big_events}
use Rattle.command_words.specs.declared.request.EventSource.{EventSource}
use Rattle.command_words.specs.declared.request.EventSource.TheVariants.{Script as ReadScript, Generated}
use Rattle.command_words.specs.declared.request.Request.{Request}
use Rattle.command_words.specs.declared.sizes.Sizes.{Sizes}
use Rattle.texts.specs.declared.last.Status.TheVariants.{Script, DrumFault, ReadFault, LongScript}
use Rattle.texts.specs.declared.last.Last.{Last}
use Rattle.texts.specs.declared.last.Last.TheVariants.{Done as Ended, Summary, Stopped}
use Rattle.texts.specs.Ends.{end_line, record_end}
use Rattle.texts.specs.Tally.{tally, tally_line}
use Rattle.texts.specs.Wrote.{WrotePartly}
use Rattle.script_driver.specs.declared.driver.Driven.{Driven}
use Rattle.script_driver.specs.declared.driver.Driven.TheVariants.{Done as WholeScript, Bad, Long, ReadFault as Unread, DrumFault as Unpaged, TakerFault}
use Rattle.script_driver.specs.Verdicts.{AreRun}
use Rattle.script_driver.specs.Observed.{Observed}
use Rattle.script_driver.specs.Runs.{RunsTo}

-- THE MACHINE'S RUN: the entries that the record has are those of the events, in order, each RUN n being n units of forks that can
-- run, or idle entries, which under AUTO ON stand only where none can; and the transcript is a text of what the plain machine shows over
-- the entries. The record's last line tells how often the drum was read and written. The events are such as lines spell, and there are
-- fewer entries, reads and writes than 2^64: so no other entries within their limits have this record (`a_record_is_of_one_run`).
pub record IsRunOf (events : List Event) (text : List Item → List Step → List ℕ) (sizes : Sizes) (told : Observed) : Type 0 where
  pub entries : List Step
  pub follows : Follows events entries
  pub legal : IsLegal false true (opening sizes.drum) events entries follows
  pub transcript_is : Grows told.before.out told.after.out (text (items_of (opening sizes.drum) entries) entries)
  pub record_is : Grows told.before.rec told.after.rec (record_text entries told.reads told.writes)
  pub spelled : All (λ e. (line : List ℕ) × Spells line e) events
  pub few : (length entries < 2 ^ 64) × (told.reads < 2 ^ 64) × (told.writes < 2 ^ 64)

-- THE HEADLINE OF run: the events are those of the script, which is read to its end
pub record RunsScript (sizes : Sizes) (told : Observed) : Type 0 where
  pub events : List Event
  pub all : (bytes : List ℕ) → told.before.script ≡ Some bytes → IsScript bytes events × (told.after.script ≡ Some [])
  pub run : IsRunOf events (λ items entries. transcript items) sizes told

-- the transcript of a generated script: behind that of a script stands the line of its counts
abbrev pub generated_transcript : List Item → List Step → List ℕ
generated_transcript items entries = transcript items ++ tally_line (tally items entries)

-- THE HEADLINE OF big: the events are those of the generated script, and no byte of the other is read
pub record RunsGenerated (seed : ℕ) (sizes : Sizes) (told : Observed) : Type 0 where
  pub unread : told.after.script ≡ told.before.script
  pub run : IsRunOf (big_events seed) generated_transcript sizes told

-- the headline, by whose events are asked for
abbrev pub Headline : EventSource → Sizes → Observed → Type 0
Headline ReadScript sizes told = RunsScript sizes told
Headline (Generated seed) sizes told = RunsGenerated seed sizes told

-- the entries of the record
abbrev pub entries_of : (events : EventSource) (sizes : Sizes) (told : Observed) → Headline events sizes told → List Step
entries_of ReadScript sizes told headline = headline.run.entries
entries_of (Generated seed) sizes told headline = headline.run.entries

-- the events, which they follow
abbrev pub events_of : (events : EventSource) (sizes : Sizes) (told : Observed) → Headline events sizes told → List Event
events_of ReadScript sizes told headline = headline.events
events_of (Generated seed) sizes told headline = big_events seed

abbrev pub follows_of : (events : EventSource) (sizes : Sizes) (told : Observed) (headline : Headline events sizes told) → Follows (events_of events sizes told headline) (entries_of events sizes told headline)
follows_of ReadScript sizes told headline = headline.run.follows
follows_of (Generated seed) sizes told headline = headline.run.follows

-- The events were driven so far: these events, their legal entries, and what was shown.
pub record DrivenTo (driven : Driven) (request : Request) (told : Observed) : Type 0 where
  pub events : List Event
  pub entries : List Step
  pub items : List Item
  pub found : AreRun request.events told.before.script told.after.script driven events
  pub run : RunsTo false request.sizes.frames request.sizes.drum driven events entries items

-- the texts of the run so far, and the line that tells how it stopped behind the transcript
pub record Part (driven : Driven) (line : List ℕ) (request : Request) (told : Observed) : Type 0 where
  pub so_far : DrivenTo driven request told
  pub transcript_is : Grows told.before.out told.after.out (transcript so_far.items ++ line)
  pub record_is : Grows told.before.rec told.after.rec (entries_text so_far.entries)

-- the last line of a text, if there is one
abbrev pub closing : (Last → List ℕ) → Option Last → List ℕ
closing line None = []
closing line (Some last) = line last

-- the last lines of a run that is done
abbrev pub last_done : EventSource → ℕ → ℕ → Last
last_done ReadScript reads writes = Ended reads writes
last_done (Generated seed) reads writes = Summary reads writes

-- the last lines after the driving, where there are some
abbrev pub last_after : Driven → EventSource → ℕ → ℕ → Option Last
last_after WholeScript events reads writes = Some (last_done events reads writes)
last_after (Bad n) events reads writes = Some (Stopped Script n)
last_after Long events reads writes = Some (Stopped LongScript 0)
last_after Unread events reads writes = Some (Stopped ReadFault 0)
last_after Unpaged events reads writes = Some (Stopped DrumFault 0)
last_after TakerFault events reads writes = None

-- The driving ended in some way, and each sink took a front of the text of the run so far, closed with the last lines
-- of this way: none, where it was the taker that failed.
pub record Fronts (request : Request) (told : Observed) : Type 0 where
  pub driven : Driven
  pub so_far : DrivenTo driven request told
  pub transcript_front : WrotePartly told.before.out told.after.out (transcript so_far.items ++ closing (λ l. end_line l (tally so_far.items so_far.entries)) (last_after driven request.events told.reads told.writes))
  pub record_front : WrotePartly told.before.rec told.after.rec (entries_text so_far.entries ++ closing record_end (last_after driven request.events told.reads told.writes))
