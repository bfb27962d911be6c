-- What each status of a run that began tells.
use Rattle.std.specs.Prelude.{◌≡◌, ℕ, List, IsSome}
use Rattle.script_texts.specs.declared.event.Event.{Event}
use Rattle.script_texts.specs.Script.{IsScript, StopsAt, IsTooLong}
use Rattle.command_words.specs.declared.request.EventSource.{EventSource}
use Rattle.command_words.specs.declared.request.Request.{Request}
use Rattle.command_words.specs.declared.sizes.Sizes.{Sizes}
use Rattle.texts.specs.declared.last.Status.{Status}
use Rattle.texts.specs.declared.last.Status.TheVariants.{Done, Usage, Script, DrumFault, Memory, ReadFault, WriteFault, LongScript, Illegal, Assembly, Image}
use Rattle.texts.specs.Ends.{closing_line}
use Rattle.script_driver.specs.declared.driver.Driven.{Driven}
use Rattle.script_driver.specs.declared.driver.Driven.TheVariants.{Done as WholeScript, Bad, Long, ReadFault as Unread, DrumFault as Unpaged, TakerFault}
use Rattle.script_driver.specs.RunTexts.{Part, Fronts}
use Rattle.script_driver.specs.Observed.{Observed}
use Rattle.script_driver.specs.OverFrames.{RunsOverFrames}

-- what was told of a run that was asked for like this, began and has this status
abbrev pub Ran : Request → Observed → Status → Type 0
Ran request told Done = RunsOverFrames request.events request.sizes told
Ran request told Usage = ⊥
Ran request told Script = (n : ℕ) × Part (Bad n) (closing_line Script n) request told
Ran request told DrumFault = Part Unpaged (closing_line DrumFault 0) request told
Ran request told Memory = ⊥
Ran request told ReadFault = Part Unread (closing_line ReadFault 0) request told
Ran request told WriteFault = Fronts request told
Ran request told LongScript = Part Long (closing_line LongScript 0) request told
Ran request told Illegal = ⊥
Ran request told Assembly = ⊥
Ran request told Image = ⊥

-- what was told of a run of these events with this status, of so many frames and pages of the drum, where the drum told its pages
abbrev pub RanWith : EventSource → (frames pages : ℕ) → Observed → Status → Type 0
RanWith events frames pages told status =
    (sizes : Sizes) → sizes.frames ≡ frames → sizes.drum ≡ pages → IsSome told.before.drum → Ran (record { events = events; sizes = sizes }) told status

-- a status of a run that began
abbrev pub IsOfRun : Status → Type 0
IsOfRun Usage = ⊥
IsOfRun Memory = ⊥
IsOfRun Illegal = ⊥
IsOfRun Assembly = ⊥
IsOfRun Image = ⊥
IsOfRun status = Unit {0}

-- a status that judges the script is that of its bytes
abbrev pub Judges : Status → List ℕ → Type 0
Judges Done script = (events : List Event) × IsScript script events
Judges Script script = (n : ℕ) × (events : List Event) × StopsAt n script events
Judges LongScript script = (events : List Event) × IsTooLong script events
Judges Illegal script = ⊥
Judges Assembly script = ⊥
Judges Image script = ⊥
Judges status script = Unit {0}

-- the status after the driving
abbrev pub status_after : Driven → Status
status_after WholeScript = Done
status_after (Bad n) = Script
status_after Long = LongScript
status_after Unread = ReadFault
status_after Unpaged = DrumFault
status_after TakerFault = WriteFault
