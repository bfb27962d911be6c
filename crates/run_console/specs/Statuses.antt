-- What each status tells.
use Rattle.std.specs.Prelude.{◌⊎◌, ℕ, List, IsSome, String}
use Rattle.command_words.specs.declared.request.Request.{Request}
use Rattle.texts.specs.declared.last.Status.{Status}
use Rattle.texts.specs.declared.last.Status.TheVariants.{Usage, DrumFault, Memory, ReadFault, WriteFault, Illegal, Assembly, Image}
use Rattle.texts.specs.Ends.{closing_line}
use Rattle.script_driver.specs.Observed.{Observed}
use Rattle.script_driver.specs.Statuses.{Ran}
use Rattle.run_console.specs.Command.{IsAsked}
use Rattle.run_console.specs.Headline.{Only, OnlyFront}

-- the words ask for a run, and there was one with this status, of which this was told where the drum told its pages
abbrev pub RanAsked : {Z : Type 0} → List (String Z) → ℕ → Observed → Status → Type 0
RanAsked words drum_pages told status = (request : Request) × IsAsked words drum_pages request × (IsSome told.before.drum → Ran request told status)

-- what was told on each status; those of other commands never come
abbrev pub Tells : {Z : Type 0} → List (String Z) → ℕ → Observed → Status → Type 0
Tells words drum_pages told Usage = Only (closing_line Usage 0) told
Tells words drum_pages told Memory = Only (closing_line Memory 0) told
Tells words drum_pages told WriteFault = OnlyFront words drum_pages told ⊎ RanAsked words drum_pages told WriteFault
Tells words drum_pages told Illegal = ⊥
Tells words drum_pages told Assembly = ⊥
Tells words drum_pages told Image = ⊥
Tells words drum_pages told status = RanAsked words drum_pages told status

-- a status of a run that tells of no fault
abbrev pub IsFaultless : Status → Type 0
IsFaultless DrumFault = ⊥
IsFaultless ReadFault = ⊥
IsFaultless WriteFault = ⊥
IsFaultless Illegal = ⊥
IsFaultless Assembly = ⊥
IsFaultless Image = ⊥
IsFaultless status = Unit {0}

-- wrong words are Usage, unless there was no memory to read them, or the line of the status was not written
abbrev pub IsUsageOrBefore : Status → Type 0
IsUsageOrBefore Usage = Unit {0}
IsUsageOrBefore Memory = Unit {0}
IsUsageOrBefore WriteFault = Unit {0}
IsUsageOrBefore status = ⊥

-- a status that comes before anything is run
abbrev pub IsEarly : Status → Type 0
IsEarly Usage = Unit {0}
IsEarly Memory = Unit {0}
IsEarly status = ⊥
