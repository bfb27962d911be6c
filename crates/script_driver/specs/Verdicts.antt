-- Which events were run where the driving ended: what is found of the script, or how much of the generated one.
use Rattle.std.specs.Prelude.{◌≡◌, ℕ, List, [], ◌++◌, Option, Some}
use Rattle.script_texts.specs.declared.event.Event.{Event}
use Rattle.script_texts.specs.Script.{IsScript, StopsAt, IsTooLong, IsReadTo, BeginsWith}
use Rattle.script_lang.specs.Generator.{big_events}
use Rattle.command_words.specs.declared.request.EventSource.{EventSource}
use Rattle.command_words.specs.declared.request.EventSource.TheVariants.{Script, Generated}
use Rattle.script_driver.specs.declared.driver.Driven.{Driven}
use Rattle.script_driver.specs.declared.driver.Driven.TheVariants.{Done, Bad, Long, ReadFault, DrumFault, TakerFault}

-- A script that told its bytes has lost some of them from its front: this is so of those that were taken
-- and of those that are left.
pub record Found (script script' : Option (List ℕ)) (P : (taken rest : List ℕ) → Type 0) : Type 0 where
  pub each : (bytes : List ℕ) → script ≡ Some bytes → (taken : List ℕ) × (rest : List ℕ) × (bytes ≡ taken ++ rest) × (script' ≡ Some rest) × P taken rest

-- what the bytes that were taken and those that are left are found to be where the driving ended like this
abbrev pub Verdict : Driven → List Event → (taken rest : List ℕ) → Type 0
Verdict Done events taken rest = IsScript taken events × (rest ≡ [])
Verdict (Bad n) events taken rest = StopsAt n (taken ++ rest) events
Verdict Long events taken rest = IsTooLong (taken ++ rest) events
Verdict ReadFault events taken rest = IsReadTo taken events
Verdict DrumFault events taken rest = BeginsWith taken events
Verdict TakerFault events taken rest = BeginsWith taken events

-- the generated script of this seed begins with these events
abbrev pub BeginsGenerated : ℕ → List Event → Type 0
BeginsGenerated seed events = (later : List Event) × (big_events seed ≡ events ++ later)

-- the events are those of the generated script of this seed, or the first of them where the driving ended within
abbrev pub AreGenerated : ℕ → Driven → List Event → Type 0
AreGenerated seed Done events = events ≡ big_events seed
AreGenerated seed (Bad n) events = ⊥
AreGenerated seed Long events = ⊥
AreGenerated seed ReadFault events = ⊥
AreGenerated seed DrumFault events = BeginsGenerated seed events
AreGenerated seed TakerFault events = BeginsGenerated seed events

-- the events that were run, where the driving ended like this; a script that is not asked for stays
abbrev pub AreRun : EventSource → (script script' : Option (List ℕ)) → Driven → List Event → Type 0
AreRun Script script script' driven events = Found script script' (Verdict driven events)
AreRun (Generated seed) script script' driven events = AreGenerated seed driven events × (script' ≡ script)
