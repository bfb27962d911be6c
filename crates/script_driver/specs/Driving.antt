-- How far the events were driven, and what the taker was given.
use Rattle.std.specs.Prelude.{◌≡◌, ℕ, ◌<◌, List, length, replicate, All, Bool, true, false, Option}
use Rattle.script_texts.specs.declared.event.Event.{Event}
use Rattle.script_texts.specs.declared.event.Item.{Item}
use Rattle.script_texts.specs.declared.event.Step.{Step}
use Rattle.plain_model.specs.State.{PlainState, opening}
use Rattle.plain_model.specs.Run.{state_after}
use Rattle.script_texts.specs.Limits.{FitsEvent}
use Rattle.page_contracts.specs.DrumWords.{DrumWords, Stands}
use Rattle.job_sched.specs.Schedules.{empty}
use Rattle.page_contracts.specs.Stores.{FitsHomes, free, members_of}
use Rattle.script_texts.specs.Taker.{GoesOn, IsCut, max_steps}
use Rattle.page_waits.specs.InCore.{IsInCore}
use Rattle.page_waits.specs.Machines.{IsBare}
use Rattle.page_waits.specs.Systems.{SystemMeaning}
use Rattle.paged_events.specs.declared.machine.Machine.{Machine}
use Rattle.paged_events.specs.Given.{IsWithin}
use Rattle.script_driver.specs.declared.driver.Driven.{Driven}
use Rattle.script_driver.specs.declared.driver.Driven.TheVariants.{Done, TakerFault}
use Rattle.script_driver.specs.Machines.{auto, done, frames, is_live, limit}
use Rattle.script_driver.specs.OverFrames.{ArePlaced}
use Rattle.script_driver.specs.Runs.{FollowsTo, RunsTo}

-- what the taker was given where the driving ended like this: all, or it is cut within
abbrev pub Handed : {K : Type 0} → (stands cut : K → K → List Item → List Step → Type 0) → (out out' : K) → Driven → List Item → List Step → Type 0
Handed stands cut out out' TakerFault items entries = IsCut stands cut out out' items entries
Handed stands cut out out' driven items entries = GoesOn stands out out' items entries

module _ {S : Type 0} (means : SystemMeaning S) where
  -- over these words of a drum a system stands for this plain state
  pub record StandsFor (s : S) (d : DrumWords) (p : PlainState) : Type 0 where
    pub fit : means.fits s d
    pub state : means.plain s d ≡ p

  -- before the driving these words stood on the drum, and over them the system stood for the opening state
  pub record OpensOver {D : Type 0} (held : D → Option DrumWords) (s : S) (drum : D) (d : DrumWords) : Type 0 where
    pub stood : Stands means.store.flat (held drum) d
    pub opened : StandsFor s d (opening (means.limit s))

-- legal entries, and what the taker was given of them, where the driving ended like this
pub record GivenTo {K : Type 0} (flat : Bool) (frames limit : ℕ) (stands cut : K → K → List Item → List Step → Type 0) (driven : Driven) (out out' : K)
    (events : List Event) (entries : List Step) : Type 0 where
  pub items : List Item
  pub run : RunsTo flat frames limit driven events entries items
  pub given : Handed stands cut out out' driven items entries

-- How the driving ended: the events, which are of this kind, and their entries, whatever is told; and over what the
-- drum told, what the taker was given, and, where all events were run, which pages the drum has.
pub record RanTo {S D K : Type 0} (means : SystemMeaning S) (held : D → Option DrumWords) (s : S) (drum drum' : D)
    (stands cut : K → K → List Item → List Step → Type 0) (driven : Driven) (out out' : K) (AreThey : List Event → Type 0) : Type 0 where
  pub events : List Event
  pub entries : List Step
  pub fit : All FitsEvent events
  pub follows : FollowsTo driven events entries
  pub few : length entries < max_steps
  pub found : AreThey events
  pub told : (d : DrumWords) → OpensOver means held s drum d
      → GivenTo means.store.flat (means.store.frames s) (means.limit s) stands cut driven out out' events entries
  pub placed : driven ≡ Done → means.store.flat ≡ false → (d : DrumWords) → OpensOver means held s drum d
      → ArePlaced (means.store.frames s) (state_after (opening (means.limit s)) entries) (held drum')

-- a machine that goes on and has done nothing, with AUTO on, for whose console nothing is held; no fork is in its lists, and all of its pages are in core
pub record IsNew {S : Type 0} {b : _} (m : Machine S b) : Type 0 where
  pub live : is_live m ≡ true
  pub auto_on : auto m ≡ true
  pub none : done m ≡ 0
  pub bare : IsBare m.waits
  pub within : IsWithin b.means m.waits.system (done m)
  pub empty : m.waits.lists.sched ≡ empty (members_of (frames m))
  pub core : IsInCore b.means (frames m) m.waits.system m.waits.lists

-- a new machine of so many frames with room for so many pages and forks, which stands for the opening state over any drum with so many pages
pub record IsBooted {S : Type 0} {b : _} (core room : ℕ) (m : Machine S b) : Type 0 where
  pub new : IsNew m
  pub core_is : frames m ≡ core
  pub room_is : limit m ≡ room
  pub opened : (d : DrumWords) → FitsHomes (replicate room free) d → StandsFor b.means m.waits.system d (opening room)

-- what the driving of a machine came to, where the events are of this kind
abbrev pub Drove : {S D K : Type 0} {b : _} → (D → Option DrumWords) → (stands cut : K → K → List Item → List Step → Type 0)
    → Machine S b → (drum drum' : D) → (AreThey : List Event → Type 0) → (out out' : K) → Driven → Type 0
Drove {b = b} held stands cut m drum drum' AreThey out out' driven = RanTo b.means held m.waits.system drum drum' stands cut driven out out' AreThey
