-- Which entries the events of a script may have, and what the plain machine shows over them, from the
-- opening state on.
use Rattle.std.specs.Prelude.{◌≡◌, ◌⊎◌, ℕ, List, [], ◌∷◌, ◌++◌, Bool, true, ◌||◌}
use Rattle.script_texts.specs.declared.event.Event.{Event}
use Rattle.script_texts.specs.declared.event.Item.{Item}
use Rattle.script_texts.specs.declared.event.Step.{Step}
use Rattle.plain_model.specs.State.{PlainState, opening}
use Rattle.script_texts.specs.Follows.{Follows, Begins, Unfinished, auto_behind}
use Rattle.plain_model.specs.Run.{ShownFirst, IsLegal, AreLegal, state_after, items_of}
use Rattle.job_sched.specs.Schedules.{Schedule, empty}
use Rattle.page_contracts.specs.Stores.{members_of}
use Rattle.page_waits.specs.Calm.{AreCalmlyFair}
use Rattle.paged_events.specs.Turns.{TakesTurnsOver}
use Rattle.script_driver.specs.declared.driver.Driven.{Driven}
use Rattle.script_driver.specs.declared.driver.Driven.TheVariants.{DrumFault, TakerFault}

-- the entries of whole events, and those that there are of a last one, which was broken off
pub record BreaksOff (Part : Event → List Step → Type 0) (events : List Event) (entries : List Step) : Type 0 where
  pub whole : List Event
  pub last : Event
  pub before : List Step
  pub more : List Step
  pub events_are : events ≡ whole ++ last ∷ []
  pub entries_are : entries ≡ before ++ more
  pub follows : Follows whole before
  pub part : Part last more

-- which entries there are of these events where the driving ended like this
abbrev pub FollowsTo : Driven → List Event → List Step → Type 0
FollowsTo DrumFault events entries = BreaksOff Unfinished events entries
FollowsTo TakerFault events entries = Follows events entries ⊎ BreaksOff Begins events entries
FollowsTo driven events entries = Follows events entries

-- entries take their turns, from the lists of a machine of so many frames that has done nothing
pub record AreTaken (frames : ℕ) (s : PlainState) (entries : List Step) : Type 0 where
  pub behind : Schedule
  pub turns : TakesTurnsOver (empty (members_of frames)) s entries behind

-- legal entries of these events with so many frames and room for so many pages and forks, which pass no fork over for long
-- while they are calm, and take their turns; and their items
pub record AreEntries (flat : Bool) (frames limit : ℕ) (events : List Event) (entries : List Step) (items : List Item) : Type 0 where
  pub follows : Follows events entries
  pub legal : IsLegal flat true (opening limit) events entries follows
  pub calm : AreCalmlyFair frames (opening limit) events entries follows
  pub turns : AreTaken frames (opening limit) entries
  pub shown : items ≡ items_of (opening limit) entries

-- legal entries of these events, the last of which was broken off
pub record AreBroken (flat : Bool) (limit : ℕ) (Part : Event → List Step → Type 0) (events : List Event) (entries : List Step) : Type 0 where
  pub breaks : BreaksOff Part events entries
  pub legal : IsLegal flat true (opening limit) breaks.whole breaks.before breaks.follows
  pub last_legal : AreLegal (flat || auto_behind true breaks.whole) (state_after (opening limit) breaks.before) breaks.more

-- legal entries of these events, the last of which has only begun, and their items
pub record AreBegun (flat : Bool) (limit : ℕ) (events : List Event) (entries : List Step) (items : List Item) : Type 0 where
  pub broken : AreBroken flat limit Begins events entries
  pub shown : items ≡ items_of (opening limit) entries

-- legal entries of these events, the last of which the drum broke off, and their items: its turns so far,
-- or the first items of what it shows
pub record AreUnfinished (flat : Bool) (limit : ℕ) (events : List Event) (entries : List Step) (items : List Item) : Type 0 where
  pub broken : AreBroken flat limit Unfinished events entries
  pub later : List Item
  pub first : ShownFirst (state_after (opening limit) entries) broken.breaks.last later
  pub shown : items ≡ items_of (opening limit) entries ++ later

-- legal entries of these events, and their items, where the driving ended like this
abbrev pub RunsTo : Bool → (frames limit : ℕ) → Driven → List Event → List Step → List Item → Type 0
RunsTo flat frames limit DrumFault events entries items = AreUnfinished flat limit events entries items
RunsTo flat frames limit TakerFault events entries items = AreEntries flat frames limit events entries items ⊎ AreBegun flat limit events entries items
RunsTo flat frames limit driven events entries items = AreEntries flat frames limit events entries items
