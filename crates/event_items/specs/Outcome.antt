-- What one event of a machine did, over what its drum tells.
use Rattle.std.specs.Prelude.{◌≡◌, ℕ, ◌≤◌, List, ◌++◌, Bool, ◌||◌, Option}
use Rattle.script_texts.specs.declared.event.Event.{Event}
use Rattle.script_texts.specs.declared.event.Item.{Item}
use Rattle.script_texts.specs.declared.event.Step.{Step}
use Rattle.plain_model.specs.State.{PlainState}
use Rattle.script_texts.specs.Follows.{Begins, Unfinished}
use Rattle.plain_model.specs.Run.{ShownFirst, AreLegal, state_after, items_of}
use Rattle.script_texts.specs.Taker.{GoesOn, IsCut}
use Rattle.page_contracts.specs.DrumWords.{DrumWords, Stands}

-- the mark by which idle entries are judged: where all pages are in memory no fork waits for a transfer, so
-- that none may stand where a fork can run, whatever the AUTO mark
abbrev pub judged_by : Bool → Bool → Bool
judged_by flat auto = flat || auto

-- legal steps led from one plain state to the other, and were given with their items
pub record Gave {T : Type 0} (stands : T → T → List Item → List Step → Type 0) (out out' : T) (auto : Bool) (old new : PlainState) (steps : List Step) : Type 0 where
  pub legal : AreLegal auto old steps
  pub state : new ≡ state_after old steps
  pub given : GoesOn stands out out' (items_of old steps) steps

-- the taker failed within these steps, the last of them the one at hand
pub record GaveCut {T : Type 0} (stands cut : T → T → List Item → List Step → Type 0) (out out' : T) (auto : Bool) (old : PlainState) (steps : List Step) : Type 0 where
  pub legal : AreLegal auto old steps
  pub given : IsCut stands cut out out' (items_of old steps) steps

-- the legal steps of an event that was not finished were given, and what was shown of one that was not
pub record GaveSoFar {T : Type 0} (stands : T → T → List Item → List Step → Type 0) (out out' : T) (auto : Bool) (event : Event) (old : PlainState) (steps : List Step) : Type 0 where
  pub shown : List Item
  pub legal : AreLegal auto old steps
  pub first : ShownFirst (state_after old steps) event shown
  pub given : GoesOn stands out out' (items_of old steps ++ shown) steps

-- the size of a drum stays, and none of its counts has fallen
pub record DrumStays {D : Type 0} (faults reads writes size : D → ℕ) (old new : D) : Type 0 where
  pub faults_later : faults old ≤ faults new
  pub reads_later : reads old ≤ reads new
  pub writes_later : writes old ≤ writes new
  pub same_size : size new ≡ size old

-- A machine and its drum before and after: which words of a drum fit the machine, and the plain state
-- that it then stands for.
module _ {M D T : Type 0} (flat : Bool) (fits : M → DrumWords → Type 0) (plain : M → DrumWords → PlainState) (held : D → Option DrumWords) where
  -- over what the drum told and tells, these steps were given
  pub record GaveOver (stands : T → T → List Item → List Step → Type 0) (m m' : M) (drum drum' : D) (out out' : T) (auto : Bool) (steps : List Step) : Type 0 where
    pub each : (d : DrumWords) → Stands flat (held drum) d → fits m d
        → (e : DrumWords) × Stands flat (held drum') e × fits m' e × Gave stands out out' (judged_by flat auto) (plain m d) (plain m' e) steps

  -- over what the drum told, the taker failed within these steps
  pub record CutOver (stands cut : T → T → List Item → List Step → Type 0) (m : M) (drum : D) (out out' : T) (auto : Bool) (steps : List Step) : Type 0 where
    pub each : (d : DrumWords) → Stands flat (held drum) d → fits m d → GaveCut stands cut out out' (judged_by flat auto) (plain m d) steps

  -- over what the drum told, these steps were given before the drum failed
  pub record GaveBefore (stands : T → T → List Item → List Step → Type 0) (m : M) (drum : D) (out out' : T) (auto : Bool) (event : Event) (steps : List Step) : Type 0 where
    pub each : (d : DrumWords) → Stands flat (held drum) d → fits m d → GaveSoFar stands out out' (judged_by flat auto) event (plain m d) steps

  -- the drum failed: of the event, the steps that were given are the turns so far, or none
  pub record Stopped (stands : T → T → List Item → List Step → Type 0) (m : M) (drum : D) (out out' : T) (auto : Bool) (event : Event) : Type 0 where
    pub steps : List Step
    pub unfinished : Unfinished event steps
    pub told : GaveBefore stands m drum out out' auto event steps

  -- the taker failed: it is cut within steps with which the event's may begin
  pub record CutOff (stands cut : T → T → List Item → List Step → Type 0) (m : M) (drum : D) (out out' : T) (auto : Bool) (event : Event) : Type 0 where
    pub steps : List Step
    pub begins : Begins event steps
    pub told : CutOver stands cut m drum out out' auto steps
