-- What the clauses say of a system: the pages, the jobs with their forks, the files and the clock, of which a part is in core.
use Rattle.std.specs.Prelude.{◌≡◌, ℕ, ◌+◌, ◌<◌, ◌≤◌, List, length, true, false, IfSome, Option, replicate}
use Rattle.machine_names.specs.Bounds.{IsForkName, IsTerminal}
use Rattle.machine_names.specs.declared.names.ForkName.{ForkName}
use Rattle.script_texts.specs.declared.event.Item.{Item}
use Rattle.script_texts.specs.declared.event.Step.{Step}
use Rattle.script_texts.specs.declared.event.Step.TheVariants.{Unit as AUnit}
use Rattle.page_contracts.specs.declared.answers.Need.{Need}
use Rattle.page_contracts.specs.declared.answers.Need.TheVariants.{Page}
use Rattle.page_contracts.specs.declared.store.TheConstants.{MOST_HELD, MOST_HELD_FOR_CONSOLE}
use Rattle.page_homes.specs.declared.homes.Home.{Home}
use Rattle.page_contracts.specs.DrumWords.{DrumWords, Stands}
use Rattle.page_contracts.specs.Stores.{StoreMeaning, IsNeeded, IsSound, Loses, StaysPlanned, traffic}
use Rattle.plain_model.specs.Forks.{runs_in}
use Rattle.plain_model.specs.State.{PlainState}
use Rattle.plain_model.specs.Trees.{PlainTree}
use Rattle.plain_model.specs.Run.{AreLegal, items_of, state_after}
use Rattle.event_deeds.specs.declared.deed.Deed.{Deed}
use Rattle.event_deeds.specs.Deeds.{IsNext, Task, deed, deed_of, entries_of, unit_of}
use Rattle.page_waits.specs.Seats.{UNHELD_FRAMES, has}
use Rattle.step_shown.specs.declared.progress.Progress.{Progress}
use Rattle.step_shown.specs.Echoes.{FitsEcho}
use Rattle.step_shown.specs.Replies.{FitsReply}
use Rattle.event_deeds.specs.declared.answer.Answer.{Answer}
use Rattle.event_deeds.specs.declared.answer.Showing.{Showing}
use Rattle.event_deeds.specs.declared.answer.Showing.TheVariants as showing

-- as many frames as one task may want for the pages that it makes: a unit, or a deed, for which some may be held
abbrev pub most_framed : Task → ℕ
most_framed (deed_of d) = MOST_HELD_FOR_CONSOLE
most_framed (unit_of f) = UNHELD_FRAMES

-- how many pages and maps a task refers to at most: fewer than may be held for it
abbrev pub most_wanted : Task → ℕ
most_wanted (deed_of d) = MOST_HELD_FOR_CONSOLE
most_wanted (unit_of f) = MOST_HELD

-- what holds of a store: it is sound, and has more frames than are held for forks
pub record IsHoused {S : Type 0} (means : StoreMeaning S) (s : S) : Type 0 where
  pub sound : IsSound means s
  pub many : means.flat ≡ false → UNHELD_FRAMES ≤ means.frames s

-- what the clauses say of a type of systems
pub record SystemMeaning (S : Type 0) : Type 1 where
  pub store : StoreMeaning S
  -- whether the words of this drum fit
  pub fits : S → DrumWords → Type 0
  -- the plain state over the words of a drum
  pub plain : S → DrumWords → PlainState
  -- the forks, which are told without a drum
  pub tree : S → PlainTree
  -- the homes of the pages and maps to which a task refers, over the words of a drum
  pub wants : S → DrumWords → Task → List ℕ
  -- so of a deed of which the tables alone tell them
  pub told : S → Deed → List ℕ
  -- how many pages and forks there may be
  pub limit : S → ℕ
  -- its counts are no higher than so many entries let them be
  pub within : S → ℕ → Type 0
  -- the items of what is shown, in the state that a deed or units leave
  pub items : PlainState → Showing → List Item
  -- over the words of a drum what is shown can be given: a page that is shown is in a frame
  pub gives : S → DrumWords → Showing → Type 0

-- the limits of what is shown
abbrev pub FitsShowing : Showing → Type 0
FitsShowing (showing.Reply reply) = FitsReply reply
FitsShowing (showing.Echo t shown) = IsTerminal t × FitsEcho shown
FitsShowing (showing.Told t shown) = IsTerminal t

-- so many units of a fork
abbrev pub row_of : ForkName → ℕ → List Step
row_of f n = replicate n (AUnit f)

-- the same forks are there, and as many pages may live
pub record StaysTold {S : Type 0} (means : SystemMeaning S) (old new : S) : Type 0 where
  pub tree : means.tree new ≡ means.tree old
  pub limit : means.limit new ≡ means.limit old
  pub homes : length (means.store.homes new) ≡ length (means.store.homes old)
  pub wants : means.told new ≡ means.told old
  pub within : (n : ℕ) → means.within old n → means.within new n

-- over the words of a drum before and after, the plain state is the same, and so is what each task refers to
pub record SameOver {S : Type 0} (means : SystemMeaning S) (old new : S) (d e : DrumWords) : Type 0 where
  pub fits : means.fits new e
  pub plain : means.plain new e ≡ means.plain old d
  pub wants : means.wants new e ≡ means.wants old d

-- over each drum that fits, the plain state is the same, and so is what each task refers to; and what could be given still can
pub record StaysState {S : Type 0} (means : SystemMeaning S) (old new : S) : Type 0 where
  pub told : StaysTold means old new
  pub each : (d : DrumWords) → means.fits old d → SameOver means old new d d
  pub gives : (d : DrumWords) (what : Showing) → means.fits old d → means.gives old d what → means.gives new d what

-- the same over what a drum told and tells
pub record StaysOver {S D : Type 0} (means : SystemMeaning S) (held : D → Option DrumWords) (old new : S) (drum drum' : D) : Type 0 where
  pub each : (d : DrumWords) → Stands means.store.flat (held drum) d → means.fits old d → (e : DrumWords) × Stands means.store.flat (held drum') e × SameOver means old new d e

-- A task needs something first, and leaves all as it was: a page or a map that is in no frame, to which it refers; or more frames than are free.
pub record Needs {S : Type 0} (means : SystemMeaning S) (x : Task) (old new : S) (need : Need) : Type 0 where
  pub state : StaysState means old new
  pub stored : StaysPlanned means.store old new
  pub frames : means.store.flat ≡ false
  pub needed : IsNeeded means.store (most_framed x) new need
  pub wanted : (d : DrumWords) (home : Home) → means.fits old d → need ≡ Page home → has home.0 (means.wants old d x) ≡ true

-- Units of a fork are done in a row: over each drum that fits they are legal, the plain state is the one that they leave, and what they show is the reply, which can be
-- given; and up to the last of them the same forks can run.
pub record DidUnits {S : Type 0} (means : SystemMeaning S) (f : ForkName) (old new : S) (done : Progress) : Type 0 where
  pub each : (d : DrumWords) → means.fits old d
      → means.fits new d × AreLegal true (means.plain old d) (row_of f done.count) × (means.plain new d ≡ state_after (means.plain old d) (row_of f done.count))
      × (means.items (means.plain new d) (showing.Reply done.reply) ≡ items_of (means.plain old d) (row_of f done.count)) × means.gives new d (showing.Reply done.reply)
  pub runs : (d : DrumWords) → means.fits old d → (k : ℕ) → k < done.count → (g : ForkName) → runs_in (state_after (means.plain old d) (row_of f k)).forks g ≡ runs_in (means.tree old).forks g
  pub named : IsForkName f
  pub shown : FitsShowing (showing.Reply done.reply)
  pub limit : means.limit new ≡ means.limit old
  pub within : (n : ℕ) → means.within old n → means.within new (n + done.count)
  pub loses : Loses (traffic means.store old) (traffic means.store new)

-- over the words of drums before and after, a deed is done: the plain state is the one that it leaves, what it shows is told, and what comes next
pub record DidAcross {S : Type 0} (means : SystemMeaning S) (d : Deed) (old new : S) (answer : Answer) (over over' : DrumWords) : Type 0 where
  pub fits : means.fits new over'
  pub plain : means.plain new over' ≡ (deed (means.plain old over) d).state
  pub items : means.items (means.plain new over') answer.showing ≡ (deed (means.plain old over) d).items
  pub next : answer.next ≡ (deed (means.plain old over) d).next
  pub gives : means.gives new over' answer.showing

-- a deed is done, over each drum that fits; what it shows can be given
pub record DidDeed {S : Type 0} (means : SystemMeaning S) (d : Deed) (old new : S) (answer : Answer) : Type 0 where
  pub each : (over : DrumWords) → means.fits old over → DidAcross means d old new answer over over
  pub next : IfSome answer.next IsNext
  pub shown : FitsShowing answer.showing
  pub limit : means.limit new ≡ means.limit old
  pub within : (n : ℕ) → means.within old n → means.within new (n + entries_of d)
  pub loses : Loses (traffic means.store old) (traffic means.store new)
