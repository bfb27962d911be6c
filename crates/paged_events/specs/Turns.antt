-- WHOSE TURN IT IS, entry by entry, and how the lists move from one entry to the next: over the plain machine, where what is transferred shows in no entry
-- (CACM paper, "Scheduling").
use Rattle.std.specs.Prelude.{◌≡◌, ℕ, zero, suc, List, [], ◌∷◌, MatchOption, Option, ⊤}
use Rattle.event_deeds.specs.Deeds.{deed, most_deeds}
use Rattle.event_deeds.specs.declared.deed.Deed.{Deed}
use Rattle.event_deeds.specs.declared.deed.Deed.TheVariants.{Typed}
use Rattle.fork_lists.specs.declared.lists.ForkLists.{ForkLists}
use Rattle.fork_lists.specs.Following.{last_counted}
use Rattle.job_sched.specs.Schedules.{Schedule}
use Rattle.machine_names.specs.declared.names.ForkName.{ForkName}
use Rattle.machine_names.specs.declared.names.Tty.{Tty}
use Rattle.page_contracts.specs.declared.answers.Need.{Need}
use Rattle.page_contracts.specs.DrumWords.{DrumWords, Stands}
use Rattle.page_waits.specs.Systems.{SystemMeaning}
use Rattle.page_waits.specs.Told.{MovesSilently, TookDeed, all_arrived}
use Rattle.plain_model.specs.Forks.{ForkMap, runs_in}
use Rattle.plain_model.specs.Moves.{moves}
use Rattle.plain_model.specs.Run.{apply}
use Rattle.plain_model.specs.State.{PlainState}
use Rattle.plain_model.specs.TypeEvents.{typed_at}
use Rattle.script_texts.specs.declared.event.Event.{Event}
use Rattle.script_texts.specs.declared.event.Event.TheVariants.{TypeIn}
use Rattle.script_texts.specs.declared.event.Step.{Step}
use Rattle.script_texts.specs.declared.event.Step.TheVariants.{Outer, Unit as AUnit, Idle}
use Rattle.turn_forms.specs.Turns.{AreReady, IsTurnOf, moved}

-- The lists behind a unit of a fork, from these forks to those: they follow the forks, as they were when the same could run as before the unit; then what was taken
-- from the queue is told; and the unit is counted last, where its fork still is the head.
pub record TookUnit (f : ForkName) (before after : ForkMap) (old new : Schedule) : Type 0 where
  pub seen : ForkMap
  pub same : (g : ForkName) → runs_in seen g ≡ runs_in before g
  pub needs : List Need
  pub counted : new ≡ last_counted f (all_arrived needs (moved (moves seen after) old))

-- the lists behind the deeds of a character, so many at most: behind each they follow the forks, and things are told, and before the next the lists may move silently
abbrev pub TookDeeds : ℕ → PlainState → Deed → Schedule → Schedule → Type 0
TookDeeds zero s d old new = new ≡ old
TookDeeds (suc n) s d old new =
    let e = deed s d in (mid : Schedule) × TookDeed s.forks e.state.forks old mid × MatchOption e.next (new ≡ mid) (λ next. TookDeeds n e.state next mid new)

-- so behind each character of a text
abbrev pub TookText : PlainState → Tty → List ℕ → Schedule → Schedule → Type 0
TookText s t [] old new = new ≡ old
TookText s t (c ∷ cs) old new = (mid : Schedule) × TookDeeds most_deeds s (Typed t c) old mid × TookText (typed_at s t c).state t cs mid new

-- the lists behind an event: a TYPE is done in the deeds of its characters, and any other is one deed
abbrev pub TookEvent : PlainState → Event → Schedule → Schedule → Type 0
TookEvent s (TypeIn t text) old new = TookText s t text old new
TookEvent s e old new = TookDeed s.forks (apply s (Outer e)).state.forks old new

-- the lists behind an entry
abbrev pub TookEntry : PlainState → Step → Schedule → Schedule → Type 0
TookEntry s (Outer e) old new = TookEvent s e old new
TookEntry s (AUnit f) old new = TookUnit f s.forks (apply s (AUnit f)).state.forks old new
TookEntry s Idle old new = new ≡ old

-- WHOSE TURN IT IS: before each entry the lists move silently, by waits and arrivals, and then in them are the forks that can run; a unit is of the head of the
-- ready list, and an idle entry comes where that is empty; behind each the lists are as it leaves them, and these are the lists behind all.
abbrev pub TakesTurnsOver : Schedule → PlainState → List Step → Schedule → Type 0
TakesTurnsOver c s [] c' = MovesSilently c c'
TakesTurnsOver c s (x ∷ xs) c' =
    (begun mid : Schedule) × MovesSilently c begun × AreReady s.forks begun × IsTurnOf begun x × TookEntry s x begun mid × TakesTurnsOver mid (apply s x).state xs c'

-- behind a unit nothing was told
abbrev pub ToldNothing : (s : PlainState) (x : Step) (old new : Schedule) → TookEntry s x old new → Type 0
ToldNothing s (Outer e) old new took = ⊤
ToldNothing s (AUnit f) old new took = took.needs ≡ []
ToldNothing s Idle old new took = ⊤

-- turns of a run by which no transfer can be seen: no fork is in page wait before any, nothing happens silently before any, and nothing is told behind a unit
abbrev pub AreCalmOver : (c : Schedule) (s : PlainState) (xs : List Step) (c' : Schedule) → TakesTurnsOver c s xs c' → Type 0
AreCalmOver c s [] c' turns = ⊤
AreCalmOver c s (x ∷ xs) c' turns = (turns.0 ≡ c) × (c.waiting ≡ []) × ToldNothing s x turns.0 turns.1 turns.5 × AreCalmOver turns.1 (apply s x).state xs c' turns.6

module _ {S D : Type 0} (means : SystemMeaning S) (held : D → Option DrumWords) where
  -- over what a drum told, so it is of the plain state
  abbrev pub WhereTold : S → D → (PlainState → Type 0) → Type 0
  WhereTold s drum so = (words : DrumWords) → Stands means.store.flat (held drum) words → means.fits s words → so (means.plain s words)

  -- there these steps take their turns, from these lists to those
  abbrev pub AreTurnsOver : List Step → S → ForkLists → ForkLists → D → Type 0
  AreTurnsOver steps s l l' drum = WhereTold s drum (λ p. TakesTurnsOver l.sched p steps l'.sched)
