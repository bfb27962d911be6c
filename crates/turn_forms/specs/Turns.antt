-- How the lists move from one entry of a run to the next, and whose a unit is (CACM paper, "Scheduling").
use Rattle.std.specs.Prelude.{◌≡◌, ℕ, ◌≤◌, List, [], ◌∷◌, Bool, true, ⊤, Some, if◌then◌else◌}
use Rattle.std.specs.FinMap as map_of
use Rattle.machine_names.specs.declared.names.ForkName.{ForkName}
use Rattle.machine_names.specs.declared.names.Tty.{Tty}
use Rattle.script_texts.specs.declared.event.Event.{Event}
use Rattle.script_texts.specs.declared.event.Event.TheVariants.{TypeIn}
use Rattle.script_texts.specs.declared.event.Step.{Step}
use Rattle.script_texts.specs.declared.event.Step.TheVariants.{Outer, Unit as AUnit, Idle}
use Rattle.page_contracts.specs.declared.answers.Need.{Need}
use Rattle.job_sched.specs.Schedules.{Schedule, arrived, heads, size, started, stopped, waited}
use Rattle.job_sched.specs.Ties.{AreListed, IsFilled, with_fork, without_fork}
use Rattle.job_sched.specs.Units.{IsTimed, unit_ran}
use Rattle.plain_model.specs.declared.fork.Fork.{Fork}
use Rattle.plain_model.specs.Forks.{ForkMap, runs_in}
use Rattle.plain_model.specs.Moves.{Move, Stops, Starts, moves}
use Rattle.plain_model.specs.Run.{apply}
use Rattle.plain_model.specs.State.{PlainState}
use Rattle.plain_model.specs.TypeEvents.{typed_at}

-- what happens to the lists between entries: the head waits for something, or something arrives
pub data Silent : Type 0 where
  Waits : Need → Silent
  Arrives : Need → Silent

-- the lists behind such, one after another
abbrev pub moved_silently : List Silent → Schedule → Schedule
moved_silently [] c = c
moved_silently (Waits need ∷ ms) c = moved_silently ms (waited c need)
moved_silently (Arrives done ∷ ms) c = moved_silently ms (arrived c done)

-- the lists behind moves, one after another: who stops leaves them, who starts is put last outside, and each time the set is filled
abbrev pub moved : List Move → Schedule → Schedule
moved [] c = c
moved (Stops f ∷ ms) c = moved ms (stopped c f)
moved (Starts f ∷ ms) c = moved ms (started c f)

-- each fork that lives still is in the slot in which it was
abbrev pub KeepSlots : ForkMap → ForkMap → Type 0
KeepSlots before after = (f : ForkName) (g h : Fork) → map_of.get before f ≡ Some g → map_of.get after f ≡ Some h → h.slot ≡ g.slot

-- which forks can run behind moves
abbrev pub runs_behind : List Move → (ForkName → Bool) → ForkName → Bool
runs_behind [] runs = runs
runs_behind (Stops f ∷ ms) runs = runs_behind ms (without_fork runs f)
runs_behind (Starts f ∷ ms) runs = runs_behind ms (with_fork runs f)

-- the lists behind acts, which leave these forks one after another
abbrev pub moved_by : ForkMap → List ForkMap → Schedule → Schedule
moved_by before [] c = c
moved_by before (after ∷ rest) c = moved_by after rest (moved (moves before after) c)

-- the forks behind each character that is typed
abbrev pub typed_acts : PlainState → Tty → List ℕ → List ForkMap
typed_acts s t [] = []
typed_acts s t (c ∷ cs) = let e = typed_at s t c in e.state.forks ∷ typed_acts e.state t cs

-- the forks behind each act of an event: each character of a TYPE is one, and any other event is one
abbrev pub acts_of : PlainState → Event → List ForkMap
acts_of s (TypeIn t text) = typed_acts s t text
acts_of s e = (apply s (Outer e)).state.forks ∷ []

-- a unit more is counted to the quantum of a fork, where that is the head
abbrev pub counted_to : ForkName → Schedule → Schedule
counted_to f c = if heads f c.ready then unit_ran c.ready c else c

-- the lists behind an entry: first they follow what it did, and a unit is counted last, where its fork still is the head
abbrev pub behind : PlainState → Step → Schedule → Schedule
behind s (Outer e) c = moved_by s.forks (acts_of s e) c
behind s (AUnit f) c = counted_to f (moved (moves s.forks (apply s (AUnit f)).state.forks) c)
behind s Idle c = c

-- what the lists are before an entry of a run: in them are the forks that can run; and while the set, which may have a member, has room nobody is outside
pub record AreReady (forks : ForkMap) (c : Schedule) : Type 0 where
  pub listed : AreListed (runs_in forks) c
  pub filled : IsFilled c
  pub timed : IsTimed c
  pub some : 1 ≤ size c

-- a unit is of the head of the ready list, and an idle entry comes where that is empty
abbrev pub IsTurnOf : Schedule → Step → Type 0
IsTurnOf c (Outer e) = Unit {0}
IsTurnOf c (AUnit f) = heads f c.ready ≡ true
IsTurnOf c Idle = c.ready ≡ []

-- WHOSE TURN IT IS: so of each entry, with the lists as those before it and what happens between leave them, and these are the lists behind all
abbrev pub TakesTurns : Schedule → PlainState → List Step → Schedule → Type 0
TakesTurns c s [] c' = (quiet : List Silent) × (c' ≡ moved_silently quiet c)
TakesTurns c s (x ∷ xs) c' = (quiet : List Silent) × AreReady s.forks (moved_silently quiet c) × IsTurnOf (moved_silently quiet c) x × TakesTurns (behind s x (moved_silently quiet c)) (apply s x).state xs c'

-- nothing happens between entries, and no fork is in page wait before any
abbrev pub AreCalm : (c : Schedule) (s : PlainState) (xs : List Step) (c' : Schedule) → TakesTurns c s xs c' → Type 0
AreCalm c s [] c' turns = ⊤
AreCalm c s (x ∷ xs) c' turns = (turns.0 ≡ []) × (c.waiting ≡ []) × AreCalm (behind s x (moved_silently turns.0 c)) (apply s x).state xs c' turns.3
