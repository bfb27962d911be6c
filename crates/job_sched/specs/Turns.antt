-- What is done to a schedule from one choice to the next, and who is chosen.
use Rattle.std.specs.Prelude.{◌≡◌, ℕ, ◌+◌, List, [], ◌∷◌, Bool, true, false, ◌&&◌, ◌||◌, if◌then◌else◌, ⊤}
use Rattle.machine_names.specs.declared.names.ForkName.{ForkName}
use Rattle.page_contracts.specs.declared.answers.Need.{Need}
use Rattle.job_sched.specs.declared.member.Member.{Member}
use Rattle.job_sched.specs.Schedules.{Schedule, is_ready, woken, admitted, waited, arrived, left, heads}
use Rattle.job_sched.specs.Units.{unit_ran}
use Rattle.job_sched.specs.Lines.{is_in_line}

-- The head is chosen, and it runs a unit, at the end of which its quantum may end; or it enters page wait; or it stops being able to run.
-- Or, with no choice: a fork that can run now is put outside; the set is filled; something arrives; another fork stops being able to run.
pub data Deed : Type 0 where
  Runs : Deed
  Waits : Need → Deed
  Stops : Deed
  Wakes : ForkName → Deed
  Admits : Deed
  Arrives : Need → Deed
  Leaves : ForkName → Deed

-- the head leaves, if there is one
abbrev pub head_left : List Member → Schedule → Schedule
head_left [] s = s
head_left (m ∷ ms) s = left s m.fork

-- the schedule behind a deed
abbrev pub done : Schedule → Deed → Schedule
done s Runs = unit_ran s.ready s
done s (Waits need) = waited s need
done s Stops = head_left s.ready s
done s (Wakes f) = woken s f
done s Admits = admitted s
done s (Arrives need) = arrived s need
done s (Leaves f) = left s f

-- whether there is a head
abbrev pub has_head : List Member → Bool
has_head [] = false
has_head (m ∷ ms) = true

-- whether a fork is chosen for a deed
abbrev pub chooses : Schedule → Deed → Bool
chooses s Runs = has_head s.ready
chooses s (Waits need) = has_head s.ready
chooses s Stops = has_head s.ready
chooses s (Wakes f) = false
chooses s Admits = false
chooses s (Arrives need) = false
chooses s (Leaves f) = false

-- in how many of these deeds, one after another, a fork is chosen
abbrev pub choices : Schedule → List Deed → ℕ
choices s [] = 0
choices s (d ∷ ds) = (if chooses s d then 1 else 0) + choices (done s d) ds

-- whether this fork is chosen in one of them
abbrev pub is_chosen : ForkName → Schedule → List Deed → Bool
is_chosen f s [] = false
is_chosen f s (d ∷ ds) = (chooses s d && heads f s.ready) || is_chosen f (done s d) ds

-- the fork stands in the ready list before each of them
abbrev pub StaysReady : ForkName → Schedule → List Deed → Type 0
StaysReady f s [] = ⊤
StaysReady f s (d ∷ ds) = (is_ready f s ≡ true) × StaysReady f (done s d) ds

-- the fork stands in the ready list or outside before each of them, and no fork is in page wait then
abbrev pub StaysInLine : ForkName → Schedule → List Deed → Type 0
StaysInLine f s [] = ⊤
StaysInLine f s (d ∷ ds) = (is_in_line f s ≡ true) × (s.waiting ≡ []) × StaysInLine f (done s d) ds
