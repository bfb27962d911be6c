-- What happens silently, one thing after another.
use Rattle.std.proofs.Common.{◌≡◌, List, [], ◌∷◌, ◌++◌, refl, sym, ◌∙◌, ap}
use Rattle.job_sched.specs.Schedules.{Schedule, arrived, waited}
use Rattle.page_contracts.specs.declared.answers.Need.{Need}
use Rattle.turn_forms.specs.Turns.{Silent, Arrives, Waits, moved, moved_silently}
use Rattle.page_waits.specs.Told.{AllTold, MovesSilently, TookDeed, TookRow, all_arrived}
use Rattle.machine_names.specs.declared.names.ForkName.{ForkName}
use Rattle.std.specs.Prelude.{ℕ, Bool}
use Rattle.plain_model.specs.Forks.{ForkMap}
use Rattle.plain_model.specs.Moves.{moves}

silently_on : (xs ys : List Silent) (c : Schedule) → moved_silently (xs ++ ys) c ≡ moved_silently ys (moved_silently xs c)
silently_on [] ys c = refl
silently_on (Waits need ∷ xs) ys c = silently_on xs ys (waited c need)
silently_on (Arrives need ∷ xs) ys c = silently_on xs ys (arrived c need)

pub silent_nil : (c : Schedule) → MovesSilently c c
silent_nil c = record { silent = []; are = refl }

pub silent_wait : (c d : Schedule) (need : Need) → d ≡ waited c need → MovesSilently c d
silent_wait c d need is = record { silent = Waits need ∷ []; are = is }

pub silent_arrival : (c d : Schedule) (need : Need) → d ≡ arrived c need → MovesSilently c d
silent_arrival c d need is = record { silent = Arrives need ∷ []; are = is }

pub silent_then : (a b c : Schedule) → MovesSilently a b → MovesSilently b c → MovesSilently a c
silent_then a b c f g = record { silent = f.silent ++ g.silent; are = g.are ∙ ap (moved_silently g.silent) f.are ∙ sym (silently_on f.silent g.silent a) }

-- a row that was run behind what happened silently
pub row_behind : (f : ForkName) (count : ℕ) (ended : Bool) (before after : ForkMap) (a b c : Schedule) → MovesSilently a b → TookRow f count ended before after b c → TookRow f count ended before after a c
row_behind f count ended before after a b c silent row = record { begun = row.begun; silent = silent_then a b row.begun silent row.silent; head = row.head; within = row.within; counted = row.counted }

-- a deed that was done behind what happened silently
pub deed_behind : (before after : ForkMap) (a b c : Schedule) → MovesSilently a b → AllTold (moved (moves before after) b) c → TookDeed before after a c
deed_behind before after a b c silent told = record { begun = b; silent = silent; told = told }

-- ---- what is told, one thing after another

arrived_on : (xs ys : List Need) (c : Schedule) → all_arrived (xs ++ ys) c ≡ all_arrived ys (all_arrived xs c)
arrived_on [] ys c = refl
arrived_on (x ∷ xs) ys c = arrived_on xs ys (arrived c x)

pub told_nil : (c : Schedule) → AllTold c c
told_nil c = record { needs = []; are = refl }

pub told_more : (a b c : Schedule) (need : Need) → AllTold a b → c ≡ arrived b need → AllTold a c
told_more a b c need told is = record { needs = told.needs ++ need ∷ []; are = is ∙ ap (λ s. arrived s need) told.are ∙ sym (arrived_on told.needs (need ∷ []) a) }
