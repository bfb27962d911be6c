-- Units of the head of the ready list, and its quantum (CACM paper, "Scheduling").
use Rattle.std.specs.Prelude.{◌≡◌, ℕ, zero, suc, ◌+◌, ◌<◌, ◌≤◌, ◌⊎◌, List, [], ◌∷◌, length, nat_le, if◌then◌else◌}
use Rattle.machine_names.specs.declared.names.TheConstants.{QUANTUM}
use Rattle.job_sched.specs.declared.member.Member.{Member}
use Rattle.job_sched.specs.Schedules.{Schedule, quantum_ended}

-- one unit of the head, if there is one, and the end of its quantum where that is used
abbrev pub unit_ran : List Member → Schedule → Schedule
unit_ran [] s = s
unit_ran (m ∷ ms) s = if nat_le QUANTUM (s.used + 1) then quantum_ended s else (record s { used = s.used + 1 })

-- so many units, each of whoever is the head then
unfoldable pub row_ran : ℕ → Schedule → Schedule
row_ran zero s = s
row_ran (suc n) s = row_ran n (unit_ran s.ready s)

-- the head has units of its quantum left
abbrev pub IsTimed : Schedule → Type 0
IsTimed s = s.used < QUANTUM

-- a fork is ready, and no other is ready or outside
abbrev pub IsAlone : Schedule → Type 0
IsAlone s = (length s.ready ≡ 1) × (s.outside ≡ [])

-- so many units in a row are all of the head: it is alone, or they are within its quantum
pub record IsRow (n : ℕ) (s : Schedule) : Type 0 where
  pub head : 0 < length s.ready
  pub within : IsAlone s ⊎ (s.used + n ≤ QUANTUM)
