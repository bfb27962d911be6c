-- How the lists stand to the forks of all jobs.
use Rattle.std.specs.Prelude.{◌≡◌, ◌≢◌, ℕ, ◌<◌, ◌≤◌, ◌||◌, List, [], ◌∷◌, Bool, false, true, IsSome}
use Rattle.std.specs.FinMap as map
use Rattle.machine_names.specs.declared.names.ForkName.{ForkName}
use Rattle.machine_names.specs.declared.names.Tty.{Tty}
use Rattle.machine_names.specs.declared.names.TheConstants.{MOST_FORKS, TERMINALS}
use Rattle.plain_model.specs.declared.fork.Fork.{Fork}
use Rattle.plain_model.specs.Forks.{ForkMap, fork_in, runs_in}
use Rattle.plain_model.specs.Trees.{PlainTree}
use Rattle.fork_tree.specs.Making.{AddsBeside}
use Rattle.fork_tree.specs.Trees.{IsIn, IsTree}
use Rattle.job_sched.specs.Lines.{Nears}
use Rattle.job_sched.specs.Schedules.{Schedule, heads, size, stands}
use Rattle.job_sched.specs.Ties.{IsFilled, WaitsLess}
use Rattle.fork_lists.specs.Seeing.{job_slots, seen_in, seen_of, was_seen}
use Rattle.fork_lists.specs.declared.lists.ForkLists.{ForkLists}

-- the forks of a job that stand in the lists are those of it that can run, and each of its slots was seen as it is
pub record IsTiedAt (forks : ForkMap) (l : ForkLists) (t : Tty) : Type 0 where
  pub listed : (f : ForkName) → f.tty.0 ≡ t.0 → stands f l.sched ≡ runs_in forks f
  pub seen : (slot : ℕ) → t.0 < TERMINALS → 1 ≤ slot → slot ≤ MOST_FORKS → seen_in l.seen.items t slot ≡ seen_of (fork_in forks t slot)

-- whether a list is empty
abbrev pub is_none : {A : Type 0} → List A → Bool
is_none [] = true
is_none (x ∷ xs) = false

-- while the set has room nobody stands outside, as a test
abbrev pub is_filled : Schedule → Bool
is_filled s = is_none s.outside || is_none s.spare

-- so of each job; and while the set has room nobody stands outside
pub record AreTied (forks : ForkMap) (l : ForkLists) : Type 0 where
  pub each : (t : Tty) → IsTiedAt forks l t
  pub filled : is_filled l.sched ≡ true

-- what the lists ask before they follow the forks of a job: whoever stands in them of that job was seen there, and of another lives
pub record CanFollow (forks : ForkMap) (l : ForkLists) (t : Tty) : Type 0 where
  pub mine : (f : ForkName) → f.tty.0 ≡ t.0 → stands f l.sched ≡ true → was_seen l.seen.items t f job_slots ≡ true
  pub others : (f : ForkName) → f.tty.0 ≢ t.0 → stands f l.sched ≡ true → IsSome (map.get forks f)

-- each fork that stands in the lists lives
abbrev pub Living : ForkMap → Schedule → Type 0
Living forks s = (f : ForkName) → stands f s ≡ true → IsSome (map.get forks f)

-- the forks of a job were followed: it is tied, and each other job as it was
pub record Follows (forks : ForkMap) (t : Tty) (old new : ForkLists) : Type 0 where
  pub mine : IsTiedAt forks new t
  pub listed : (f : ForkName) → f.tty.0 ≢ t.0 → stands f new.sched ≡ stands f old.sched
  pub seen : (u : Tty) (slot : ℕ) → u.0 ≢ t.0 → 1 ≤ slot → slot ≤ MOST_FORKS → seen_in new.seen.items u slot ≡ seen_in old.seen.items u slot
  pub filled : IsFilled old.sched → IsFilled new.sched
  pub waits : WaitsLess old.sched.waiting new.sched.waiting
  pub set : size new.sched ≡ size old.sched

-- what the lists ask before they follow the forks of all jobs: whoever stands in them lives, and was seen in its job
pub record CanFollowAll (forks : ForkMap) (l : ForkLists) : Type 0 where
  pub living : Living forks l.sched
  pub seen : (f : ForkName) → stands f l.sched ≡ true → was_seen l.seen.items f.tty f job_slots ≡ true

-- the forks of all jobs were followed
pub record FollowsAll (forks : ForkMap) (old new : ForkLists) : Type 0 where
  pub each : (t : Tty) → IsTiedAt forks new t
  pub filled : IsFilled old.sched → IsFilled new.sched
  pub waits : WaitsLess old.sched.waiting new.sched.waiting
  pub set : size new.sched ≡ size old.sched

-- a fork in line has come no farther back, and closer where the head has lost its place
pub record ComesOn (f : ForkName) (old new : Schedule) : Type 0 where
  pub nears : Nears f old new 0
  pub gives : (g : ForkName) → heads g old.ready ≡ true → heads g new.ready ≡ false → Nears f old new 1

-- what the lists ask before they follow a fork that may have made one: it ran, they had the forks that could run, and no more has changed than its body, and that
-- one fork was made at most
pub record CanFollowMaker (now : PlainTree) (who : ForkName) (slot : ℕ) (l : ForkLists) : Type 0 where
  pub old : PlainTree
  pub trees : IsTree old
  pub tied : AreTied old.forks l
  pub fork : Fork
  pub there : IsIn old.forks who.tty slot fork
  pub named : fork.name ≡ who
  pub runs : runs_in old.forks who ≡ true
  pub adds : AddsBeside who old now
