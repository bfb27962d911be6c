-- How the lists of a machine bring those closer that a run passes over.
use Rattle.std.specs.Prelude.{◌≡◌, ◌≢◌, ◌<◌, List, [], ◌∷◌}
use Rattle.machine_names.specs.declared.names.ForkName.{ForkName}
use Rattle.script_texts.specs.declared.event.Step.{Step}
use Rattle.script_texts.specs.declared.event.Step.TheVariants.{Unit as AUnit}
use Rattle.plain_model.specs.declared.bounds.TheConstants.{MOST_PASSED}
use Rattle.plain_model.specs.Forks.{ForkMap, IsRunnable}
use Rattle.plain_model.specs.Run.{apply}
use Rattle.plain_model.specs.State.{PlainState}
use Rattle.job_sched.specs.Lines.{ahead_of}
use Rattle.job_sched.specs.Schedules.{Schedule}

-- each fork that can run is near the head of the line
abbrev pub AreNear : ForkMap → Schedule → Type 0
AreNear forks c = (f : ForkName) → IsRunnable forks f → ahead_of f c < MOST_PASSED

-- no fork that can run and is passed over by an entry is the head before it, and where it still can, it is closer behind it
pub record ComesCloser (x : Step) (old new : ForkMap) (c c' : Schedule) : Type 0 where
  pub waits : (f : ForkName) → IsRunnable old f → x ≢ AUnit f → 0 < ahead_of f c
  pub closer : (f : ForkName) → IsRunnable old f → x ≢ AUnit f → IsRunnable new f → ahead_of f c' < ahead_of f c

-- so over entries, with the lists as they are before the first and behind the last of them
abbrev pub ComeCloser : Schedule → PlainState → List Step → Schedule → Type 0
ComeCloser c s [] c' = AreNear s.forks c × (c' ≡ c)
ComeCloser c s (x ∷ xs) c' = let next = (apply s x).state in AreNear s.forks c × (mid : Schedule) × ComesCloser x s.forks next.forks c mid × ComeCloser mid next xs c'
