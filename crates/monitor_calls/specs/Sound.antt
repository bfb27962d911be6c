-- What is always true of a system's tables, over any drum.
use Rattle.std.specs.Prelude.{◌≡◌, ℕ, ◌<◌, List, length, Option, None, Some}
use Rattle.std.specs.Option.{option_map}
use Rattle.std.specs.FinMap as map
use Rattle.machine_names.specs.declared.names.TheConstants.{TERMINALS}
use Rattle.plain_model.specs.declared.fork.Fork.{Fork}
use Rattle.page_contracts.specs.Pages.{PagesMeaning}
use Rattle.plain_model.specs.Trees.{PlainTree}
use Rattle.fork_tree.specs.Trees.{Lives}
use Rattle.job_forks.specs.Holding.{Holds}
use Rattle.job_forks.specs.Limits.{AreWithin}
use Rattle.monitor_calls.specs.declared.job.Job.{Job}
use Rattle.monitor_calls.specs.Jobs.{job_at}

-- a job of a terminal: its top fork lives, in the first slot
pub record IsJob (tree : PlainTree) (t : ℕ) (j : Job) : Type 0 where
  pub terminal : j.top.tty.0 ≡ t
  pub low : t < TERMINALS
  pub top : option_map (λ f. f.slot) (map.get tree.forks j.top) ≡ Some 1

-- The pages have the forks of the tree; each fork is within its limits; each job's top fork lives; and a terminal
-- without a job has no fork.
pub record AreSound {P : Type 0} (means : PagesMeaning P) (p : P) (tree : PlainTree) (jobs : List (Option Job)) : Type 0 where
  pub holds : Holds means p tree.forks
  pub job_room : length jobs ≡ TERMINALS
  pub each_fork : AreWithin tree.forks
  pub each_job : (t : ℕ) (j : Job) → job_at jobs t ≡ Some j → IsJob tree t j
  pub nobody : (t : ℕ) (f : Fork) → job_at jobs t ≡ None → Lives tree.forks f → f.name.tty.0 ≡ t → ⊥
