-- A fork that sleeps no more keeps its place, its limits and its units; the forks of other jobs are as they were.
use Rattle.std.proofs.Common.{◌≡◌, refl}
use Rattle.std.specs.FinMap as map
use Rattle.machine_names.specs.declared.names.ForkName.{ForkName}
use Rattle.plain_model.specs.declared.call.SleepChange.TheVariants.{Awakes, Nothing}
use Rattle.plain_model.specs.ClockCalls.{clock_changed, without_moment}
use Rattle.plain_model.specs.Forks.{OthersStay}
use Rattle.plain_model.specs.Trees.{PlainTree, with_changed_of}
use Rattle.plain_model.proofs.ForkMaps.{AreOwn, held_there}
use Rattle.plain_model.proofs.OtherJobs.{named_others}
use Rattle.job_forks.proofs.Places.{Keep, changed_keeps}

module _ (tree : PlainTree) (own : AreOwn tree.forks) (name : ForkName) where
  pub awake_keeps : Keep tree.forks (with_changed_of tree name without_moment).forks
  awake_keeps =
      changed_keeps tree.forks own without_moment (map.get tree.forks name)
      (λ k e. (held_there tree.forks own name k e, record { name = refl; slot = refl; superior = refl; units = refl; within = λ b. record { status = b.status; pc = b.pc; accumulators = b.accumulators } }))

  pub awake_others : OthersStay name.tty tree.forks (with_changed_of tree name without_moment).forks
  awake_others = named_others tree own name without_moment

-- each change is that of its definition
pub nothing_changed : (tree : PlainTree) → tree ≡ clock_changed Nothing tree
unfolding clock_changed
nothing_changed tree = refl

pub awake_changed : (tree : PlainTree) (name : ForkName) → with_changed_of tree name without_moment ≡ clock_changed (Awakes name) tree
unfolding clock_changed
awake_changed tree name = refl
