-- What parts of a command leave.
use Rattle.std.proofs.Common.{◌≡◌, true, Some, refl, sym, subst}
use Rattle.std.specs.FinMap as map
use Rattle.machine_names.specs.declared.names.ForkName.{ForkName}
use Rattle.page_contracts.specs.Pages.{PagesMeaning}
use Rattle.plain_model.specs.Forks.{OthersStay}
use Rattle.plain_model.specs.Inferiors.{is_inferior}
use Rattle.plain_model.specs.Trees.{PlainTree}
use Rattle.plain_model.proofs.OtherJobs.{gone_others, others_itself}
use Rattle.fork_tree.specs.Trees.{IsTree}
use Rattle.ka10_spots.proofs.Stored.{lost_none}
use Rattle.job_forks.specs.Holding.{Holds, TopsStay}
use Rattle.job_forks.proofs.Branch.{none_made}
use Rattle.job_forks.proofs.CallLeaving.{below_job}
use Rattle.job_forks.proofs.Places.{came_itself}
use Rattle.job_forks.proofs.Tops.{below_low, gone_tops}
use Rattle.job_commands.specs.Leaving.{RunLeaves}

-- nothing changed
pub left_alone : {P : Type 0} (means : PagesMeaning P) (pages : P) (tree : PlainTree) (top : ForkName) → Holds means pages tree.forks → RunLeaves means pages pages tree tree top
left_alone means pages tree top holds = record {
  holds = holds;
  kept = came_itself tree.forks;
  tops = λ name at. at;
  others = others_itself top.tty tree.forks;
  made = none_made means pages pages top.tty refl refl;
  loses = lost_none means pages;
}

-- an inferior is gone: it was no top fork, and of the same job
module _ (tree now : PlainTree) (is : IsTree tree) (who name : ForkName) (below : is_inferior tree.forks who name ≡ true) (gone : now.forks ≡ map.remove tree.forks name) where
  pub gone_stay : TopsStay tree.forks now.forks
  gone_stay = subst (TopsStay tree.forks) (sym gone) (gone_tops tree.forks name (below_low tree is who name below))

  pub gone_apart : OthersStay who.tty tree.forks now.forks
  gone_apart = subst (OthersStay who.tty tree.forks) (sym gone) (gone_others who.tty tree.forks name (below_job tree is who name below))
