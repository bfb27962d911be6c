-- What is left once a job's forks are killed, all or all but its top fork.
use Rattle.std.specs.Prelude.{◌≡◌, ◌≢◌, Some}
use Rattle.std.specs.Option.{option_map, option_map_or}
use Rattle.std.specs.Ordering.{nat_cmp}
use Rattle.std.specs.FinMap as map
use Rattle.machine_names.specs.declared.names.ForkName.{ForkName}
use Rattle.plain_model.specs.declared.fork.Fork.{Fork}
use Rattle.plain_model.specs.Forks.{ForkMap, OthersStay}
use Rattle.plain_model.specs.Trees.{PlainTree}
use Rattle.plain_model.specs.ForkCalls.{ForkParts}
use Rattle.page_contracts.specs.Pages.{PagesMeaning, MayLose}
use Rattle.fork_tree.specs.Inferiors.{without}
use Rattle.fork_tree.specs.Trees.{Lives}
use Rattle.event_deeds.specs.Leaves.{last_below}
use Rattle.job_forks.specs.Holding.{ComeFrom, Holds, MakesPages, TopsStay}

-- a fork is the top fork of its job
abbrev pub IsTop : ForkMap → ForkName → Type 0
IsTop forks top = option_map (λ f. f.slot) (map.get forks top) ≡ Some 1

-- without that one of a fork's inferiors which goes first, if it has any
abbrev pub without_last : ForkParts nat_cmp → ForkName → ForkParts nat_cmp
without_last v who = option_map_or (λ (f : Fork). without v f.name) (last_below v.tree.forks who) v

-- no fork of the job is left; each fork that lives stands where it stood, and the top forks of other jobs live on; each fork of another job is as
-- it was; pages and tree have the same forks; no page was made, and what is queued and held may have become less
pub record LogoutLeaves {P : Type 0} (means : PagesMeaning P) (old new : P) (tree tree' : PlainTree) (top : ForkName) : Type 0 where
  pub holds : Holds means new tree'.forks
  pub kept : ComeFrom tree.forks tree'.forks
  pub gone : (f : Fork) → Lives tree'.forks f → f.name.tty.0 ≢ top.tty.0
  pub tops : (name : ForkName) → name ≢ top → IsTop tree.forks name → IsTop tree'.forks name
  pub others : OthersStay top.tty tree.forks tree'.forks
  pub made : MakesPages means top.tty 0 old new
  pub loses : MayLose means old new

-- each fork that lives stands where it stood, and the top forks live on; each fork of another job is as it was; pages and tree have the same
-- forks; no page was made, and what is queued and held may have become less
pub record RunLeaves {P : Type 0} (means : PagesMeaning P) (old new : P) (tree tree' : PlainTree) (top : ForkName) : Type 0 where
  pub holds : Holds means new tree'.forks
  pub kept : ComeFrom tree.forks tree'.forks
  pub tops : TopsStay tree.forks tree'.forks
  pub others : OthersStay top.tty tree.forks tree'.forks
  pub made : MakesPages means top.tty 0 old new
  pub loses : MayLose means old new
