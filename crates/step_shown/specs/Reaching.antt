-- How far units reach among the forks, whatever a drum holds.
use Rattle.std.specs.Prelude.{◌≡◌}
use Rattle.machine_names.specs.declared.names.ForkName.{ForkName}
use Rattle.plain_model.specs.declared.fork.Body.{Body}
use Rattle.plain_model.specs.Forks.{OthersStay}
use Rattle.plain_model.specs.Trees.{PlainTree}
use Rattle.fork_tree.specs.Changes.{with_body_of}
use Rattle.fork_tree.specs.Making.{AddsBeside}
use Rattle.step_shown.specs.declared.reach.Reach.{Reach}
use Rattle.step_shown.specs.declared.reach.Reach.TheVariants.{Own, Made, Job}

-- only this fork may stand otherwise, and of it no more than its body
pub record ReachesOwn (who : ForkName) (old new : PlainTree) : Type 0 where
  pub body : Body
  pub left : new ≡ with_body_of old who body

-- so far a fork may have reached: only it may stand otherwise, or besides one fork more may be there, or only forks of its job may
abbrev pub Reaches : Reach → ForkName → PlainTree → PlainTree → Type 0
Reaches Own who old new = ReachesOwn who old new
Reaches Made who old new = AddsBeside who old new
Reaches Job who old new = OthersStay who.tty old.forks new.forks
