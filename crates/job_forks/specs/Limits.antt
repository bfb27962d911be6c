-- Limits of forks.
use Rattle.std.specs.Prelude.{◌≡◌, ℕ, ◌<◌, ◌^◌, length, Some}
use Rattle.std.specs.FinMap as map
use Rattle.machine_names.specs.declared.names.TheConstants.{ACCUMULATORS}
use Rattle.machine_names.specs.declared.names.ForkName.{ForkName}
use Rattle.plain_model.specs.declared.fork.Body.{Body}
use Rattle.plain_model.specs.declared.fork.Fork.{Fork}
use Rattle.script_texts.specs.declared.status.ForkStatus.{ForkStatus}
use Rattle.script_texts.specs.declared.status.ForkStatus.TheVariants.{Forced}
use Rattle.plain_model.specs.Forks.{ForkMap}
use Rattle.fork_tree.specs.Trees.{Lives}

-- the channel by which a fork was forced is one of the 36
abbrev pub FitsForced : ForkStatus → Type 0
FitsForced status = (channel : ℕ) → status ≡ Forced channel → channel < 36

-- the status and the registers of a fork are within their limits
pub record IsBody (b : Body) : Type 0 where
  pub status : FitsForced b.status
  pub pc : b.regs.pc < 2 ^ 18
  pub accumulators : length b.regs.ac ≡ ACCUMULATORS

-- so is each fork that lives
abbrev pub AreWithin : ForkMap → Type 0
AreWithin forks = (f : Fork) → Lives forks f → IsBody f.body

-- a body that comes of that of a fork that lives: it has run as many units, and keeps its limits
pub record IsBodyOf (forks : ForkMap) (name : ForkName) (b : Body) : Type 0 where
  pub fork : Fork
  pub lives : map.get forks name ≡ Some fork
  pub units : b.units ≡ fork.body.units
  pub within : IsBody fork.body → IsBody b
