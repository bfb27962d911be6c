-- Who stands below whom, in other words.
use Rattle.std.specs.Prelude.{◌≡◌, ℕ, ◌≤◌, true, false, not, Option, None, Some}
use Rattle.std.specs.declared.cmp.Ordering.{Ordering}
use Rattle.std.specs.FinMap as map
use Rattle.machine_names.specs.declared.names.ForkName.{ForkName}
use Rattle.plain_model.specs.declared.fork.Fork.{Fork}
use Rattle.plain_model.specs.Forks.{ForkMap}
use Rattle.plain_model.specs.ForkCalls.{ForkParts}
use Rattle.plain_model.specs.Inferiors.{is_in_branch, is_inferior}
use Rattle.plain_pages.specs.References.{without_fork}
use Rattle.fork_tree.specs.Trees.{IsAncestor, IsIn, Lives}

-- a fork is an inferior of another: that one is its superior, the superior of that, and so on
pub record IsInferior (forks : ForkMap) (who name : ForkName) : Type 0 where
  pub fork : Fork
  pub lives : map.get forks name ≡ Some fork
  pub over : Fork
  pub named : over.name ≡ who
  pub ancestor : IsAncestor forks over fork

-- the forks that are left where one and all its inferiors are killed
unfoldable pub without_branch : ForkMap → ForkName → ForkMap
without_branch forks who = map.retain_keys forks (λ name. not (is_in_branch forks who name))

-- without one fork and its map; a page that loses its last name is dropped
abbrev pub without : {K : Type 0} {file_cmp : K → K → Ordering} → ForkParts file_cmp → ForkName → ForkParts file_cmp
without v f = record { tree = record v.tree { forks = map.remove v.tree.forks f }; pages = without_fork v.pages f }

-- nobody is an inferior of this fork
abbrev pub HasNoInferior : ForkMap → ForkName → Type 0
HasNoInferior forks who = (name : ForkName) → is_inferior forks who name ≡ false

-- a fork without inferiors that is an inferior of another
pub record IsLeafBelow (forks : ForkMap) (who : ForkName) (f : Fork) : Type 0 where
  pub lives : Lives forks f
  pub below : is_inferior forks who f.name ≡ true
  pub leaf : HasNoInferior forks f.name

-- the fork in a slot of a job, where it is one of those
abbrev pub IsLeafIn : ForkMap → ForkName → ℕ → Option Fork → Type 0
IsLeafIn forks who slot None = (f : Fork) → IsIn forks who.tty slot f → IsLeafBelow forks who f → ⊥
IsLeafIn forks who slot (Some f) = IsIn forks who.tty slot f × IsLeafBelow forks who f

-- of those, the one in the highest slot
pub record IsLastBelow (forks : ForkMap) (who name : ForkName) : Type 0 where
  pub fork : Fork
  pub named : fork.name ≡ name
  pub leaf : IsLeafBelow forks who fork
  pub last : (g : Fork) → IsLeafBelow forks who g → g.slot ≤ fork.slot
