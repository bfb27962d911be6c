-- The forks of all jobs: each job's are a tree (CACM paper, "Forks").
use Rattle.std.specs.Prelude.{◌≡◌, ◌↔◌, ℕ, suc, zero, ◌+◌, ◌<◌, ◌≤◌, List, length, Option, Some, None, refl}
use Rattle.std.specs.Option.{option_and_then}
use Rattle.std.specs.Coded.{Coded, code_by, coded×, coded_list, coded_ℕ}
use Rattle.std.specs.FinMap as map
use Rattle.machine_names.specs.declared.names.Tty.{Tty}
use Rattle.machine_names.specs.declared.names.ForkName.{ForkName}
use Rattle.machine_names.specs.declared.names.TheConstants.{TERMINALS, MOST_FORKS, LAST_SERIAL}
use Rattle.plain_model.specs.declared.fork.Fork.{Fork}
use Rattle.machine_names.specs.contracts.names.ForkName.{the_row as name_row}
use Rattle.plain_model.specs.contracts.fork.Fork.{the_row as fork_row}
use Rattle.plain_model.specs.Forks.{ForkMap, superior_of}
use Rattle.machine_names.specs.Bounds.{IsForkName}
use Rattle.plain_model.specs.Trees.{PlainTree, next_serial}
use Rattle.plain_pages.specs.PlainPages.{first_serials}

-- no fork lives, and none has
abbrev pub no_forks : PlainTree
no_forks = record { forks = map.empty; serials = first_serials }

-- a fork lives, as it is
abbrev pub Lives : ForkMap → Fork → Type 0
Lives forks f = map.get forks f.name ≡ Some f

-- a fork lives in a slot of a job
abbrev pub IsIn : ForkMap → Tty → ℕ → Fork → Type 0
IsIn forks t slot f = Lives forks f × (f.name.tty.0 ≡ t.0) × (f.slot ≡ slot)

-- each fork lives under its own name, in a slot, 1 to 30, in which no other fork of its job is
pub record AreSlotted (forks : ForkMap) : Type 0 where
  pub own : (name : ForkName) (f : Fork) → map.get forks name ≡ Some f → f.name ≡ name
  pub named : (f : Fork) → Lives forks f → IsForkName f.name
  pub first : (f : Fork) → Lives forks f → 1 ≤ f.slot
  pub last : (f : Fork) → Lives forks f → f.slot ≤ MOST_FORKS
  pub once : (t : Tty) (slot : ℕ) (f g : Fork) → IsIn forks t slot f → IsIn forks t slot g → f ≡ g

-- Besides, a fork's superior lives and is older; the forks without one, the top forks, are those in slot 1; and a terminal's next serial
-- is above those of its forks.
pub record IsTree (tree : PlainTree) : Type 0 where
  pub slotted : AreSlotted tree.forks
  pub superiors : (f : Fork) (slot : ℕ) → Lives tree.forks f → f.superior ≡ Some slot → (g : Fork) × IsIn tree.forks f.name.tty slot g × (g.name.serial < f.name.serial)
  pub tops : (f : Fork) → Lives tree.forks f → (f.superior ≡ None) ↔ (f.slot ≡ 1)
  pub old : (f : Fork) → Lives tree.forks f → f.name.serial < next_serial tree f.name.tty
  pub terminals : length tree.serials ≡ TERMINALS
  pub from_one : (t : Tty) → t.0 < TERMINALS → 1 ≤ next_serial tree t
  pub to_last : (t : Tty) → t.0 < TERMINALS → next_serial tree t ≤ LAST_SERIAL + 1

-- the fork so many superiors above one
abbrev pub above : ℕ → ForkMap → Fork → Option Fork
above zero forks f = Some f
above (suc n) forks f = option_and_then (above n forks) (superior_of forks f)

-- a fork is an ancestor of another: its superior, that one's superior, and so on
abbrev pub IsAncestor : ForkMap → Fork → Fork → Type 0
IsAncestor forks g f = (n : ℕ) × (above (suc n) forks f ≡ Some g)

-- a tree is stored as its two parts
abbrev pub tree_code : Coded PlainTree
tree_code =
    code_by (ForkMap × List ℕ) (coded× (map.code name_row.coded fork_row.coded) (coded_list coded_ℕ))
    (λ t. (t.forks, t.serials)) (λ p. record { forks = p.0; serials = p.1 }) (λ _. refl)
