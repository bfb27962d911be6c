-- Forks and pages together: they have the same forks, and what a call leaves of both.
use Rattle.std.specs.Prelude.{◌≡◌, ◌≢◌, ℕ, ◌+◌, ◌≤◌, length, Some, IsSome, ◌⊎◌}
use Rattle.std.specs.Option.{option_map}
use Rattle.std.specs.Ordering.{nat_cmp}
use Rattle.std.specs.FinMap as map
use Rattle.machine_names.specs.declared.names.Tty.{Tty}
use Rattle.machine_names.specs.declared.names.ForkName.{ForkName}
use Rattle.machine_names.specs.declared.names.PageName.{PageName}
use Rattle.machine_names.specs.declared.names.TheConstants.{MOST_FORKS}
use Rattle.plain_model.specs.declared.fork.Fork.{Fork}
use Rattle.plain_model.specs.Forks.{ForkMap, OthersStay, forks_by_slot}
use Rattle.machine_names.specs.Bounds.{IsTerminal}
use Rattle.page_contracts.specs.Pages.{PagesMeaning, MayLose}
use Rattle.page_contracts.specs.Stores.{StaysPlanned}
use Rattle.plain_pages.specs.PlainPages.{NumberedPages}
use Rattle.plain_model.specs.ForkCalls.{ForkParts}
use Rattle.plain_model.specs.Trees.{PlainTree, next_name}
use Rattle.fork_tree.specs.Trees.{Lives}
use Rattle.job_forks.specs.Limits.{IsBody}

-- forks and pages, as the fork calls change them
abbrev pub parts : PlainTree → NumberedPages → ForkParts nat_cmp
parts tree p = record { tree = tree; pages = p }

-- pages have the forks of a tree, as many of each terminal as it has, and room for thirty
pub record Holds {P : Type 0} (means : PagesMeaning P) (p : P) (forks : ForkMap) : Type 0 where
  pub living : (name : ForkName) → means.lives p name ≡ map.contains_key forks name
  pub counts : (t : Tty) → IsTerminal t → means.forks_of p t ≡ length (forks_by_slot forks t)
  pub roomy : MOST_FORKS ≤ means.most_forks

-- the same forks live, each in its slot
abbrev pub SamePlaces : ForkMap → ForkMap → Type 0
SamePlaces old new = (name : ForkName) → option_map (λ f. f.slot) (map.get new name) ≡ option_map (λ f. f.slot) (map.get old name)

-- a fork that lives stands where one stood that lived under its name, has run as many units, and keeps its limits
pub record CameFrom (old : ForkMap) (f : Fork) : Type 0 where
  pub before : Fork
  pub lived : Lives old before
  pub name : f.name ≡ before.name
  pub slot : f.slot ≡ before.slot
  pub superior : f.superior ≡ before.superior
  pub units : f.body.units ≡ before.body.units
  pub within : IsBody before.body → IsBody f.body

-- so of each fork
abbrev pub ComeFrom : ForkMap → ForkMap → Type 0
ComeFrom old new = (f : Fork) → Lives new f → CameFrom old f

-- a fork that is made has the next name of its terminal, is below another, has run no unit, and is within its limits
pub record IsNew (tree : PlainTree) (f : Fork) : Type 0 where
  pub name : f.name ≡ next_name tree f.name.tty
  pub units : f.body.units ≡ 0
  pub within : IsBody f.body
  pub below : IsSome f.superior

-- so of each fork but for those that are made
abbrev pub ComeOrNew : PlainTree → ForkMap → Type 0
ComeOrNew tree new = (f : Fork) → Lives new f → CameFrom tree.forks f ⊎ IsNew tree f

-- each top fork lives on, in its slot
abbrev pub TopsStay : ForkMap → ForkMap → Type 0
TopsStay old new = (name : ForkName) → option_map (λ f. f.slot) (map.get old name) ≡ Some 1 → option_map (λ f. f.slot) (map.get new name) ≡ Some 1

-- pages of an owner were made, so many at most, and nothing else changed of what is told without a drum but the forks
pub record MakesPages {P : Type 0} (means : PagesMeaning P) (owner : Tty) (pages : ℕ) (old new : P) : Type 0 where
  pub most : means.most new ≡ means.most old
  pub serial : means.serial new owner ≤ means.serial old owner + pages
  pub serials : (t : Tty) → t ≢ owner → means.serial new t ≡ means.serial old t

-- each map and each page has the home that it had, and files name the pages that they named
pub record StaysHomed {P : Type 0} (means : PagesMeaning P) (old new : P) : Type 0 where
  pub maps : (f : ForkName) → means.map_home new f ≡ means.map_home old f
  pub pages : (n : PageName) → means.page_home new n ≡ means.page_home old n
  pub filed : means.filed new ≡ means.filed old

-- what a call leaves that needs something first: it made no page, its plan is no use of one, and no home is another's
pub record PlansOnly {P : Type 0} (means : PagesMeaning P) (owner : Tty) (old new : P) : Type 0 where
  pub made : MakesPages means owner 0 old new
  pub planned : StaysPlanned means.store old new
  pub homed : StaysHomed means old new

-- what a call of a fork leaves of pages and forks, with so many pages made at most: they go together, each fork lived or is made, that fork and the top forks live
-- on, and the forks of other jobs are as they were; and what is queued and held may have become less
pub record CallLeaves {P : Type 0} (means : PagesMeaning P) (old new : P) (tree tree' : PlainTree) (who : ForkName) (pages : ℕ) : Type 0 where
  pub holds : Holds means new tree'.forks
  pub kept : ComeOrNew tree tree'.forks
  pub caller : IsSome (map.get tree.forks who) → IsSome (map.get tree'.forks who)
  pub tops : TopsStay tree.forks tree'.forks
  pub others : OthersStay who.tty tree.forks tree'.forks
  pub made : MakesPages means who.tty pages old new
  pub loses : MayLose means old new
