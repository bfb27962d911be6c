-- What laws say of the fork calls.
use Rattle.std.specs.Prelude.{◌≡◌, ℕ, ◌+◌, ◌-◌, ◌≤◌, false, Option, None, Some, if◌then◌else◌, nat_lt}
use Rattle.std.specs.declared.cmp.Ordering.{Ordering}
use Rattle.std.specs.FinMap as map
use Rattle.plain_model.specs.declared.call.End.{End}
use Rattle.plain_model.specs.declared.call.End.TheVariants.{Done, Waits}
use Rattle.plain_model.specs.declared.call.ForkChange.{ForkChange}
use Rattle.plain_model.specs.declared.call.ForkChange.TheVariants.{Freeze}
use Rattle.machine_names.specs.declared.names.ForkName.{ForkName}
use Rattle.machine_names.specs.declared.names.PageName.{PageName}
use Rattle.plain_model.specs.declared.fork.Fork.{Fork}
use Rattle.plain_units.specs.declared.registers.Regs.{Regs}
use Rattle.script_texts.specs.declared.status.WaitOn.TheVariants as on
use Rattle.plain_pages.specs.PlainPages.{PlainPages, Map}
use Rattle.plain_model.specs.State.{PlainState}
use Rattle.plain_pages.specs.Room.{live, uses}
use Rattle.plain_pages.specs.WholePages.{AreWhole}
use Rattle.plain_units.specs.Steps.{call}
use Rattle.plain_model.specs.Unit.{called, parts_of, unit}
use Rattle.plain_units.specs.Units.{unit_on}
use Rattle.plain_model.specs.EachFamily.{came_of, forking}

-- the end of a turn that waits for a fork
abbrev pub waiting : End ForkChange
waiting = Waits on.Fork

-- Of pages those are left, with their words, that a map which is left or a file names; and as many fewer pages and forks live
-- as are gone.
pub record AreLeft {K : Type 0} {file_cmp : K → K → Ordering} (p q : PlainPages file_cmp) : Type 0 where
  pub whole : AreWhole q
  pub objects : (n : PageName) → map.get q.objects n ≡ (if nat_lt 0 (uses q n) then map.get p.objects n else None)
  pub maps : (f : ForkName) (m : Map) → map.get q.maps f ≡ Some m → map.get p.maps f ≡ Some m
  pub fewer_pages : map.len q.objects ≤ map.len p.objects
  pub fewer_forks : map.len q.maps ≤ map.len p.maps
  pub live : live q + (map.len p.objects - map.len q.objects) + (map.len p.maps - map.len q.maps) ≡ live p

-- a fork call of a fork resumes another
abbrev pub Resumes : PlainState → Fork → ℕ → ForkName → Type 0
Resumes s caller number name = (regs : Regs) × (out post : Option ℕ) × ((came_of forking (parts_of s) caller.name caller.body.regs number).end ≡ Done (Freeze name false) regs out post)

-- a unit is such a call: it takes no interrupt
pub record UnitResumes (s : PlainState) (who name : ForkName) : Type 0 where
  pub caller : Fork
  pub living : map.get s.forks who ≡ Some caller
  pub number : ℕ
  pub calls : unit_on caller.name s.pages caller.body.regs ≡ call number
  pub resumes : Resumes s caller number name
  pub does : unit s who ≡ called s caller number
