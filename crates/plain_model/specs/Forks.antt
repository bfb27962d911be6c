-- Forks: which can run, and how they begin and end (CACM paper, "Forks").
use Rattle.std.specs.Prelude.{◌≡◌, ◌≢◌, ℕ, zero, suc, ◌+◌, List, Bool, true, false, not, ◌||◌, ◌&&◌, Option, None, Some, ◌==◌, find, replicate}
use Rattle.std.specs.List.{filter_map, range_with_len}
use Rattle.std.specs.Option.{option_map_or, option_and_then}
use Rattle.std.specs.FinMap as map
use Rattle.machine_names.specs.declared.names.TheConstants.{MOST_FORKS, ACCUMULATORS}
use Rattle.word36.specs.Flags.{no_flags}
use Rattle.machine_names.specs.declared.names.Tty.{Tty}
use Rattle.machine_names.specs.declared.names.ForkName.{ForkName}
use Rattle.script_texts.specs.declared.status.ForkStatus.{ForkStatus}
use Rattle.script_texts.specs.declared.status.ForkStatus.TheVariants.{Run, Halted}
use Rattle.plain_units.specs.declared.registers.Regs.{Regs}
use Rattle.plain_model.specs.declared.fork.Psi.{Psi}
use Rattle.plain_model.specs.declared.interrupt.TheConstants.{LEVELS}
use Rattle.plain_model.specs.declared.fork.Fork.{Fork}
use Rattle.script_texts.specs.declared.event.ForkLine.{ForkLine}
use Rattle.machine_names.specs.Orders.{fork_cmp}
use Rattle.plain_model.specs.State.{PlainState}

abbrev pub ForkMap : Type 0
ForkMap = map.FinMap fork_cmp Fork

-- a job's fork in a slot
abbrev pub fork_in : ForkMap → Tty → ℕ → Option Fork
fork_in forks t slot = find (λ f. (f.name.tty.0 == t.0) && (f.slot == slot)) (map.values forks)

-- the superior of a fork
abbrev pub superior_of : ForkMap → Fork → Option Fork
superior_of forks f = option_and_then (fork_in forks f.name.tty) f.superior

-- whether a fork or an ancestor of it passes a test; so many forks are looked at
abbrev pub any_upward : (Fork → Bool) → ℕ → ForkMap → Option Fork → Bool
any_upward p zero forks f = false
any_upward p (suc n) forks None = false
any_upward p (suc n) forks (Some f) = p f || any_upward p n forks (superior_of forks f)

-- a fork is frozen where it or an ancestor has the freeze mark; so many forks are looked at
abbrev pub is_frozen : ℕ → ForkMap → Option Fork → Bool
is_frozen n forks f = any_upward (λ k. k.frozen) n forks f

-- whether a status is Run
abbrev pub is_run : ForkStatus → Bool
is_run Run = true
is_run status = false

-- whether a fork can run: its status is Run, and neither it nor an ancestor is frozen
abbrev pub can_run : ForkMap → Fork → Bool
can_run forks f = is_run f.body.status && not (any_upward (λ k. k.frozen) MOST_FORKS forks (Some f))

-- whether the fork of a name lives and can run
abbrev pub runs_in : ForkMap → ForkName → Bool
runs_in forks name = option_map_or (can_run forks) (map.get forks name) false

-- the fork of a name lives and can run
abbrev pub IsRunnable : ForkMap → ForkName → Type 0
IsRunnable forks name = option_map_or (can_run forks) (map.get forks name) false ≡ true

-- each fork of another job than this is as it was
abbrev pub OthersStay : Tty → ForkMap → ForkMap → Type 0
OthersStay t old new = (name : ForkName) → name.tty.0 ≢ t.0 → map.get new name ≡ map.get old name

-- a job's forks by slot
abbrev pub forks_by_slot : ForkMap → Tty → List Fork
forks_by_slot forks t = filter_map (fork_in forks t) (range_with_len 1 MOST_FORKS)

-- a fork as the machine shows it
abbrev pub fork_line : ForkMap → Fork → ForkLine
fork_line forks f = record {
  name = f.name;
  superior = option_map_or (λ g. g.name.serial) (superior_of forks f) 0;
  status = f.body.status;
  frozen = f.frozen;
  address = f.body.regs.pc;
}

-- no level is in progress
abbrev pub no_levels : List Bool
no_levels = replicate LEVELS false

-- interrupts are off, with no table, channel or level
unfoldable pub psi_at_rest : Psi
psi_at_rest = record { on = false; table = None; active = 0; pending = 0; levels = no_levels }

-- sixteen accumulators of 0, at address 0
unfoldable pub first_regs : Regs
first_regs = record { ac = replicate ACCUMULATORS 0; pc = 0; flags = no_flags }

-- the top fork of a new job
abbrev pub top_fork : ForkName → Fork
top_fork name = record {
  name = name;
  slot = 1;
  superior = None;
  frozen = false;
  body = record { status = Halted; regs = first_regs; psi = psi_at_rest; sleep = None; units = 0; error = 0 };
}

abbrev pub with_fork : PlainState → Fork → PlainState
with_fork s f = record s { forks = map.insert s.forks f.name f }

-- a fork changed, where it lives
abbrev pub change_fork : PlainState → ForkName → (Fork → Fork) → PlainState
change_fork s name change = option_map_or (λ f. with_fork s (change f)) (map.get s.forks name) s

abbrev pub with_status : Fork → ForkStatus → Fork
with_status f status = record f { body = record f.body { status = status } }

abbrev pub with_regs : Fork → Regs → Fork
with_regs f regs = record f { body = record f.body { regs = regs } }

-- a unit more
abbrev pub counted : Fork → Fork
counted f = record f { body = record f.body { units = f.body.units + 1 } }
