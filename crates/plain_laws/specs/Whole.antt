-- What holds of the plain state wherever a run comes: its pages, its files and its trees of forks are whole, and no code outlives its fork.
use Rattle.std.specs.Prelude.{◌≡◌, ℕ, ◌<◌, true, None, Some}
use Rattle.std.specs.FinMap as map
use Rattle.machine_names.specs.declared.names.Access.{Access}
use Rattle.machine_names.specs.declared.names.ForkName.{ForkName}
use Rattle.machine_names.specs.declared.names.Slot.{Slot}
use Rattle.machine_names.specs.declared.names.Tty.{Tty}
use Rattle.plain_pages.specs.declared.map.MapEntry.TheVariants.{Follows}
use Rattle.plain_pages.specs.PlainPages.{Maps}
use Rattle.plain_pages.specs.Maps.{entry_at}
use Rattle.plain_model.specs.declared.fork.Fork.{Fork}
use Rattle.plain_model.specs.Forks.{ForkMap}
use Rattle.plain_model.specs.State.{PlainState, PlainJob}
use Rattle.plain_pages.specs.Room.{FitsLimit}
use Rattle.plain_pages.specs.WholePages.{AreWhole}
use Rattle.plain_model.specs.Trees.{next_serial, tree_of}
use Rattle.fork_tree.specs.Trees.{IsTree}
use Rattle.plain_laws.specs.WholeFiles.{AreFilesWhole, Jobs}

-- each serial that an entry follows, of its own terminal, is below that terminal's next one: it was given out
abbrev pub AreGiven : (Tty → ℕ) → Maps → Type 0
AreGiven next maps = (at : Slot) (serial page : ℕ) (a : Access) → entry_at maps at ≡ Some (Follows serial page a) → serial < next at.fork.tty

-- besides, they have room; the files and the JFNs are whole; the forks that live are those with a map; each job's are a tree: each under
-- its own name, whose serial its terminal's next one is above, in a slot, 1 to 30, in which no other fork of its job is, below a superior that
-- lives and is older; who is followed was once made; a terminal with forks has a job; and the top fork of a job is in slot 1, has no superior, and
-- is of the job's terminal
pub record IsWholeMachine (s : PlainState) : Type 0 where
  pub pages : AreWhole s.pages
  pub room : FitsLimit s.pages
  pub files : AreFilesWhole s.files s.pages.files s.jobs
  pub forks : (f : ForkName) → map.contains_key s.forks f ≡ map.contains_key s.pages.maps f
  pub tree : IsTree (tree_of s)
  pub given : AreGiven (next_serial (tree_of s)) s.pages.maps
  pub homes : (f : ForkName) → map.contains_key s.forks f ≡ true → map.contains_key s.jobs f.tty.0 ≡ true
  pub tops : (t : ℕ) (j : PlainJob) → map.get s.jobs t ≡ Some j → (f : Fork) × (map.get s.forks j.top ≡ Some f) × (f.slot ≡ 1) × (f.superior ≡ None)
  pub own_tops : (t : ℕ) (j : PlainJob) → map.get s.jobs t ≡ Some j → j.top.tty.0 ≡ t

-- each code that is assigned belongs to a fork of that job, which lives
abbrev pub AreOfLiving : ForkMap → Jobs → Type 0
AreOfLiving forks jobs = (t : ℕ) (j : PlainJob) → map.get jobs t ≡ Some j → (code : ℕ) (f : ForkName) (channel : ℕ) → map.get j.codes code ≡ Some (f, channel) → (map.contains_key forks f ≡ true) × (f.tty.0 ≡ t)

-- all of this
pub record IsWhole (s : PlainState) : Type 0 where
  pub machine : IsWholeMachine s
  pub codes : AreOfLiving s.forks s.jobs
