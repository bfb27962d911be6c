-- What a unit does to its own fork and the pages and, where it is a call, to the forks, files and JFNs of all jobs, and what it shows; and so many of them in a row.
use Rattle.std.specs.Prelude.{◌≡◌, ◌⊎◌, true, ℕ, suc, ◌+◌, ◌≤◌, ◌<◌, ◌^◌, List, length, Bool, false, Option, None, Some, IsSome, if◌then◌else◌, ◌==◌}
use Rattle.std.specs.Option.{option_map, unwrap_or}
use Rattle.std.specs.Ordering.{nat_cmp}
use Rattle.std.specs.FinMap as map
use Rattle.machine_names.specs.declared.names.TheConstants.{ACCUMULATORS, TERMINALS}
use Rattle.machine_names.specs.declared.names.Tty.{Tty}
use Rattle.machine_names.specs.Bounds.{IsTerminal}
use Rattle.machine_names.specs.Orders.{name_cmp}
use Rattle.machine_names.specs.declared.names.ForkName.{ForkName}
use Rattle.plain_units.specs.declared.channel.TheConstants.{ILLEGAL_INSTRUCTION}
use Rattle.call_turns.specs.declared.answer.Answer.{Answer}
use Rattle.call_turns.specs.declared.answer.Answer.TheVariants as answer
use Rattle.plain_model.specs.declared.fork.Body.{Body}
use Rattle.plain_model.specs.declared.fork.Fork.{Fork}
use Rattle.plain_units.specs.declared.registers.Regs.{Regs}
use Rattle.script_texts.specs.declared.status.ForkStatus.TheVariants.{Halted as AHalted, Forced as AForced}
use Rattle.plain_pages.specs.PlainPages.{NumberedPages}
use Rattle.plain_files.specs.Directory.{Files, IsAbsent}
use Rattle.plain_files.specs.Sizes.{PlainFile}
use Rattle.plain_model.specs.FileCalls.{Jobs}
use Rattle.plain_model.specs.Calls.{behind_call, posted_if, with_error, with_wait, with_ac}
use Rattle.plain_typing.specs.Lines.{InputLine}
use Rattle.plain_model.specs.declared.call.TheConstants.{KFORK}
use Rattle.plain_model.specs.InterruptCalls.{living_codes}
use Rattle.plain_model.specs.Families.{Parts, Turned, call_turned}
use Rattle.plain_units.specs.Steps.{Planned, done, call, trap, need, stopped as unit_stopped, pages_left}
use Rattle.plain_units.specs.Units.{unit_on}
use Rattle.plain_model.specs.Forks.{ForkMap, with_regs, with_status, counted}
use Rattle.plain_model.specs.declared.fork.Psi.{Psi}
use Rattle.plain_model.specs.declared.interrupt.Inspected.{Inspected}
use Rattle.plain_model.specs.declared.interrupt.Inspected.TheVariants.{Nothing as Nought, Delivers, Forces}
use Rattle.plain_model.specs.Inspections.{delivered, inspected, inspected_by, is_interrupted, stored_word}
use Rattle.plain_model.specs.Interrupts.{forces, posted}
use Rattle.page_contracts.specs.DrumWords.{DrumWords}
use Rattle.page_contracts.specs.Pages.{MayLose, PagesMeaning}
use Rattle.page_contracts.specs.Stores.{StoreMeaning, IsNeeded}
use Rattle.plain_model.specs.Trees.{PlainTree}
use Rattle.ka10_spots.specs.Once.{After, in_a_row}
use Rattle.fork_tree.specs.Trees.{Lives}
use Rattle.file_tables.specs.declared.tables.FileTables.{FileTables}
use Rattle.file_tables.specs.Tables.{files_of, open_of}
use Rattle.file_tables.specs.Keys.{key_of}
use Rattle.page_contracts.specs.declared.answers.Need.{Need}
use Rattle.job_forks.specs.Holding.{CallLeaves, Holds, IsNew, MakesPages, PlansOnly, TopsStay}
use Rattle.monitor_calls.specs.declared.job.Job.{Job}
use Rattle.monitor_calls.specs.declared.typing.Typing.{Typing}
use Rattle.monitor_calls.specs.Jobs.{AreUnheld, job_at, jobs_of}
use Rattle.ka10_unit.specs.Gathers.{Framed, framed}
use Rattle.monitor_calls.specs.Limits.{FitsForced, IsBody, unit_frames}
use Rattle.monitor_calls.specs.Reasons.{CallNeeds, UnitNeeds, UnitStops}
use Rattle.step_shown.specs.Shown.{FitsShown, nothing, shown_of, stands}
use Rattle.monitor_calls.specs.Makings.{Makes, most_makings}
use Rattle.step_shown.specs.declared.shown.Shown.{Shown}
use Rattle.step_shown.specs.declared.shown.Stop.TheVariants.{GoesOn, Forced}
use Rattle.monitor_calls.specs.declared.row.Row.{Row}
use Rattle.monitor_calls.specs.declared.row.Last.{Last}
use Rattle.monitor_calls.specs.declared.row.Last.TheVariants.{Shows, Calls, Needs}
use Rattle.monitor_calls.specs.declared.units.Units.{Units}

-- where a fork stands among those of its job
pub record Place : Type 0 where
  pub slot : ℕ
  pub superior : Option ℕ
  pub frozen : Bool

-- the fork of a name that stands there, with this body
abbrev pub fork_of : ForkName → Place → Body → Fork
fork_of name at body = record { name = name; slot = at.slot; superior = at.superior; frozen = at.frozen; body = body }

-- what is shown of a channel that is posted to a fork with these interrupts: where it forces the fork, that
abbrev pub post_shown : Psi → Option ℕ → Shown
post_shown psi None = nothing
post_shown psi (Some channel) = stands (if forces psi channel then Forced channel else GoesOn)

-- the tables that a unit may change, besides the pages, and the clock, which it reads
pub record Tables : Type 0 where
  pub tree : PlainTree
  pub files : FileTables
  pub jobs : List (Option Job)
  pub typed : List Typing
  pub clock : ℕ

abbrev pub tables_in : PlainTree → FileTables → List (Option Job) → List Typing → ℕ → Tables
tables_in tree files jobs typed clock = record { tree = tree; files = files; jobs = jobs; typed = typed; clock = clock }

-- what the plain machine has of them: the forks of all jobs, the files and the jobs, and the clock
pub record Rest : Type 0 where
  pub tree : PlainTree
  pub files : map.FinMap name_cmp PlainFile
  pub jobs : Jobs
  pub clock : ℕ

abbrev pub rest_of : Tables → Rest
rest_of t = record { tree = t.tree; files = files_of t.files; jobs = jobs_of (open_of t.files) t.typed t.jobs; clock = t.clock }

-- the same with pages, and without them
abbrev pub parts_in : Rest → NumberedPages → Parts nat_cmp
parts_in r p = record { tree = r.tree; pages = p; files = r.files; jobs = r.jobs; clock = r.clock }

abbrev pub rest_in : Parts nat_cmp → Rest
rest_in v = record { tree = v.tree; files = v.files; jobs = v.jobs; clock = v.clock }

-- each file that is there now was there under its number, or neither its number nor its name was
abbrev pub NumbersStay : Files → Files → Type 0
NumbersStay old new = (f : ℕ) (name : List ℕ) → map.get new f ≡ Some name → (map.get old f ≡ Some name) ⊎ ((map.get old f ≡ None) × IsAbsent old name)

-- the job of a terminal is there, and no JFN is held where no job is
pub record HasJob (files : FileTables) (jobs : List (Option Job)) (typed : List Typing) (t : Tty) : Type 0 where
  pub terminal : IsTerminal t
  pub room : length jobs ≡ TERMINALS
  pub typing_room : length typed ≡ TERMINALS
  pub there : IsSome (job_at jobs t.0)
  pub unheld : AreUnheld (open_of files) jobs

-- what is behind a unit: the forks of all jobs with its own, the files and the jobs, that fork, the pages, and what it shows. Where it
-- has stopped, nobody is told yet
pub record Behind : Type 0 where
  pub rest : Rest
  pub fork : Fork
  pub pages : NumberedPages
  pub shown : Shown

-- a fork is back among those of all jobs
abbrev pub put_back : PlainTree → Fork → PlainTree
put_back tree f = record tree { forks = map.insert tree.forks f.name f }

abbrev pub put_in : Rest → Fork → Rest
put_in r f = record r { tree = put_back r.tree f }

-- a unit leaves its fork so, and of the rest nothing but this
abbrev pub left_so : Rest → Fork → NumberedPages → Shown → Behind
left_so r f p shown = record { rest = put_in r f; fork = f; pages = p; shown = shown }

-- what is behind a turn of a call that prints this, which leaves these parts and its fork so, but for its count
abbrev pub turn_behind : Parts nat_cmp → Option ℕ → Fork → Behind
turn_behind v out g = left_so (rest_in v) (counted g) v.pages (shown_of out g.body.status)

-- what is behind a turn of a monitor call, where pages of files are under these keys: the fork that called is as the change leaves it
abbrev pub called_behind : (List ℕ → ℕ) → Rest → Fork → NumberedPages → ℕ → Behind
called_behind key rest f p number =
    let r = call_turned key (parts_in rest p) f.name f.body.regs number in turn_behind r.parts r.out (unwrap_or r.caller f)

-- what is behind an instruction of a fork that comes to this
abbrev pub behind : (List ℕ → ℕ) → Rest → Fork → NumberedPages → Planned nat_cmp ⊥ → Behind
behind key rest f p (done t e) = left_so rest (counted (posted_if (with_regs f e.regs) e.post)) (pages_left f.name t e) (post_shown f.body.psi e.post)
behind key rest f p (unit_stopped (trap channel)) = left_so rest (counted (posted f channel)) p (post_shown f.body.psi (Some channel))
behind key rest f p (unit_stopped (need none)) = absurd none
behind key rest f p (call number) = called_behind key rest f p number

-- what is behind one unit of a fork, its interrupts aside
abbrev pub behind_instruction : (List ℕ → ℕ) → Rest → Fork → NumberedPages → Behind
behind_instruction key rest f p = behind key rest f p (unit_on f.name p f.body.regs)

-- what is behind a unit whose inspection made these pages and came to this
abbrev pub behind_decided : (List ℕ → ℕ) → Rest → Fork → NumberedPages → NumberedPages → Inspected → Behind
behind_decided key rest f p made Nought = behind_instruction key rest f p
behind_decided key rest f p made (Delivers d) = left_so rest (counted (delivered f d)) (stored_word made f d) nothing
behind_decided key rest f p made (Forces channel) = left_so rest (counted (with_status f (AForced channel))) p (stands (Forced channel))

-- what is behind one unit of a fork whose channels are looked at
abbrev pub behind_interrupted : (List ℕ → ℕ) → Rest → Fork → NumberedPages → Behind
behind_interrupted key rest f p = let came = inspected f p in behind_decided key rest f p came.pages (inspected_by came.end)

-- what is behind one unit of a fork
abbrev pub behind_unit : (List ℕ → ℕ) → Rest → Fork → NumberedPages → Behind
behind_unit key rest f p = if is_interrupted f.body.psi then behind_interrupted key rest f p else behind_instruction key rest f p

-- a fork behind so many units that left these registers
abbrev pub ran_on : Fork → ℕ → Regs → Fork
ran_on f n regs = record f { body = record f.body { regs = regs; units = f.body.units + n } }

-- so many units of a fork in a row: all but the last are instructions that post nothing and show nothing, and the last leaves and shows this
pub record RanUnits (key : List ℕ → ℕ) (rest : Rest) (f : Fork) (p : NumberedPages) (count : ℕ) (last : Behind) : Type 0 where
  pub before : ℕ
  pub counts : count ≡ suc before
  pub after : After nat_cmp
  pub row : in_a_row f.name before p f.body.regs ≡ Some after
  pub alone : 1 ≤ before → is_interrupted f.body.psi ≡ false
  pub ends : behind_unit key (put_in rest (ran_on f before after.regs)) (ran_on f before after.regs) after.pages ≡ last

-- so many units in a row that are instructions, post nothing and show nothing
pub record RanUpTo (f : Fork) (p : NumberedPages) (count : ℕ) (g : Fork) (q : NumberedPages) : Type 0 where
  pub after : After nat_cmp
  pub row : in_a_row f.name count p f.body.regs ≡ Some after
  pub alone : 1 ≤ count → is_interrupted f.body.psi ≡ false
  pub fork : ran_on f count after.regs ≡ g
  pub pages : after.pages ≡ q

-- what is behind a unit of one kind of a fork
abbrev pub Leaving : Type 0
Leaving = (List ℕ → ℕ) → Rest → Fork → NumberedPages → Behind

-- such a unit is a monitor call
abbrev pub IsCall : Leaving → Fork → NumberedPages → ℕ → Type 0
IsCall leaving f p number = (key : List ℕ → ℕ) (rest : Rest) → leaving key rest f p ≡ called_behind key rest f p number

-- units in a row, by their last; behind the others a monitor call is still to be made, and a unit that needs something first is not begun
abbrev pub IsRow : Fork → NumberedPages → ℕ → Fork → NumberedPages → Last → Type 0
IsRow f p count g q (Shows shown) = (key : List ℕ → ℕ) (rest : Rest) → RanUnits key rest f p count (left_so rest g q shown)
IsRow f p count g q (Calls number) = RanUpTo f p count g q × IsCall behind_unit g q number
IsRow f p count g q (Needs n) = RanUpTo f p count g q

-- one unit of a kind, which is over, or is a call that is still to be made, or needs something first
abbrev pub IsOne : Leaving → Fork → NumberedPages → Fork → NumberedPages → Last → Type 0
IsOne leaving f p g q (Shows shown) = (key : List ℕ → ℕ) (rest : Rest) → leaving key rest f p ≡ left_so rest g q shown
IsOne leaving f p g q (Calls number) = (f ≡ g) × (p ≡ q) × IsCall leaving g q number
IsOne leaving f p g q (Needs n) = (f ≡ g) × (p ≡ q)

-- how many units a last one is: one that is still to be made is none
abbrev pub units_over : Last → ℕ
units_over (Shows shown) = 1
units_over (Calls number) = 0
units_over (Needs n) = 0

-- how many pages it makes at most
abbrev pub makings_of : Last → ℕ
makings_of (Shows shown) = most_makings
makings_of (Calls number) = 0
makings_of (Needs n) = 0

-- the limits of what is shown
abbrev pub FitsLast : Last → Type 0
FitsLast (Shows shown) = FitsShown shown
FitsLast (Calls number) = Unit {0}
FitsLast (Needs n) = Unit {0}

-- what it needs first is so, over whatever drum
abbrev pub LastNeeds : {P : Type 0} → StoreMeaning P → P → Last → Type 0
LastNeeds store p (Needs n) = IsNeeded store unit_frames p n
LastNeeds store p last = Unit {0}

-- it needs nothing first
abbrev pub IsMet : Last → Type 0
IsMet (Needs n) = ⊥
IsMet last = Unit {0}

-- there is a unit, and room for it
abbrev pub HasRoom : ℕ → ℕ → Last → Type 0
HasRoom most count (Shows shown) = (1 ≤ count) × (count ≤ most)
HasRoom most count (Calls number) = count < most
HasRoom most count (Needs n) = count < most

-- what so many units keep of a fork, and its limits
pub record Kept (f g : Fork) (count : ℕ) : Type 0 where
  pub name : g.name ≡ f.name
  pub slot : g.slot ≡ f.slot
  pub superior : g.superior ≡ f.superior
  pub status : FitsForced f.body.status → FitsForced g.body.status
  pub pc : g.body.regs.pc < 2 ^ 18
  pub accumulators : length g.body.regs.ac ≡ ACCUMULATORS
  pub units : g.body.units ≡ f.body.units + count

-- one unit of a kind ran, over each drum that fits, or stops as a call, or as one that needs something first
pub record RanOne {P : Type 0} (leaving : Leaving) (Stops : Framed → Fork → Last → Type 0) (means : PagesMeaning P) (old new : P) (f g : Fork) (last : Last) : Type 0 where
  pub told : (d : DrumWords) → means.fits old d → means.fits new d × IsOne leaving f (means.plain old d) g (means.plain new d) last
  pub stops : (d : DrumWords) → means.fits old d → Stops (framed means new d) g last
  pub keeps : Kept f g (units_over last)
  pub made : Makes means old new f.name.tty (makings_of last)
  pub undone : units_over last ≡ 0 → (g ≡ f) × (new ≡ old)
  pub loses : MayLose means old new
  pub fits : FitsLast last
  pub needs : LastNeeds means.store new last
  pub core : means.flat ≡ true → IsMet last

-- units of a fork ran in a row, over each drum that fits
pub record Ran {P : Type 0} (means : PagesMeaning P) (old new : P) (f g : Fork) (row : Row) : Type 0 where
  pub told : (d : DrumWords) → means.fits old d → means.fits new d × IsRow f (means.plain old d) row.count g (means.plain new d) row.last
  pub stops : (d : DrumWords) → means.fits old d → UnitStops (framed means new d) g row.last
  pub keeps : Kept f g row.count
  pub made : Makes means old new f.name.tty (makings_of row.last)
  pub undone : row.count ≡ 0 → (g ≡ f) × (new ≡ old)
  pub loses : MayLose means old new
  pub fits : FitsLast row.last
  pub needs : LastNeeds means.store new row.last
  pub core : means.flat ≡ true → IsMet row.last

-- the fork that called, behind a turn with this answer but for its count of units
abbrev pub answered : Fork → Answer → Fork
answered f (answer.After regs out post) = posted_if (with_regs f regs) post
answered f (answer.Wait what) = with_wait f what
answered f answer.Halt = with_status (with_regs f (behind_call f.body.regs)) AHalted
answered f (answer.Refused code) = posted (with_error f code) ILLEGAL_INSTRUCTION
answered f (answer.Failed code) = with_error (with_regs f (behind_call (with_ac f.body.regs 1 code))) code
answered f (answer.Trap channel) = posted f channel
answered f (answer.Need wanted) = f

-- and what it prints
abbrev pub out_in : Answer → Option ℕ
out_in (answer.After regs out post) = out
out_in other = None

-- what is behind a turn that leaves these forks and pages, with this answer
abbrev pub answered_turn : Parts nat_cmp → ForkName → Answer → Turned nat_cmp
answered_turn v who a = record { parts = v; caller = option_map (λ f. answered f a) (map.get v.tree.forks who); out = out_in a }

-- a line behind a turn of a fork call that has answered so: where it has killed forks, of the codes those stay that forks have assigned
-- which live
abbrev pub line_behind : ℕ → Answer → ForkMap → InputLine → InputLine
line_behind number (answer.After regs out post) forks line = if number == KFORK then record line { codes = living_codes forks line.codes } else line
line_behind number other forks line = line

-- a turn of a call that has answered so left these parts; one that needs something first left all as it was
abbrev pub TurnedSo : (List ℕ → ℕ) → Parts nat_cmp → Parts nat_cmp → ForkName → Regs → ℕ → Answer → Type 0
TurnedSo key old new who regs number (answer.Need n) = new ≡ old
TurnedSo key old new who regs number a = call_turned key old who regs number ≡ answered_turn new who a

-- a turn of a call went so, over each drum that fits
pub record Turns {P : Type 0} (means : PagesMeaning P) (old new : P) (was is : Tables) (who : ForkName) (regs : Regs) (number : ℕ) (a : Answer) : Type 0 where
  pub fits : (d : DrumWords) → means.fits old d → means.fits new d
  pub told : (d : DrumWords) → means.fits old d → TurnedSo (key_of was.files) (parts_in (rest_of was) (means.plain old d)) (parts_in (rest_of is) (means.plain new d)) who regs number a
  pub numbers : (d : DrumWords) → means.fits old d → NumbersStay was.files.dir is.files.dir

-- a fork that lives stands where one stood that lived under its name, has run so many units more at most, and keeps its limits
pub record CameOn (old : ForkMap) (count : ℕ) (f : Fork) : Type 0 where
  pub before : Fork
  pub lived : Lives old before
  pub name : f.name ≡ before.name
  pub slot : f.slot ≡ before.slot
  pub units : f.body.units ≤ before.body.units + count
  pub within : IsBody before.body → IsBody f.body

-- so of each fork but for those that are made
abbrev pub ComeOn : PlainTree → ℕ → ForkMap → Type 0
ComeOn tree count new = (f : Fork) → Lives new f → CameOn tree.forks count f ⊎ IsNew tree f

-- what so many units of a fork leave of all that is told without a drum: pages and forks that go together, and that fork among them
pub record LeavesForks {P : Type 0} (means : PagesMeaning P) (old new : P) (tree tree' : PlainTree) (f : Fork) (count : ℕ) : Type 0 where
  pub holds : Holds means new tree'.forks
  pub kept : ComeOn tree count tree'.forks
  pub caller : IsSome (map.get tree'.forks f.name)
  pub tops : TopsStay tree.forks tree'.forks
  pub made : MakesPages means f.name.tty most_makings old new

-- a call of a fork was made, over each drum that fits, and showed this
pub record Called {P : Type 0} (means : PagesMeaning P) (old new : P) (was is : Tables) (f : Fork) (number : ℕ) (shown : Shown) : Type 0 where
  pub after : Fork
  pub there : Lives is.tree.forks after
  pub told : (d : DrumWords) → means.fits old d
      → means.fits new d × (called_behind (key_of was.files) (rest_of was) f (means.plain old d) number ≡ record { rest = rest_of is; fork = after; pages = means.plain new d; shown = shown })
  pub numbers : (d : DrumWords) → means.fits old d → NumbersStay was.files.dir is.files.dir
  pub keeps : Kept f after 1
  pub leaves : LeavesForks means old new was.tree is.tree f 1
  pub loses : MayLose means old new
  pub unheld : AreUnheld (open_of is.files) is.jobs
  pub typing_room : length is.typed ≡ TERMINALS
  pub fits : FitsShown shown

-- the forks, the files and JFNs, and what was typed are as they were; and over each drum that fits so are the pages
pub record StaysPlainly {P : Type 0} (means : PagesMeaning P) (old new : P) (was is : Tables) : Type 0 where
  pub tree : is.tree ≡ was.tree
  pub files : is.files ≡ was.files
  pub typed : is.typed ≡ was.typed
  pub each : (d : DrumWords) → means.fits old d → means.fits new d × (means.plain new d ≡ means.plain old d)

-- why the turn of a call of a fork with these registers needs this first, over each drum that fits
abbrev pub CallReason : {P : Type 0} → PagesMeaning P → P → Tables → ForkName → Regs → ℕ → Need → Type 0
CallReason means p was who regs number n = (d : DrumWords) → means.fits p d → CallNeeds was.files (means.scene p) (parts_in (rest_of was) (means.plain p d)) who regs number n

-- why a unit of a fork does
abbrev pub UnitReason : {P : Type 0} → PagesMeaning P → P → Tables → Fork → Need → Type 0
UnitReason means p was f n = (d : DrumWords) → means.fits p d → UnitNeeds was.files (means.scene p) (parts_in (rest_of was) (means.plain p d)) f n

-- a call of a number was not made, since it needs this first, whatever the drum holds
pub record CallWaits {P : Type 0} (means : PagesMeaning P) (old new : P) (was is : Tables) (who : ForkName) (number : ℕ) (n : Need) : Type 0 where
  pub told : StaysPlainly means old new was is
  pub left : CallLeaves means old new was.tree is.tree who most_makings
  pub unmade : PlansOnly means who.tty old new
  pub needed : IsNeeded means.store unit_frames new n
  pub reason : (f : Fork) → map.get was.tree.forks who ≡ Some f → CallReason means old was who f.body.regs number n

-- no unit was done, since the first needs this, whatever the drum holds
pub record UnitWaits {P : Type 0} (means : PagesMeaning P) (old new : P) (was is : Tables) (f : Fork) (n : Need) : Type 0 where
  pub told : StaysPlainly means old new was is
  pub leaves : LeavesForks means old new was.tree is.tree f 0
  pub unmade : PlansOnly means f.name.tty old new
  pub needed : IsNeeded means.store unit_frames new n
  pub reason : UnitReason means old was f n

-- units of a fork of a tree ran in a row, over each drum that fits: so many, and the last showed this
pub record UnitsRan {P : Type 0} (means : PagesMeaning P) (old new : P) (was is : Tables) (f : Fork) (units : Units) : Type 0 where
  pub after : Fork
  pub there : (d : DrumWords) → means.fits old d → Lives is.tree.forks after
  pub told : (d : DrumWords) → means.fits old d
      → means.fits new d × RanUnits (key_of was.files) (rest_of was) f (means.plain old d) units.count (record { rest = rest_of is; fork = after; pages = means.plain new d; shown = units.shown })
  pub numbers : (d : DrumWords) → means.fits old d → NumbersStay was.files.dir is.files.dir
  pub keeps : Kept f after units.count
  pub leaves : LeavesForks means old new was.tree is.tree f units.count
  pub loses : MayLose means old new
  pub unheld : AreUnheld (open_of is.files) is.jobs
  pub typing_room : length is.typed ≡ TERMINALS
  pub shown : FitsShown units.shown
