-- The parts of a character that is typed: what each does to a system, and which comes next.
use Rattle.std.specs.Prelude.{◌≡◌, ℕ, List, Option, None, Some, IfSome, if◌then◌else◌}
use Rattle.std.specs.FinMap as map
use Rattle.machine_names.specs.Orders.{file_page, name_cmp}
use Rattle.machine_names.specs.Bounds.{IsTerminal}
use Rattle.machine_names.specs.declared.names.Tty.{Tty}
use Rattle.page_contracts.specs.DrumWords.{DrumWords}
use Rattle.page_contracts.specs.declared.answers.Need.{Need}
use Rattle.plain_files.specs.NamedFiles.{name_of}
use Rattle.plain_files.specs.Sizes.{PlainFile}
use Rattle.plain_typing.specs.declared.command.Command.{Command}
use Rattle.plain_typing.specs.declared.command.Command.TheVariants as command
use Rattle.plain_model.specs.State.{PlainState}
use Rattle.plain_model.specs.Unit.{Effect}
use Rattle.event_deeds.specs.declared.answer.Answer.{Answer}
use Rattle.event_deeds.specs.declared.answer.Showing.{Showing}
use Rattle.event_deeds.specs.declared.answer.Showing.TheVariants.{Reply, Echo, Told}
use Rattle.event_deeds.specs.declared.deed.Deed.{Deed}
use Rattle.event_deeds.specs.declared.deed.Deed.TheVariants.{Begin, End, Kill}
use Rattle.event_deeds.specs.declared.deed.Purpose.TheVariants.{Logout}
use Rattle.event_deeds.specs.Deeds.{DeedEffect, IsNext}
use Rattle.event_deeds.specs.Leaves.{last_below}
use Rattle.event_deeds.specs.Showings.{showing_items}
use Rattle.file_tables.specs.Tables.{IsThere}
use Rattle.job_commands.specs.Needing.{NeedsFilePage, NeedsLast, NeedsMap}
use Rattle.step_shown.specs.declared.echo.Echo.{Echo as Echoed}
use Rattle.step_shown.specs.declared.echo.Echo.TheVariants.{Ends}
use Rattle.step_shown.specs.declared.echo.Told.{Told as Printed}
use Rattle.step_shown.specs.declared.echo.Told.TheVariants.{Nothing as Silent}
use Rattle.step_shown.specs.Echoes.{FitsEcho}
use Rattle.monitor_calls.specs.declared.job.Job.{Job}
use Rattle.monitor_core.specs.declared.system.System.{System}
use Rattle.monitor_typing.specs.Effects.{Has, HasJobAt}
use Rattle.monitor_core.specs.Systems.{FitsPages, state_of}

-- what a deed leaves and shows
abbrev pub effect_of : DeedEffect → Effect
effect_of e = record { state = e.state; items = e.items }

-- a deed is done, in which no unit runs and no page is made: over each drum that fits, the system stands for the state that it leaves, this is what it
-- shows, and this comes next
pub record Does {P : Type 0} {b : _} (old new : System P b) (done : PlainState → DeedEffect) (answer : Answer) : Type 0 where
  pub has : Has old new (λ s. effect_of (done s)) (λ s. showing_items s answer.showing)
  pub next : (d : DrumWords) → FitsPages old d → answer.next ≡ (done (state_of old d)).next

-- the limits of what a part of a character shows: it is no reply
abbrev pub FitsPart : Showing → Type 0
FitsPart (Reply reply) = ⊥
FitsPart (Echo t shown) = IsTerminal t × FitsEcho shown
FitsPart (Told t shown) = IsTerminal t

-- and of what comes next
pub record FitsAnswer (answer : Answer) : Type 0 where
  pub shown : FitsPart answer.showing
  pub next : IfSome answer.next IsNext

-- a character that is over with what a terminal shows of it
abbrev pub once : Tty → Echoed → Answer
once t shown = record { showing = Echo t shown; next = None }

-- the end of a line, what its command prints so far, and what comes next of it
abbrev pub line_end : Tty → Printed → Option Deed → Answer
line_end t told next = record { showing = Echo t (Ends told); next = next }

-- a character shows what its terminal shows of it; where a command comes next, that is the end of its line alone
abbrev pub IsShownSo : Tty → Option Deed → Showing → Type 0
IsShownSo t next (Reply reply) = ⊥
IsShownSo t None (Echo u shown) = u ≡ t
IsShownSo t (Some next) (Echo u shown) = (u ≡ t) × (shown ≡ Ends Silent)
IsShownSo t next (Told u shown) = ⊥

-- a part of a command prints at a terminal
abbrev pub IsPrinted : Tty → Showing → Type 0
IsPrinted t (Reply reply) = ⊥
IsPrinted t (Echo u shown) = ⊥
IsPrinted t (Told u shown) = u ≡ t

-- a deed is a part of a command of a terminal
abbrev pub IsBehind : Tty → Deed → Type 0
IsBehind t (Begin u name) = u ≡ t
IsBehind t (Kill u purpose) = u ≡ t
IsBehind t (End u purpose) = u ≡ t
IsBehind t other = ⊥

-- the first part of a character
pub record IsEchoed (t : Tty) (answer : Answer) : Type 0 where
  pub shown : IsShownSo t answer.next answer.showing
  pub next : IfSome answer.next (IsBehind t)

-- a part of a command prints at its terminal, and another comes next, or none
pub record Prints (t : Tty) (answer : Answer) : Type 0 where
  pub shown : IsPrinted t answer.showing
  pub next : IfSome answer.next (IsBehind t)

-- so does each part of one
abbrev pub PartPrints : Deed → Answer → Type 0
PartPrints (Begin t name) answer = Prints t answer
PartPrints (Kill t purpose) answer = Prints t answer
PartPrints (End t purpose) answer = Prints t answer
PartPrints other answer = Unit {0}

-- the deed that a command begins, where it isn't done at once
abbrev pub begins_with : map.FinMap name_cmp PlainFile → Tty → Command → Option Deed
begins_with files t (command.Run name) = if map.contains_key files name then Some (Begin t name) else None
begins_with files t command.Logout = Some (Kill t Logout)
begins_with files t other = None

-- ---- what a part needs first: its home is told without a drum

-- the first page of the file of a name
pub record NeedsFirstPage {P : Type 0} {b : _} (m : System P b) (name : List ℕ) (n : Need) : Type 0 where
  pub file : ℕ
  pub there : IsThere m.files file
  pub named : name_of m.files.dir file ≡ name
  pub needs : NeedsFilePage b.means m.pages (file_page file 0) n

-- what is needed for a terminal's job
pub record NeedsForJob {P : Type 0} {b : _} (m : System P b) (t : Tty) (asks : Job → Type 0) : Type 0 where
  pub job : Job
  pub at : HasJobAt m t job
  pub needs : asks job

-- a look at a program needs its first page, and a kill the map of the fork that goes
abbrev pub PartNeeds : {P : Type 0} {b : _} → System P b → Deed → Need → Type 0
PartNeeds m (Begin t name) n = NeedsFirstPage m name n
PartNeeds {P} {b} m (Kill t purpose) n = NeedsForJob m t (λ j. NeedsLast b.means m.pages (last_below m.tree.forks j.top) n)
PartNeeds {P} {b} m (End t purpose) n = NeedsForJob m t (λ j. NeedsMap b.means m.pages j.top n)
PartNeeds m other n = ⊥
