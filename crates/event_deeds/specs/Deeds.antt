-- The parts of events that are done whole, and what comes of them (CACM paper, "The executive").
use Rattle.std.specs.Prelude.{◌≡◌, ℕ, zero, suc, ◌<◌, List, [], ◌∷◌, ◌++◌, codes, Bool, true, false, ◌&&◌, not, ◌==◌, if◌then◌else◌, Option, None, Some}
use Rattle.std.specs.Option.{option_map_or}
use Rattle.std.specs.FinMap as map
use Rattle.machine_names.specs.Bounds.{IsAddress, IsFileName, IsTerminal}
use Rattle.machine_names.specs.declared.character.TheConstants.{LINE_END}
use Rattle.machine_names.specs.declared.names.ForkName.{ForkName}
use Rattle.machine_names.specs.declared.names.TheConstants.{MOST_FORKS, SPACE_PAGES}
use Rattle.machine_names.specs.declared.names.Tty.{Tty}
use Rattle.plain_pages.specs.References.{page_at}
use Rattle.plain_typing.specs.Characters.{read_as}
use Rattle.plain_typing.specs.Commands.{command_of}
use Rattle.plain_typing.specs.declared.command.Command.{Command}
use Rattle.plain_typing.specs.declared.command.Command.TheVariants as command
use Rattle.script_texts.specs.Limits.{FitsStep}
use Rattle.script_texts.specs.declared.event.Event.{Event}
use Rattle.script_texts.specs.declared.event.Event.TheVariants.{TypeIn, Poke, Examine}
use Rattle.script_texts.specs.declared.event.Item.{Item}
use Rattle.script_texts.specs.declared.event.Step.TheVariants as step
use Rattle.plain_model.specs.declared.fork.Fork.{Fork}
use Rattle.plain_model.specs.declared.fork.TerminalMode.{TerminalMode}
use Rattle.plain_model.specs.declared.fork.TerminalMode.TheVariants as mode
use Rattle.plain_model.specs.Commands.{begun_at, commanded, forks_and_pages, in_program, start_address, told, with_forks_and_pages, with_job_at, with_program}
use Rattle.plain_model.specs.Events.{outer}
use Rattle.plain_model.specs.FileEvents.{page_named}
use Rattle.fork_tree.specs.Inferiors.{without}
use Rattle.event_deeds.specs.Leaves.{last_below}
use Rattle.plain_model.specs.InterruptCalls.{living_codes}
use Rattle.plain_model.specs.State.{PlainJob, PlainState}
use Rattle.plain_model.specs.Trees.{tree_of, with_changed_of}
use Rattle.plain_model.specs.TypeEvents.{echo, typed_one}
use Rattle.plain_model.specs.Unit.{Effect}
use Rattle.event_deeds.specs.declared.deed.Deed.{Deed}
use Rattle.event_deeds.specs.declared.deed.Deed.TheVariants.{Outer, Typed, Begin, Kill, End}
use Rattle.event_deeds.specs.declared.deed.Purpose.{Purpose}
use Rattle.event_deeds.specs.declared.deed.Purpose.TheVariants.{Run, Logout}

-- what a deed leaves, and what it shows; and the deed that comes next for its event, if one does
pub record DeedEffect : Type 0 where
  pub state : PlainState
  pub items : List Item
  pub next : Option Deed

-- the event is over with this
abbrev pub over : Effect → DeedEffect
over e = record { state = e.state; items = e.items; next = None }

-- nothing is changed or shown, and this comes next
abbrev pub goes_on : PlainState → Deed → DeedEffect
goes_on s d = record { state = s; items = []; next = Some d }

-- ---- the end of a line

-- a command is done, or begun where it runs a program or logs out
abbrev pub command_begun : PlainState → Tty → PlainJob → Command → DeedEffect
command_begun s t j (command.Run name) = if map.contains_key s.files name then goes_on s (Begin t name) else over (commanded s t j (command.Run name))
command_begun s t j command.Logout = goes_on s (Kill t Logout)
command_begun s t j c = over (commanded s t j c)

-- the line is over: it is the job's no longer, and its command is done, or begun
abbrev pub line_begun : PlainState → Tty → PlainJob → DeedEffect
line_begun s t j = let left = record j { line = [] } in let e = command_begun (with_job_at s t left) t left (command_of j.user j.line) in
    record e { items = echo t LINE_END ++ e.items }

-- a character as it is read, by who reads the terminal
abbrev pub typed_by : TerminalMode → PlainState → Tty → PlainJob → ℕ → DeedEffect
typed_by mode.Program s t j code = over (typed_one mode.Program s t j code)
typed_by mode.Command s t j code = if code == LINE_END then line_begun s t j else over (typed_one mode.Command s t j code)

-- ---- the end of a top fork's inferiors, and what comes behind it

-- the address at which a program starts is looked up; it is refused where its file doesn't have its first page
abbrev pub begun : PlainState → Tty → List ℕ → DeedEffect
begun s t name = option_map_or (λ page. goes_on s (Kill t (Run name (start_address s name)))) (page_at s.pages (page_named name 0)) (over (told s t (codes "?NO PROGRAM")))

-- the forks and pages without one fork
abbrev pub killed_fork : PlainState → ForkName → PlainState
killed_fork s f = with_forks_and_pages s (without (forks_and_pages s) f)

-- of the inferiors of a top fork that have none themselves, the one in the highest slot is killed; where there is none, this comes next
abbrev pub one_killed : PlainState → Tty → Purpose → ForkName → DeedEffect
one_killed s t purpose top = option_map_or (λ (k : Fork). goes_on (killed_fork s k.name) (Kill t purpose)) (last_below s.forks top) (goes_on s (End t purpose))

-- a job whose top fork, which has no inferior, runs the program in a file; of the codes that its forks have assigned, those of the top fork stay
abbrev pub running_alone : PlainState → Tty → PlainJob → List ℕ → ℕ → PlainState
running_alone s t j name address =
    let run = with_forks_and_pages s (record { tree = with_changed_of (tree_of s) j.top (begun_at address); pages = with_program SPACE_PAGES s.pages j.top name }) in
    with_job_at run t (record (in_program j) { start = Some address; codes = living_codes run.forks j.codes })

-- a terminal without its job, whose top fork has no inferior: that is killed, and the job's JFNs are released
abbrev pub ended_alone : PlainState → Tty → PlainJob → PlainState
ended_alone s t j = record (killed_fork s j.top) { jobs = map.remove s.jobs t.0 }

-- what the inferiors were killed for is done; once the program's file is gone, nothing
abbrev pub purpose_done : PlainState → Tty → PlainJob → Purpose → PlainState
purpose_done s t j (Run name address) = if map.contains_key s.files name then running_alone s t j name address else s
purpose_done s t j Logout = ended_alone s t j

-- while a top fork has inferiors, those are killed first
abbrev pub all_done : PlainState → Tty → PlainJob → Purpose → DeedEffect
all_done s t j purpose = option_map_or (λ (k : Fork). goes_on s (Kill t purpose)) (last_below s.forks j.top) (record { state = purpose_done s t j purpose; items = []; next = None })

-- ---- all

-- a deed of a terminal's job; once the job is gone, nothing
abbrev pub for_job : PlainState → Tty → (PlainJob → DeedEffect) → DeedEffect
for_job s t act = option_map_or act (map.get s.jobs t.0) (record { state = s; items = []; next = None })

-- WHAT A DEED DOES
unfoldable pub deed : PlainState → Deed → DeedEffect
deed s (Outer e) = over (outer s e)
deed s (Typed t c) = for_job s t (λ j. typed_by j.mode s t j (read_as c))
deed s (Begin t name) = for_job s t (λ j. begun s t name)
deed s (Kill t purpose) = for_job s t (λ j. one_killed s t purpose j.top)
deed s (End t purpose) = for_job s t (λ j. all_done s t j purpose)

-- so many deeds at most, each behind the one before it
unfoldable pub deeds : ℕ → PlainState → Deed → Effect
deeds zero s d = record { state = s; items = [] }
deeds (suc n) s d = let e = deed s d in let rest = option_map_or (deeds n e.state) e.next (record { state = e.state; items = [] }) in
    record rest { items = e.items ++ rest.items }

-- as many deeds as one character may have: the line is taken, a start address looked up, each inferior killed, none found, and the purpose done
abbrev pub most_deeds : ℕ
most_deeds = suc (suc (suc (suc MOST_FORKS)))

-- ---- what is asked of a deed

-- an event that is one deed
abbrev pub IsAtOnce : Event → Type 0
IsAtOnce (TypeIn t text) = ⊥
IsAtOnce e = Unit {0}

abbrev pub FitsPurpose : Purpose → Type 0
FitsPurpose (Run name address) = IsFileName name × IsAddress address
FitsPurpose Logout = Unit {0}

-- the limits of a deed
abbrev pub FitsDeed : Deed → Type 0
FitsDeed (Outer e) = FitsStep (step.Outer e) × IsAtOnce e
FitsDeed (Typed t c) = IsTerminal t × (c < 128)
FitsDeed (Begin t name) = IsTerminal t × IsFileName name
FitsDeed (Kill t purpose) = IsTerminal t × FitsPurpose purpose
FitsDeed (End t purpose) = IsTerminal t × FitsPurpose purpose

-- a deed that may come behind another: a part of a character, within its limits
abbrev pub IsPart : Deed → Type 0
IsPart (Outer e) = ⊥
IsPart d = Unit {0}

abbrev pub IsNext : Deed → Type 0
IsNext d = FitsDeed d × IsPart d

-- how many entries of a run a deed is: a character is part of one
abbrev pub entries_of : Deed → ℕ
entries_of (Outer e) = 1
entries_of d = 0

-- a deed of which the tables alone tell to which pages and maps it refers: all but a look and a write through the map of a fork
abbrev pub IsTold : Deed → Type 0
IsTold (Outer (Poke t address word)) = ⊥
IsTold (Outer (Examine t serial address)) = ⊥
IsTold d = Unit {0}

-- what is done whole, or not at all: a unit of a fork, or a deed
pub data Task : Type 0 where
  unit_of : ForkName → Task
  deed_of : Deed → Task
