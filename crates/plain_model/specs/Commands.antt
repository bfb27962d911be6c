-- The commands of the monitor: what each does, and prints (CACM paper, "The executive").
use Rattle.std.specs.Prelude.{ℕ, zero, suc, List, [], ◌∷◌, ◌++◌, codes, drop, length, Bool, true, false, ◌||◌, ◌==◌, nat_eq, nat_lt, if◌then◌else◌, Option, None, Some}
use Rattle.std.specs.List.{flat_map, starts_with}
use Rattle.std.specs.Option.{option_map_or}
use Rattle.std.specs.declared.cmp.Ordering.{Ordering}
use Rattle.std.specs.FinMap as map
use Rattle.word36.specs.Words.{right}
use Rattle.machine_names.specs.Orders.{name_cmp}
use Rattle.machine_names.specs.declared.character.TheConstants.{CARRIAGE_RETURN, LINE_FEED, PROMPT}
use Rattle.machine_names.specs.declared.names.Access.{Access}
use Rattle.machine_names.specs.declared.names.ForkName.{ForkName}
use Rattle.machine_names.specs.declared.names.PageName.{PageName}
use Rattle.machine_names.specs.declared.names.TheConstants.{SPACE_PAGES}
use Rattle.machine_names.specs.declared.names.Tty.{Tty}
use Rattle.plain_typing.specs.declared.command.Command.{Command}
use Rattle.plain_typing.specs.declared.command.Command.TheVariants as command
use Rattle.plain_pages.specs.declared.map.MapEntry.{MapEntry}
use Rattle.plain_pages.specs.declared.map.MapEntry.TheVariants.{Empty, Names}
use Rattle.plain_pages.specs.FilePages.{without_file}
use Rattle.plain_pages.specs.PlainPages.{PlainPages}
use Rattle.plain_pages.specs.References.{page_at, with_changed, word_at}
use Rattle.script_texts.specs.declared.status.ForkStatus.{ForkStatus}
use Rattle.script_texts.specs.declared.status.ForkStatus.TheVariants.{Run as Running, Halted, Forced}
use Rattle.plain_model.specs.declared.command.TheConstants.{START_WORD}
use Rattle.plain_model.specs.declared.fork.Body.{Body}
use Rattle.plain_model.specs.declared.fork.Fork.{Fork}
use Rattle.plain_model.specs.declared.fork.TerminalMode.TheVariants.{Program}
use Rattle.plain_model.specs.State.{PlainState, PlainJob}
use Rattle.plain_model.specs.Forks.{change_fork, first_regs, psi_at_rest, with_fork, with_status}
use Rattle.plain_model.specs.Trees.{tree_of, with_body, with_changed_of, with_mark}
use Rattle.plain_model.specs.ForkCalls.{ForkParts, killed, without_inferiors}
use Rattle.plain_model.specs.FileCalls.{times_held}
use Rattle.plain_model.specs.InterruptCalls.{living_codes}
use Rattle.plain_model.specs.FileEvents.{page_named}
use Rattle.plain_model.specs.Unit.{Effect, printed}

-- a line of text
abbrev pub with_line_end : List ℕ → List ℕ
with_line_end text = text ++ (CARRIAGE_RETURN ∷ LINE_FEED ∷ [])

-- a command is over: a text is printed, and the prompt behind it
abbrev pub prompted : PlainState → Tty → List ℕ → Effect
prompted s t text = record { state = s; items = printed t (text ++ PROMPT ∷ []) }

-- a command changes nothing, and says why in a line
abbrev pub told : PlainState → Tty → List ℕ → Effect
told s t why = prompted s t (with_line_end why)

-- the state with another job at a terminal
abbrev pub with_job_at : PlainState → Tty → PlainJob → PlainState
with_job_at s t j = record s { jobs = map.insert s.jobs t.0 j }

-- a job whose forks read its terminal
abbrev pub in_program : PlainJob → PlainJob
in_program j = record j { mode = Program }

-- ---- START and CONTINUE

-- a fork that runs at an address, with no freeze mark
abbrev pub restarted : ℕ → Fork → Fork
restarted address f = record f { frozen = false; body = record f.body { status = Running; regs = record f.body.regs { pc = address } } }

-- a terminal's job in program mode, with its top fork started at an address
abbrev pub started : PlainState → Tty → ℕ → PlainJob → PlainState
started s t address j = with_job_at (change_fork s j.top (restarted address)) t (in_program j)

-- START: the top fork runs at the start address of the last program that was run
abbrev pub start_again : PlainState → Tty → PlainJob → Effect
start_again s t j = option_map_or (λ address. record { state = started s t address j; items = [] }) j.start (told s t (codes "?NO PROGRAM"))

-- whether a fork was forced
abbrev pub is_forced : ForkStatus → Bool
is_forced (Forced channel) = true
is_forced status = false

-- a fork that was halted runs
abbrev pub without_halt : ForkStatus → ForkStatus
without_halt Halted = Running
without_halt status = status

-- a fork goes on: it has no freeze mark
abbrev pub resumed : Fork → Fork
resumed f = with_mark false (with_status f (without_halt f.body.status))

-- the top fork goes on, unless it was forced or has not run yet
abbrev pub continued : PlainState → Tty → PlainJob → Fork → Effect
continued s t j f = if is_forced f.body.status || (f.body.units == 0) then told s t (codes "?CANNOT") else record { state = with_job_at (with_fork s (resumed f)) t (in_program j); items = [] }

-- CONTINUE: the top fork goes on where it stands
abbrev pub go_on : PlainState → Tty → PlainJob → Effect
go_on s t j = option_map_or (continued s t j) (map.get s.forks j.top) (prompted s t [])

-- ---- RUN

-- an entry that names the page of a program, where its file has it, to be read and executed; a write makes a copy
abbrev pub program_entry : Option PageName → MapEntry
program_entry page = option_map_or (λ n. Names n (record { r = true; w = false; x = true; c = true })) page Empty

module _ {K : Type 0} {file_cmp : K → K → Ordering} where
  -- the pages with one page of a fork's map as a program has it that is in a file
  abbrev pub with_program_page : PlainPages file_cmp → ForkName → K → ℕ → PlainPages file_cmp
  with_program_page p f file page = with_changed p (record { fork = f; page = page }) (λ e. program_entry (map.get p.files (record { file = file; page = page })))

  -- the pages with so many pages of a fork's map as a program has them that is in a file
  unfoldable pub with_program : ℕ → PlainPages file_cmp → ForkName → K → PlainPages file_cmp
  with_program zero p f file = p
  with_program (suc page) p f file = with_program_page (with_program page p f file) f file page

-- a fork that begins a program at an address: nothing is in its accumulators, it has no flags and no freeze mark, its interrupts are at
-- rest, and it doesn't sleep
abbrev pub begun_at : ℕ → Fork → Fork
begun_at address f =
    let begun = record f.body { status = Running; regs = record first_regs { pc = address }; psi = psi_at_rest; sleep = None } in
    record f { frozen = false; body = begun }

-- a fork without its inferiors, which begins the program in a file at an address
abbrev pub with_program_run : {K : Type 0} {file_cmp : K → K → Ordering} → ForkParts file_cmp → ForkName → K → ℕ → ForkParts file_cmp
with_program_run v top file address = let alone = without_inferiors v top in
    record { tree = with_changed_of alone.tree top (begun_at address); pages = with_program SPACE_PAGES alone.pages top file }

-- the forks and the pages of the state, and the state with others
abbrev pub forks_and_pages : PlainState → ForkParts name_cmp
forks_and_pages s = record { tree = tree_of s; pages = s.pages }

abbrev pub with_forks_and_pages : PlainState → ForkParts name_cmp → PlainState
with_forks_and_pages s v = record s { forks = v.tree.forks; fork_serials = v.tree.serials; pages = v.pages }

-- a job whose top fork runs the program in a file; of the codes that its forks have assigned, those of the top fork stay
abbrev pub running : PlainState → Tty → PlainJob → List ℕ → ℕ → PlainState
running s t j name address =
    let run = with_forks_and_pages s (with_program_run (forks_and_pages s) j.top name address) in
    with_job_at run t (record (in_program j) { start = Some address; codes = living_codes run.forks j.codes })

-- the address at which a program starts: the right half of a word of its first page
abbrev pub start_address : PlainState → List ℕ → ℕ
start_address s name = right (word_at s.pages (page_named name 0) START_WORD)

-- RUN: the program in a file is run; it is refused where there is no such file, or where that doesn't have its first page
abbrev pub run_program : PlainState → Tty → PlainJob → List ℕ → Effect
run_program s t j name =
    if map.contains_key s.files name
    then option_map_or (λ page. record { state = running s t j name (start_address s name); items = [] }) (page_at s.pages (page_named name 0)) (told s t (codes "?NO PROGRAM"))
    else told s t (codes "?NO FILE")

-- ---- DIRECTORY and DELETE

-- what a name of a file begins with that is in a directory
abbrev pub directory_prefix : List ℕ → List ℕ
directory_prefix user = 60 ∷ (user ++ 62 ∷ [])

-- the line of a file in a user's directory: a space, and its name without the directory; the other files have none
abbrev pub file_line : List ℕ → List ℕ → List ℕ
file_line user name = if starts_with nat_eq name (directory_prefix user) then with_line_end (32 ∷ drop (length (directory_prefix user)) name) else []

-- DELETE: a file is removed, with the names that its pages have there; it is refused where there is no such file, or where a JFN stands
-- for it
abbrev pub delete_file : PlainState → Tty → List ℕ → Effect
delete_file s t name =
    if map.contains_key s.files name
    then (if nat_lt 0 (times_held s.jobs name) then told s t (codes "?FILE BUSY") else prompted (record s { pages = without_file s.pages name; files = map.remove s.files name }) t [])
    else told s t (codes "?NO FILE")

-- ---- LOGOUT

-- a terminal without its job: its forks are killed, and its JFNs released
abbrev pub logged_out : PlainState → Tty → PlainJob → PlainState
logged_out s t j = record (with_forks_and_pages s (killed (forks_and_pages s) j.top)) { jobs = map.remove s.jobs t.0 }

-- ---- all

-- what a command of a terminal's job does and prints; the line that it was is no longer in the job. CONTINUE: the top fork goes on where it
-- stands. DIRECTORY: the files of the user's directory, in the order of their names.
unfoldable pub commanded : PlainState → Tty → PlainJob → Command → Effect
commanded s t j command.Blank = prompted s t []
commanded s t j (command.Run name) = run_program s t j name
commanded s t j command.Start = start_again s t j
commanded s t j command.Continue = option_map_or (continued s t j) (map.get s.forks j.top) (prompted s t [])
commanded s t j command.Directory = prompted s t (flat_map (file_line j.user) (map.keys s.files))
commanded s t j (command.Delete name) = delete_file s t name
commanded s t j command.Logout = record { state = logged_out s t j; items = [] }
commanded s t j command.Unknown = told s t (codes "?")
