-- The events of a script that are one step of the plain machine.
use Rattle.std.specs.Prelude.{ℕ, ◌+◌, ◌%◌, List, [], ◌∷◌, map, Bool, nat_lt, Option, None, Some, if◌then◌else◌, slice_index, take, is_some}
use Rattle.std.specs.Option.{option_map, option_map_or}
use Rattle.std.specs.FinMap as map
use Rattle.outside.specs.declared.TheConstants.{PAGE_WORDS}
use Rattle.machine_names.specs.declared.names.TheConstants.{LAST_SERIAL, ACCUMULATORS}
use Rattle.machine_names.specs.declared.names.Tty.{Tty}
use Rattle.machine_names.specs.declared.names.ForkName.{ForkName}
use Rattle.machine_names.specs.declared.names.Slot.{Slot}
use Rattle.machine_names.specs.declared.names.Kind.TheVariants.{Write}
use Rattle.machine_names.specs.declared.character.TheConstants.{PROMPT}
use Rattle.plain_pages.specs.declared.map.NewMap.TheVariants.{Empty as EmptyMap}
use Rattle.plain_model.specs.declared.fork.TerminalMode.TheVariants.{Command}
use Rattle.plain_model.specs.declared.fork.Fork.{Fork}
use Rattle.script_texts.specs.declared.event.Event.{Event}
use Rattle.script_texts.specs.declared.event.Event.TheVariants.{Login, TypeIn, File, Words, Poke, Start, Tick, Examine, Forks, Page, Trace}
use Rattle.script_texts.specs.declared.event.Item.TheVariants.{Char, ForkLine, Examined}
use Rattle.script_texts.specs.declared.event.Refusal.TheVariants.{Busy, NoJob, SerialsOut, Full, Denied, NoFork, NoPage}
use Rattle.plain_model.specs.State.{PlainState, PlainJob}
use Rattle.machine_names.specs.Orders.{name_cmp}
use Rattle.plain_pages.specs.Room.{HasRoom}
use Rattle.plain_pages.specs.References.{Referred, granted, denied, full, in_map, reference, stored, words_of, page_at, slot_at}
use Rattle.plain_model.specs.Forks.{top_fork, change_fork, with_regs, forks_by_slot, fork_line}
use Rattle.plain_model.specs.Trees.{tree_of, next_serial, next_name, sleepers_awoken, with_made}
use Rattle.plain_model.specs.Calls.{with_ac}
use Rattle.plain_model.specs.Unit.{Effect, parts_of, refused, with_parts}
use Rattle.plain_model.specs.FileEvents.{make_file, write_words, show_page}
use Rattle.plain_pages.specs.NewMaps.{with_map}
use Rattle.plain_model.specs.Commands.{started}
use Rattle.plain_model.specs.TypeEvents.{typed_all}

-- an event of a terminal's job; it is refused where the terminal has none
abbrev pub at_job : PlainState → Tty → (PlainJob → Effect) → Effect
at_job s t act = option_map_or act (map.get s.jobs t.0) (refused s (NoJob t))

-- a job of a user whose terminal is in command mode
abbrev pub new_job : List ℕ → ForkName → PlainJob
new_job user top = record { user = user; top = top; mode = Command; line = []; start = None; jfns = map.empty; input = []; codes = map.empty }

-- a job with its top fork, which is made
abbrev pub with_job : PlainState → Tty → List ℕ → PlainState
with_job s t user =
    let f = next_name (tree_of s) t in
    let made = with_parts s (record (parts_of s) { tree = with_made (tree_of s) (top_fork f); pages = with_map s.pages f EmptyMap }) in
    record made { jobs = map.insert s.jobs t.0 (new_job user f) }

-- LOGIN: refused where the terminal has a job, where its serials are used up, and where the drum is full
abbrev pub login : PlainState → Tty → List ℕ → Effect
login s t user =
    if is_some (map.get s.jobs t.0) then refused s (Busy t)
    else (if nat_lt LAST_SERIAL (next_serial (tree_of s) t) then refused s (SerialsOut t)
    else (if HasRoom (with_map s.pages (next_name (tree_of s) t) EmptyMap) t then record { state = with_job s t user; items = Char t PROMPT ∷ [] }
    else refused s (Full t)))

-- a word put into a slot's page, where a write is granted
abbrev pub poked : PlainState → Tty → Slot → ℕ → ℕ → Referred name_cmp → Effect
poked s t slot offset word (granted p) = record { state = record s { pages = stored p (in_map slot) offset word }; items = [] }
poked s t slot offset word (denied kind) = refused s (Denied t)
poked s t slot offset word full = refused s (Full t)

-- a word put at an address of a job's top fork
abbrev pub poked_at : PlainState → Tty → ℕ → ℕ → PlainJob → Effect
poked_at s t address word j =
    if nat_lt address ACCUMULATORS then record { state = change_fork s j.top (λ f. with_regs f (with_ac f.body.regs address word)); items = [] }
    else (let slot = slot_at j.top address in poked s t slot (address % PAGE_WORDS) word (reference s.pages (in_map slot) Write t))

-- START: the top fork runs at the address, with no freeze mark, in program mode
abbrev pub start : PlainState → Tty → ℕ → Effect
start s t address = at_job s t (λ j. record { state = started s t address j; items = [] })

-- the word at an address of a fork, whatever its access, where a page is there; low addresses are its accumulators
abbrev pub word_seen : PlainState → Fork → ℕ → Option ℕ
word_seen s f address =
    if nat_lt address ACCUMULATORS then Some (slice_index f.body.regs.ac address)
    else option_map (λ n. slice_index (words_of s.pages n) (address % PAGE_WORDS)) (page_at s.pages (in_map (slot_at f.name address)))

-- the word at an address of a fork is shown; it is refused where no page is there
abbrev pub examined_in : PlainState → Tty → ℕ → ℕ → Fork → Effect
examined_in s t serial address f = option_map_or (λ word. record { state = s; items = Examined t serial address word ∷ [] }) (word_seen s f address) (refused s (NoPage t))

-- An event as one step; those that are none change nothing. TYPE: the characters of a text are typed at the terminal, one after another.
-- POKE: a write of the top fork, by its access; low addresses are its accumulators. TICK: the clock goes on by one, and each sleeper whose
-- moment it reaches runs again. EXAMINE: the word at an address of one of the job's forks; nothing is made. FORKS: a job's forks by slot.
-- TRACE: whether each unit is shown.
unfoldable pub outer : PlainState → Event → Effect
outer s (Login t user) = login s t user
outer s (TypeIn t text) = at_job s t (λ j. typed_all s t text)
outer s (File name) = make_file s name
outer s (Words name page offset row) = write_words s name page offset (take row.count row.words)
outer s (Poke t address word) = at_job s t (poked_at s t address word)
outer s (Start t address) = start s t address
outer s Tick = let clock = s.clock + 1 in record { state = record s { clock = clock; forks = sleepers_awoken clock s.forks }; items = [] }
outer s (Examine t serial address) =
    at_job s t (λ j. option_map_or (examined_in s t serial address) (map.get s.forks (record { tty = t; serial = serial })) (refused s (NoFork t)))
outer s (Forks t) = at_job s t (λ j. record { state = s; items = map (λ f. ForkLine (fork_line s.forks f)) (forks_by_slot s.forks t) })
outer s (Page name page) = show_page s name page
outer s (Trace on) = record { state = record s { trace = on }; items = [] }
outer s e = record { state = s; items = [] }
