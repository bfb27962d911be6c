-- To which pages and maps a unit and a deed refer, over the parts of the plain state alone, whatever files are known by.
use Rattle.std.specs.Prelude.{ℕ, List, [], ◌∷◌, ◌++◌, filter, map, Bool, ◌||◌, if◌then◌else◌, nat_lt, Option, None, Some}
use Rattle.std.specs.Option.{option_map_or}
use Rattle.std.specs.declared.cmp.Ordering.{Ordering}
use Rattle.std.specs.FinMap as map_of
use Rattle.machine_names.specs.Orders.{FilePage, same_fork}
use Rattle.machine_names.specs.declared.names.ForkName.{ForkName}
use Rattle.machine_names.specs.declared.names.PageName.{PageName}
use Rattle.machine_names.specs.declared.names.TheConstants.{ACCUMULATORS}
use Rattle.machine_names.specs.declared.names.Tty.{Tty}
use Rattle.plain_pages.specs.PlainPages.{PlainPages}
use Rattle.plain_pages.specs.References.{in_file, in_map, page_at, slot_at}
use Rattle.plain_units.specs.Instructions.{instruction}
use Rattle.plain_units.specs.Steps.{Planned, begun, call, done, stopped}
use Rattle.plain_units.specs.Units.{unit_on}
use Rattle.plain_units.specs.declared.registers.Regs.{Regs}
use Rattle.plain_model.specs.Calls.{is_among, no_files, numbered}
use Rattle.plain_model.specs.EachFamily.{Family, bytes, filing, forking, interrupting, mapping, opening, printing, strings, timing}
use Rattle.plain_model.specs.Families.{Parts}
use Rattle.plain_model.specs.FileCalls.{Jobs}
use Rattle.plain_model.specs.Forks.{ForkMap}
use Rattle.event_deeds.specs.Leaves.{last_below}
use Rattle.plain_model.specs.Inferiors.{is_inferior}
use Rattle.plain_model.specs.Inspections.{inspected, inspected_by, inspection_turn, is_interrupted}
use Rattle.plain_model.specs.MapCalls.{keyed}
use Rattle.plain_model.specs.State.{PlainJob}
use Rattle.plain_model.specs.declared.call.End.{End}
use Rattle.plain_model.specs.declared.call.End.TheVariants.{Done}
use Rattle.plain_model.specs.declared.call.ForkChange.{ForkChange}
use Rattle.plain_model.specs.declared.call.ForkChange.TheVariants.{Kill as KillFork}
use Rattle.plain_model.specs.declared.call.MapChange.{MapChange}
use Rattle.plain_model.specs.declared.call.MapChange.TheVariants.{Follow, Map, Narrow, Unmap}
use Rattle.plain_model.specs.declared.fork.Fork.{Fork}
use Rattle.plain_model.specs.declared.interrupt.Inspected.{Inspected}
use Rattle.plain_model.specs.declared.interrupt.Inspected.TheVariants.{Nothing}
use Rattle.script_texts.specs.declared.event.Event.{Event}
use Rattle.script_texts.specs.declared.event.Event.TheVariants.{Examine, Page, Poke, Words}
use Rattle.event_deeds.specs.declared.deed.Deed.{Deed}
use Rattle.event_deeds.specs.declared.deed.Deed.TheVariants.{Begin, End as EndDeed, Kill, Outer, Typed}
use Rattle.event_deeds.specs.Deeds.{Task, deed_of, unit_of}
use Rattle.step_wants.specs.Names.{Housed, a_map, names_of_steps, names_of_turn, names_on_way, none_at_end, page_named}

-- ---- a call

-- the maps of a fork and of all below it
abbrev pub maps_below : ForkMap → ForkName → List Housed
maps_below forks f = map a_map (filter (λ g. same_fork g f || is_inferior forks f g) (map_of.keys forks))

-- what a fork call refers to as it ends: who is killed
abbrev pub names_of_fork_change : ForkMap → ForkChange → List Housed
names_of_fork_change forks (KillFork f) = maps_below forks f
names_of_fork_change forks change = []

-- what a call on maps refers to as it ends: the map in which an entry is set
abbrev pub names_of_map_change : MapChange → List Housed
names_of_map_change (Unmap s) = a_map s.fork ∷ []
names_of_map_change (Follow s other access) = a_map s.fork ∷ []
names_of_map_change (Narrow s access) = a_map s.fork ∷ []
names_of_map_change (Map s name page access) = a_map s.fork ∷ []
names_of_map_change change = []

-- a turn that is done refers to what its change does
abbrev pub names_of_end : {C : Type 0} → (C → List Housed) → End C → List Housed
names_of_end changes (Done change regs out post) = changes change
names_of_end changes other = []

-- the map of a fork, if there is one
abbrev pub map_of_fork : Option Fork → List Housed
map_of_fork None = []
map_of_fork (Some f) = a_map f.name ∷ []

-- those of a job
abbrev pub names_in_job : Jobs → Tty → (PlainJob → List Housed) → List Housed
names_in_job jobs t names = option_map_or names (map_of.get jobs t.0) []

-- pages of files are under the keys of the files' names
module _ {K : Type 0} (key_of : List ℕ → K) where
  -- the page of a file, by which pages are those of files
  abbrev pub names_in_file : (FilePage K → Option PageName) → List ℕ → ℕ → List Housed
  names_in_file filed name page = page_named (filed (keyed key_of name page))

-- a family of calls, as far as references concern it: which numbers are its own, and to what a call refers
pub record Referring {K : Type 0} (file_cmp : K → K → Ordering) : Type 0 where
  pub has : ℕ → Bool
  pub names : Parts file_cmp → ForkName → Regs → ℕ → List Housed

module _ {K : Type 0} {file_cmp : K → K → Ordering} where
  -- the change of another call refers to nothing more than its turn did
  abbrev pub none_more : {C : Type 0} → Parts file_cmp → C → List Housed
  none_more v change = []

  -- the turn of a call of a family, and then its change
  abbrev pub referring : {F A C : Type 0} → (Parts file_cmp → C → List Housed) → Family file_cmp F A C → Referring file_cmp
  referring changes family = record {
    has = is_among family.calls;
    names = λ v who regs number. names_of_turn (family.sight v who) (names_of_end (changes v)) v.pages (numbered family.calls number (family.asked v who regs));
  }

  -- the first of these that has the number
  abbrev pub first_names : List (Referring file_cmp) → Parts file_cmp → ForkName → Regs → ℕ → List Housed
  first_names [] v who regs number = []
  first_names (r ∷ rs) v who regs number = if r.has number then r.names v who regs number else first_names rs v who regs number

  -- the maps and the page at an address of a fork
  abbrev pub names_seen : PlainPages file_cmp → ForkName → ℕ → List Housed
  names_seen p f address = if nat_lt address ACCUMULATORS then [] else names_on_way p (in_map (slot_at f address))

  -- where pages of files are under the keys of the files' names
  module _ (key_of : List ℕ → K) where
    -- all families, in their order
    abbrev pub all_referring : List (Referring file_cmp)
    all_referring =
        referring none_more printing
        ∷ referring (λ v. names_of_fork_change v.tree.forks) forking
        ∷ referring none_more interrupting
        ∷ referring none_more timing
        ∷ referring (λ v. names_of_map_change) (mapping key_of)
        ∷ referring none_more filing
        ∷ referring none_more (opening key_of)
        ∷ referring none_more (bytes key_of)
        ∷ referring none_more (strings key_of)
        ∷ []

    -- ---- a unit

    -- the call of a unit refers to these besides
    abbrev pub names_of_call : Parts file_cmp → Fork → Planned file_cmp ⊥ → List Housed
    names_of_call v f (call number) = first_names all_referring v f.name f.body.regs number
    names_of_call v f (done t e) = []
    names_of_call v f (stopped why) = []

    -- an instruction, and then its call
    abbrev pub names_of_instruction : Parts file_cmp → Fork → List Housed
    names_of_instruction v f = names_of_steps f.name (instruction f.body.regs) (begun v.pages f.body.regs.ac) ++ names_of_call v f (unit_on f.name v.pages f.body.regs)

    -- an inspection that takes no channel goes on to the instruction
    abbrev pub names_behind : Parts file_cmp → Fork → Inspected → List Housed
    names_behind v f Nothing = names_of_instruction v f
    names_behind v f other = []

    -- a fork that looks at its channels first
    abbrev pub names_of_inspection : Parts file_cmp → Fork → List Housed
    names_of_inspection v f = names_of_turn no_files none_at_end v.pages (inspection_turn f) ++ names_behind v f (inspected_by (inspected f v.pages).end)

    -- the unit of a fork that lives
    abbrev pub names_of_fork : Parts file_cmp → Fork → List Housed
    names_of_fork v f = if is_interrupted f.body.psi then names_of_inspection v f else names_of_instruction v f

    -- A UNIT refers to these
    abbrev pub names_of_unit : Parts file_cmp → ForkName → List Housed
    names_of_unit v f = option_map_or (names_of_fork v) (map_of.get v.tree.forks f) []

    -- ---- a deed

    -- an event that is one deed
    abbrev pub names_of_event : Parts file_cmp → Event → List Housed
    names_of_event v (Poke t address word) = names_in_job v.jobs t (λ j. names_seen v.pages j.top address)
    names_of_event v (Examine t serial address) = names_seen v.pages (record { tty = t; serial = serial }) address
    names_of_event v (Words name page offset row) = names_in_file key_of (λ at. page_at v.pages (in_file at)) name page
    names_of_event v (Page name page) = names_in_file key_of (λ at. page_at v.pages (in_file at)) name page
    names_of_event v e = []

    -- A DEED refers to these
    abbrev pub names_of_deed : Parts file_cmp → Deed → List Housed
    names_of_deed v (Outer e) = names_of_event v e
    names_of_deed v (Typed t c) = []
    names_of_deed v (Begin t name) = names_in_file key_of (λ at. page_at v.pages (in_file at)) name 0
    names_of_deed v (Kill t purpose) = names_in_job v.jobs t (λ j. map_of_fork (last_below v.tree.forks j.top))
    names_of_deed v (EndDeed t purpose) = names_in_job v.jobs t (λ j. a_map j.top ∷ [])

    -- to which pages and maps a task refers
    abbrev pub names_of : Parts file_cmp → Task → List Housed
    names_of v (unit_of f) = names_of_unit v f
    names_of v (deed_of d) = names_of_deed v d

-- ---- what the tables alone tell of a deed: of a look or a write through the map of a fork nothing

module _ {K : Type 0} (key_of : List ℕ → K) where
  abbrev pub names_told_of_event : (FilePage K → Option PageName) → Event → List Housed
  names_told_of_event filed (Words name page offset row) = names_in_file key_of filed name page
  names_told_of_event filed (Page name page) = names_in_file key_of filed name page
  names_told_of_event filed e = []

  -- WHAT THE TABLES TELL A DEED REFERS TO, by which pages are those of files, the forks and the jobs
  abbrev pub names_told : (FilePage K → Option PageName) → ForkMap → Jobs → Deed → List Housed
  names_told filed forks jobs (Outer e) = names_told_of_event filed e
  names_told filed forks jobs (Typed t c) = []
  names_told filed forks jobs (Begin t name) = names_in_file key_of filed name 0
  names_told filed forks jobs (Kill t purpose) = names_in_job jobs t (λ j. map_of_fork (last_below forks j.top))
  names_told filed forks jobs (EndDeed t purpose) = names_in_job jobs t (λ j. a_map j.top ∷ [])
