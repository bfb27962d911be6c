-- Which events of the console are refused, and why.
use Rattle.std.specs.Prelude.{◌≡◌, ℕ, List, [], ◌∷◌, Bool, true, false, not, ◌&&◌, nat_lt, Option, None, Some, is_none}
use Rattle.std.specs.Option.{option_map_or}
use Rattle.std.specs.FinMap as map
use Rattle.machine_names.specs.declared.names.Kind.TheVariants.{Write}
use Rattle.machine_names.specs.declared.names.TheConstants.{ACCUMULATORS, LAST_SERIAL, MOST_FILES}
use Rattle.machine_names.specs.declared.names.Tty.{Tty}
use Rattle.machine_names.specs.Orders.{name_cmp}
use Rattle.script_texts.specs.declared.event.Event.{Event}
use Rattle.script_texts.specs.declared.event.Event.TheVariants.{Login, TypeIn, File, Words, Poke, Start, Examine, Forks, Page}
use Rattle.script_texts.specs.declared.event.Item.{Item}
use Rattle.script_texts.specs.declared.event.Item.TheVariants.{Refusal}
use Rattle.script_texts.specs.declared.event.Refusal.{Refusal as Cause}
use Rattle.script_texts.specs.declared.event.Refusal.TheVariants.{Busy, NoJob, SerialsOut, Full, Denied, NoFork, NoPage, Exists, FilesFull, NoFile, FileFull, NoFilePage}
use Rattle.plain_pages.specs.declared.map.NewMap.TheVariants.{Empty as EmptyMap}
use Rattle.plain_pages.specs.Maps.{entry_at, may}
use Rattle.plain_pages.specs.NewMaps.{with_map}
use Rattle.plain_pages.specs.References.{Referred, full, in_map, page_at, reference, slot_at}
use Rattle.plain_pages.specs.Room.{HasRoom}
use Rattle.plain_model.specs.declared.fork.Fork.{Fork}
use Rattle.plain_model.specs.FileEvents.{console, page_named}
use Rattle.plain_model.specs.State.{PlainJob, PlainState}
use Rattle.plain_model.specs.Trees.{next_name, next_serial, tree_of}
use Rattle.plain_model.specs.Unit.{Effect}
use Rattle.plain_refusals.specs.Causes.{Asking, first_there}

-- whether a terminal has a job, and whether a file has a name
abbrev pub has_job : PlainState → Tty → Bool
has_job s t = map.contains_key s.jobs t.0

abbrev pub has_file : PlainState → List ℕ → Bool
has_file s name = map.contains_key s.files name

-- whether a reference finds no room for a page that it makes
abbrev pub finds_no_room : Referred name_cmp → Bool
finds_no_room full = true
finds_no_room other = false

-- the causes of a terminal's job, where it has one
abbrev pub of_job : PlainState → Tty → (PlainJob → Asking Cause) → Asking Cause
of_job s t causes = (NoJob t, not (has_job s t)) ∷ option_map_or causes (map.get s.jobs t.0) []

-- LOGIN: the terminal has a job, its serials are used up, there is no room for one fork more
abbrev pub login_causes : PlainState → Tty → Asking Cause
login_causes s t =
    (Busy t, has_job s t)
    ∷ (SerialsOut t, nat_lt LAST_SERIAL (next_serial (tree_of s) t))
    ∷ (Full t, not (HasRoom (with_map s.pages (next_name (tree_of s) t) EmptyMap) t))
    ∷ []

-- POKE, but for the accumulators: access forbids the write, there is no room for a page that it makes
abbrev pub poke_causes : PlainState → Tty → ℕ → PlainJob → Asking Cause
poke_causes s t address j = let slot = slot_at j.top address in let in_page = not (nat_lt address ACCUMULATORS) in
    (Denied t, in_page && not (may (entry_at s.pages.maps) slot Write))
    ∷ (Full t, in_page && finds_no_room (reference s.pages (in_map slot) Write t))
    ∷ []

-- a fork's word is looked at, but for the accumulators: no page is there
abbrev pub word_causes : PlainState → Tty → ℕ → Fork → Asking Cause
word_causes s t address f = (NoPage t, not (nat_lt address ACCUMULATORS) && is_none (page_at s.pages (in_map (slot_at f.name address)))) ∷ []

-- EXAMINE: the job has no fork of the serial, no page is there
abbrev pub examine_causes : PlainState → Tty → ℕ → ℕ → Asking Cause
examine_causes s t serial address = let f : Option Fork = map.get s.forks (record { tty = t; serial = serial }) in
    (NoFork t, is_none f) ∷ option_map_or (word_causes s t address) f []

-- WHY AN EVENT IS REFUSED: the causes of each, in their order. TICK, TRACE and what is no step of the plain machine have none.
unfoldable pub causes_of : PlainState → Event → Asking Cause
causes_of s (Login t user) = login_causes s t
causes_of s (TypeIn t text) = of_job s t (λ j. [])
causes_of s (File name) = (Exists name, has_file s name) ∷ (FilesFull name, not (nat_lt (map.len s.files) MOST_FILES)) ∷ []
causes_of s (Words name page offset row) = (NoFile name, not (has_file s name)) ∷ (FileFull name, finds_no_room (reference s.pages (page_named name page) Write console)) ∷ []
causes_of s (Poke t address word) = of_job s t (poke_causes s t address)
causes_of s (Start t address) = of_job s t (λ j. [])
causes_of s (Examine t serial address) = of_job s t (λ j. examine_causes s t serial address)
causes_of s (Forks t) = of_job s t (λ j. [])
causes_of s (Page name page) = (NoFile name, not (has_file s name)) ∷ (NoFilePage name, is_none (page_at s.pages (page_named name page))) ∷ []
causes_of s e = []

-- an event is refused for this cause: it is the first that is there; or for none
abbrev pub IsRefused : PlainState → Event → Cause → Type 0
IsRefused s e cause = first_there (causes_of s e) ≡ Some cause

abbrev pub IsGranted : PlainState → Event → Type 0
IsGranted s e = first_there (causes_of s e) ≡ None

-- the state is as it was, and one item tells the cause
abbrev pub ChangesNothing : PlainState → Cause → Effect → Type 0
ChangesNothing s cause e = e ≡ record { state = s; items = Refusal cause ∷ [] }

-- an item tells of no refusal
abbrev pub tells_none : Item → Type 0
tells_none (Refusal cause) = ⊥
tells_none item = Unit {0}
