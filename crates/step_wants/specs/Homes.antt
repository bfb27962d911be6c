-- Which homes a task wants, each once.
use Rattle.std.specs.Prelude.{◌≡◌, ◌⊎◌, ℕ, List, Option, Some, false, nat_eq, nat_lt}
use Rattle.std.specs.Set.{unique_keys}
use Rattle.std.specs.declared.cmp.Ordering.{Ordering}
use Rattle.std.specs.FinMap as map_of
use Rattle.machine_names.specs.Orders.{FilePage}
use Rattle.machine_names.specs.declared.names.ForkName.{ForkName}
use Rattle.machine_names.specs.declared.names.PageName.{PageName}
use Rattle.machine_names.specs.declared.names.TheConstants.{ACCUMULATORS}
use Rattle.machine_names.specs.declared.names.Tty.{Tty}
use Rattle.page_contracts.specs.Pages.{Scene, map_away, page_away}
use Rattle.plain_pages.specs.PlainPages.{PlainPages}
use Rattle.plain_pages.specs.References.{Spot, in_file, in_map, slot_at}
use Rattle.plain_model.specs.Families.{Parts}
use Rattle.plain_model.specs.FileCalls.{Jobs}
use Rattle.plain_model.specs.Forks.{ForkMap}
use Rattle.plain_model.specs.MapCalls.{keyed}
use Rattle.plain_model.specs.State.{PlainJob}
use Rattle.plain_model.specs.declared.fork.Fork.{Fork}
use Rattle.script_texts.specs.declared.event.Event.{Event}
use Rattle.script_texts.specs.declared.event.Event.TheVariants.{Examine, Page, Poke, Words}
use Rattle.event_deeds.specs.Deeds.{Task}
use Rattle.event_deeds.specs.Leaves.{last_below}
use Rattle.event_deeds.specs.declared.deed.Deed.{Deed}
use Rattle.event_deeds.specs.declared.deed.Deed.TheVariants.{Begin, End, Kill, Outer, Typed}
use Rattle.step_wants.specs.Names.{homes_for}
use Rattle.step_wants.specs.Wants.{names_of, names_told}

-- THE HOMES THAT A TASK WANTS, each once: those of the pages and maps to which it refers, where pages of files are under the keys of the files' names
abbrev pub wants : {K : Type 0} {file_cmp : K → K → Ordering} → (ForkName → Option ℕ) → (PageName → Option ℕ) → (List ℕ → K) → Parts file_cmp → Task → List ℕ
wants map_home page_home key_of v x = unique_keys nat_eq (homes_for map_home page_home (names_of key_of v x))

-- the homes that the tables alone tell of a deed, each once: by which pages are those of files, the forks and the jobs
abbrev pub told : {K : Type 0} → (ForkName → Option ℕ) → (PageName → Option ℕ) → (List ℕ → K) → (FilePage K → Option PageName) → ForkMap → Jobs → Deed → List ℕ
told map_home page_home key_of filed forks jobs d = unique_keys nat_eq (homes_for map_home page_home (names_told key_of filed forks jobs d))

-- ---- what a deed needs first

-- a home is that of a map on the way to a spot, or of its page, which is in no frame
abbrev pub IsAwayAt : {K : Type 0} {file_cmp : K → K → Ordering} → PlainPages file_cmp → Scene → Spot K → ℕ → Type 0
IsAwayAt p scene at home = (map_away p scene at ≡ Some home) ⊎ (page_away p scene at ≡ Some home)

-- the job at a terminal is there, and of it this holds
abbrev pub OfJob : Jobs → Tty → (PlainJob → Type 0) → Type 0
OfJob jobs t holds = (j : PlainJob) × (map_of.get jobs t.0 ≡ Some j) × holds j

module _ {K : Type 0} {file_cmp : K → K → Ordering} (key_of : List ℕ → K) (scene : Scene) (v : Parts file_cmp) where
  -- a look or a write at an address of a fork, which no accumulator has
  abbrev pub SeeingNeeds : ForkName → ℕ → ℕ → Type 0
  SeeingNeeds f address home = (nat_lt address ACCUMULATORS ≡ false) × IsAwayAt v.pages scene (in_map (slot_at f address)) home

  abbrev pub EventNeeds : Event → ℕ → Type 0
  EventNeeds (Poke t address word) home = OfJob v.jobs t (λ j. SeeingNeeds j.top address home)
  EventNeeds (Examine t serial address) home = SeeingNeeds (record { tty = t; serial = serial }) address home
  EventNeeds (Words name page offset row) home = page_away v.pages scene (in_file (keyed key_of name page)) ≡ Some home
  EventNeeds (Page name page) home = page_away v.pages scene (in_file (keyed key_of name page)) ≡ Some home
  EventNeeds e home = ⊥

  -- WHAT A DEED NEEDS FIRST of pages and maps of which some are in no frame: what POKE and EXAMINE come through, the page of a file, or the map of a fork that is killed
  abbrev pub DeedNeeds : Deed → ℕ → Type 0
  DeedNeeds (Outer e) home = EventNeeds e home
  DeedNeeds (Typed t c) home = ⊥
  DeedNeeds (Begin t name) home = page_away v.pages scene (in_file (keyed key_of name 0)) ≡ Some home
  DeedNeeds (Kill t purpose) home = OfJob v.jobs t (λ j. (k : Fork) × (last_below v.tree.forks j.top ≡ Some k) × (scene.map_away k.name ≡ Some home))
  DeedNeeds (End t purpose) home = OfJob v.jobs t (λ j. scene.map_away j.top ≡ Some home)
