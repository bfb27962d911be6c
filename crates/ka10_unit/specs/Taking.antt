-- How far a unit has come, and what a part of it that was done says of the whole.
use Rattle.std.specs.Prelude.{◌≡◌, ◌⊎◌, ℕ, ◌+◌, ◌-◌, ◌*◌, ◌%◌, ◌≤◌, ◌==◌, ◌&&◌, Bool, true, false, List, [], length, Option, None, Some, Result, Ok, Err, ⊤, is_some}
use Rattle.std.specs.Option.{option_map_or}
use Rattle.std.specs.Ordering.{nat_cmp}
use Rattle.outside.specs.declared.TheConstants.{PAGE_WORDS}
use Rattle.machine_names.specs.declared.names.ForkName.{ForkName}
use Rattle.machine_names.specs.declared.names.PageName.{PageName}
use Rattle.machine_names.specs.declared.names.Kind.{Kind}
use Rattle.machine_names.specs.declared.names.Kind.TheVariants.{Read, Write}
use Rattle.plain_units.specs.declared.unit.TheConstants.{MOST_REFERENCES}
use Rattle.plain_units.specs.declared.unit.Put.{Put}
use Rattle.plain_pages.specs.PlainPages.{NumberedPages}
use Rattle.plain_pages.specs.References.{in_map, makings, page_at, slot_at}
use Rattle.plain_pages.specs.Room.{same_page}
use Rattle.page_homes.specs.declared.homes.Home.{Home}
use Rattle.page_contracts.specs.declared.answers.Need.{Need}
use Rattle.page_contracts.specs.declared.answers.Need.TheVariants.{Page}
use Rattle.page_contracts.specs.DrumWords.{DrumWords}
use Rattle.page_contracts.specs.Pages.{PagesMeaning, Scene}
use Rattle.page_contracts.specs.Stores.{StoreMeaning, IsNeeded}
use Rattle.plain_units.specs.Steps.{Steps, Stop as Stopped, widens, trap, need, Asked, goes, stops, Progress, Planned, stopped, done, call, is_accumulator, asked_at, run}
use Rattle.ka10_unit.specs.declared.taken.Taken.{Taken}
use Rattle.ka10_unit.specs.declared.taken.Stop.{Stop}
use Rattle.ka10_unit.specs.declared.taken.Stop.TheVariants as stop
use Rattle.page_gather.specs.Gathering.{Gathering, Gathers, IsNear, left_of, most_made}
use Rattle.ka10_unit.specs.Gathers.{Framed, asks, framed, weight}

-- a unit as a plan, which may need something first
abbrev pub Plan : Type 0
Plan = Planned nat_cmp Need

-- steps of a fork over pages of which some are in no frame
abbrev pub run_over : ForkName → Framed → Steps → Progress nat_cmp → Plan
run_over f p = run (asks f p) f

-- why a unit stops, as its steps do
abbrev pub stop_of : Stop → Stopped Need
stop_of (stop.Trap channel) = trap channel
stop_of (stop.Need n) = need n

-- a stop that needs nothing first
abbrev pub IsTrap : Stop → Type 0
IsTrap (stop.Trap channel) = Unit {0}
IsTrap (stop.Need n) = ⊥

-- how many pages a unit makes at most whose references are all of one kind: fewer frames than so many are free where it needs one
abbrev pub frames_for : Kind → ℕ
frames_for kind = most_made kind * MOST_REFERENCES

-- so of a unit, whatever its references are, and of an address, whose words are only read
abbrev pub most_frames : ℕ
most_frames = frames_for Write

abbrev pub read_frames : ℕ
read_frames = frames_for Read

-- how many pages come in all where each reference that is left to a unit is of one kind
abbrev pub most_pages : Kind → Taken → ℕ
most_pages kind t = weight t.gather + most_made kind * (MOST_REFERENCES - length t.refs.items)

-- what a stop needs first is so, over whatever drum: a map or a page is in no frame, or fewer frames are free than so many
abbrev pub StopNeeds : {P : Type 0} → StoreMeaning P → ℕ → P → Stop → Type 0
StopNeeds store most p (stop.Trap channel) = Unit {0}
StopNeeds store most p (stop.Need n) = IsNeeded store most p n

-- what a unit that stops needs first is so, and it needs nothing over pages in memory
abbrev pub StopsFor : {P : Type 0} → PagesMeaning P → P → Stop → Type 0
StopsFor means p stop = (means.flat ≡ true → IsTrap stop) × StopNeeds means.store most_frames p stop

-- the pages that the references so far leave
abbrev pub pages_so_far : Framed → Taken → NumberedPages
pages_so_far p t = left_of p.pages t.gather

-- those pages, and what of them is in frames
abbrev pub so_far : Framed → Taken → Framed
so_far p t = record p { pages = pages_so_far p t }

-- how far a unit has come: with the pages, as its fork has them, and its accumulators
abbrev pub progress : Framed → List ℕ → Taken → Progress nat_cmp
progress p ac t = record { pages = pages_so_far p t; ac = ac; refs = t.refs.items; kept = t.kept }

-- an address is that of a page that is in a frame, and a write there makes nothing more
pub record IsOpenAt (f : ForkName) (p : Framed) (a : ℕ) : Type 0 where
  pub makes : makings p.pages (in_map (slot_at f a)) Write ≡ Some []
  pub near : IsNear p.pages p.scene (slot_at f a)

-- where a write made nothing more, it makes nothing more still
abbrev pub StaysOpen : ForkName → Framed → Framed → Type 0
StaysOpen f p q = (a : ℕ) → IsOpenAt f p a → IsOpenAt f q a

-- a word can be stored, if there is one
abbrev pub CanPut : ForkName → Framed → Option Put → Type 0
CanPut f p None = Unit {0}
CanPut f p (Some put) = IsOpenAt f p put.at

-- what a unit of a fork has taken: each reference goes through, and the word that is kept can be stored
pub record Stands (f : ForkName) (p : Framed) (t : Taken) : Type 0 where
  pub fork : t.fork ≡ f
  pub gathers : Gathers p.pages p.scene t.gather
  pub kept : CanPut f (so_far p t) t.kept

-- the references so far come to so many pages fewer than two each
abbrev pub HasSpare : ℕ → Taken → Type 0
HasSpare n t = weight t.gather + n ≤ 2 * length t.refs.items

-- those behind come to so many pages fewer than two each
abbrev pub Spares : ℕ → Taken → Taken → Type 0
Spares n old new = weight new.gather + n + 2 * length old.refs.items ≤ weight old.gather + 2 * length new.refs.items

-- by how many a reference makes fewer than two
abbrev pub spared : Kind → ℕ
spared kind = 2 - most_made kind

-- what a page that was asked for comes to
abbrev pub asked_as : Result ⊤ Stop → NumberedPages → Asked Need NumberedPages
asked_as (Ok x) q = goes q
asked_as (Err e) q = stops (stop_of e)

-- the page of an address is there, in a frame
pub record IsHere (f : ForkName) (p : Framed) (a : ℕ) : Type 0 where
  pub page : is_some (page_at p.pages (in_map (slot_at f a))) ≡ true
  pub near : IsNear p.pages p.scene (slot_at f a)

-- an address that isn't an accumulator has a page
abbrev pub HasPage : ForkName → Framed → ℕ → Type 0
HasPage f p a = is_accumulator a ≡ false → IsHere f p a

-- the page of an address was asked for, on the pages that the references before leave
pub record AsksAt (f : ForkName) (p : Framed) (old new : Gathering) (at : ℕ) (kind : Kind) (result : Result ⊤ Stop) : Type 0 where
  pub gathers : Gathers p.pages p.scene new
  pub is : asked_at (asks f p) f (left_of p.pages old) at kind ≡ asked_as result (left_of p.pages new)
  pub page : (x : ⊤) → result ≡ Ok x → HasPage f (record p { pages = left_of p.pages new }) at
  pub open_at : (x : ⊤) → result ≡ Ok x → kind ≡ Write → is_accumulator at ≡ false → IsOpenAt f (record p { pages = left_of p.pages new }) at
  pub still : StaysOpen f (record p { pages = left_of p.pages old }) (record p { pages = left_of p.pages new })

-- a unit goes on with what a part of it gives, or stops
abbrev pub went_on : {A : Type 0} → Result A Stop → (A → Plan) → Plan
went_on (Ok x) next = next x
went_on (Err e) next = stopped (stop_of e)

-- A part of a unit was done: whatever comes behind it, the unit stops as this part did, or goes on from what it gave.
pub record Follows {A : Type 0} (f : ForkName) (p : Framed) (ac : List ℕ) (old new : Taken) (part : (A → Steps) → Steps) (result : Result A Stop) : Type 0 where
  pub stands : Stands f p new
  pub runs : (next : A → Steps) → run_over f p (part next) (progress p ac old) ≡ went_on result (λ x. run_over f p (next x) (progress p ac new))

-- the same over pages, and whatever drum
abbrev pub Does : {P A : Type 0} → PagesMeaning P → P → List ℕ → Taken → Taken → ((A → Steps) → Steps) → Result A Stop → Type 0
Does means p ac old new part result = (d : DrumWords) (f : ForkName) → means.fits p d → Stands f (framed means p d) old → Follows f (framed means p d) ac old new part result

-- what comes behind a part that gives nothing
abbrev pub widened_by : ℕ → (⊤ → Steps) → Steps
widened_by at next = widens at (next tt)

-- a write at an address makes nothing more, once a reference to write there went through
abbrev pub CanWrite : {A : Type 0} → ForkName → Framed → Taken → ℕ → Result A Stop → Type 0
CanWrite f p t at (Ok x) = is_accumulator at ≡ false → IsOpenAt f (so_far p t) at
CanWrite f p t at (Err e) = Unit {0}

-- whether a word that was stored at an address stands at another, of this page
abbrev pub stands_at : ForkName → NumberedPages → ℕ → ℕ → PageName → Bool
stands_at f q stored a n = option_map_or (same_page n) (page_at q (in_map (slot_at f stored))) false && (stored % PAGE_WORDS == a % PAGE_WORDS)

-- a plan that needs nothing first is that of the plain machine
abbrev pub IsPlain : Plan → Planned nat_cmp ⊥ → Type 0
IsPlain (done t e) x = x ≡ done t e
IsPlain (stopped (trap channel)) x = x ≡ stopped (trap channel)
IsPlain (stopped (need n)) x = Unit {0}
IsPlain (call number) x = x ≡ call number

-- a map or a page stands at a home, in no frame
abbrev pub IsAway : Scene → ℕ → Type 0
IsAway scene home = ((f : ForkName) × (scene.map_away f ≡ Some home)) ⊎ ((n : PageName) × (scene.page_away n ≡ Some home))

-- steps that need a page first: at its home is a map or a page that is in no frame
abbrev pub NeedsAway : Scene → Plan → Type 0
NeedsAway scene plan = (home : Home) → plan ≡ stopped (need (Page home)) → IsAway scene home.0
