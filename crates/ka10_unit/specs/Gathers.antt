-- Pages as a unit of a fork finds them, and the references that it gathers.
use Rattle.std.specs.Prelude.{◌≡◌, ℕ, ◌<◌, max, length, Option, None, Some, true}
use Rattle.std.specs.Coded.{Unit-prop, le_prop}
use Rattle.std.specs.List.{All}
use Rattle.plain_units.specs.declared.channel.TheConstants.{DRUM_FULL}
use Rattle.page_contracts.specs.declared.answers.Need.{Need}
use Rattle.machine_names.specs.declared.names.ForkName.{ForkName}
use Rattle.machine_names.specs.declared.names.Kind.{Kind}
use Rattle.machine_names.specs.declared.names.Slot.{Slot}
use Rattle.machine_names.specs.declared.names.TheConstants.{SPACE_PAGES, TERMINALS}
use Rattle.plain_units.specs.declared.unit.Put.{Put}
use Rattle.page_contracts.specs.DrumWords.{DrumWords}
use Rattle.plain_pages.specs.PlainPages.{NumberedPages}
use Rattle.plain_units.specs.Steps.{Asked, denied_channel, goes, need, stops, trap}
use Rattle.page_contracts.specs.Pages.{PagesMeaning, Scene}
use Rattle.page_gather.specs.declared.reference.PageReference.{PageReference}
use Rattle.page_gather.specs.declared.reference.Added.{Added}
use Rattle.page_gather.specs.declared.reference.Added.TheVariants as added
use Rattle.page_gather.specs.Gathering.{Gathering, answered, left_by, most_framed, referred_to}

-- pages in which a terminal's fork lives
pub record Serves {P : Type 0} (means : PagesMeaning P) (pages : P) (f : ForkName) : Type 0 where
  pub lives : means.lives pages f ≡ true
  pub terminal : f.tty.0 < TERMINALS

-- plain pages, and what of them is in frames
pub record Framed : Type 0 where
  pub pages : NumberedPages
  pub scene : Scene

-- those that pages stand for over a drum
abbrev pub framed : {P : Type 0} → PagesMeaning P → P → DrumWords → Framed
framed means s d = record { pages = means.plain s d; scene = means.scene s }

-- the references of a gather are to pages of a fork's space, and what they make is its terminal's
pub record IsOf (f : ForkName) (g : Gathering) : Type 0 where
  pub owner : g.owner ≡ f.tty
  pub references : All (λ r. (r.slot.fork ≡ f) × (r.slot.page < SPACE_PAGES)) g.references

-- how many pages are referred to, or made, whichever is more
abbrev pub weight : Gathering → ℕ
weight g = max g.homes (length g.references)

-- the word of a kept put is at an address
abbrev pub IsPutBelow : ℕ → Option Put → Type 0
IsPutBelow limit None = Unit {0}
IsPutBelow limit (Some put) = put.at < limit

pub put_below_prop : (limit : ℕ) (kept : Option Put) → IsProp (IsPutBelow limit kept)
put_below_prop limit None = Unit-prop
put_below_prop limit (Some put) = le_prop

-- a unit goes on with these pages, or stops, as a reference that is added is answered
abbrev pub asked_by : Added → NumberedPages → Asked Need NumberedPages
asked_by added.Went q = goes q
asked_by (added.Need n) q = stops (need n)
asked_by (added.Denied kind) q = stops (trap (denied_channel kind))
asked_by added.Full q = stops (trap DRUM_FULL)

-- A REFERENCE OF A UNIT of a fork, on the pages that those before it leave. It needs something first exactly where a map on the way or its
-- page is in no frame, or where the pages made so far find no frame; else it is that of the plain machine.
unfoldable pub asks : ForkName → Framed → NumberedPages → Slot → Kind → Asked Need NumberedPages
asks f p q s kind =
    let r : PageReference = record { slot = s; kind = kind } in
    asked_by (answered q p.scene (most_framed p.pages p.scene) f.tty r) (left_by q (referred_to q f.tty r))
