-- What a turn was granted by the last that it asked: the page that it may read, or is to be made.
use Rattle.std.specs.Prelude.{◌≡◌, ◌⊎◌, ℕ, true, Result, Ok, Err}
use Rattle.machine_names.specs.declared.names.Tty.{Tty}
use Rattle.machine_names.specs.declared.names.Slot.{Slot}
use Rattle.machine_names.specs.declared.names.Place.TheVariants as place
use Rattle.machine_names.specs.declared.names.Kind.TheVariants as kind
use Rattle.machine_names.specs.Bounds.{IsFilePage}
use Rattle.machine_names.specs.Orders.{file_page}
use Rattle.page_contracts.specs.declared.answers.Touch.{Touch}
use Rattle.page_contracts.specs.declared.answers.Touch.TheVariants.{Ready, Absent, NeedFrame, Denied, Full}
use Rattle.page_contracts.specs.declared.answers.Need.{Need}
use Rattle.page_contracts.specs.declared.answers.Need.TheVariants as need
use Rattle.page_contracts.specs.Pages.{PagesMeaning, IsPlace, can_settle}
use Rattle.plain_pages.specs.PlainPages.{NumberedPages}
use Rattle.plain_pages.specs.References.{in_file, settled}
use Rattle.plain_model.specs.declared.call.End.{End}
use Rattle.plain_model.specs.declared.call.End.TheVariants.{Refused}
use Rattle.plain_model.specs.declared.call.TheConstants.{NO_PAGE}
use Rattle.call_turns.specs.declared.turn.Grant.{Grant}
use Rattle.call_turns.specs.declared.turn.Grant.TheVariants.{Nothing, Read, Fill}
use Rattle.call_turns.specs.declared.turn.Outcome.{Outcome}
use Rattle.call_turns.specs.declared.turn.WhenFull.{WhenFull}
use Rattle.call_turns.specs.Turns.{full_end}

-- the pages of an owner with the page that was granted, which is made where it isn't there
abbrev pub pages_granted : NumberedPages → Tty → Grant → NumberedPages
pages_granted p owner (Fill f page) = settled p (in_file (file_page f.0 page)) kind.Write owner
pages_granted p owner g = p

-- what was granted can be had at once: a touch says so
abbrev pub IsGranted : {P : Type 0} → PagesMeaning P → P → Grant → Type 0
IsGranted means p Nothing = Unit {0}
IsGranted means p (Read s) = IsPlace (means.lives p) (place.Fork s) × (means.touched p (place.Fork s) kind.Read ≡ Ready)
IsGranted means p (Fill f page) = IsFilePage f page × (can_settle (means.touched p (place.File f page) kind.Write) ≡ true)

-- a turn is refused, with the code of an error
abbrev pub refused : {C : Type 0} → ℕ → Outcome C
refused code = record { grant = Nothing; end = Refused code }

-- a turn ends so behind a grant, or is refused, or ends as it does where the drum is full
abbrev pub GrantsOr : {C : Type 0} → Grant → End C → WhenFull → Outcome C → Type 0
GrantsOr g e when o = (o ≡ record { grant = g; end = e }) ⊎ (((code : ℕ) × (o ≡ refused code)) ⊎ (o ≡ record { grant = Nothing; end = full_end when }))

-- how a turn comes out by what a touch answers that is to read a page of a slot
abbrev pub read_by : {C : Type 0} → Touch → Slot → End C → Result (Outcome C) Need
read_by Ready s e = Ok (record { grant = Read s; end = e })
read_by (Absent home) s e = Err (need.Page home)
read_by NeedFrame s e = Err need.Frame
read_by t s e = Ok (refused NO_PAGE)

-- and by what one answers that is to write a page of a file, granted so
abbrev pub filled_by : {C : Type 0} → Touch → Grant → End C → WhenFull → Result (Outcome C) Need
filled_by (Absent home) g e when = Err (need.Page home)
filled_by NeedFrame g e when = Err need.Frame
filled_by (Denied k) g e when = Ok (refused NO_PAGE)
filled_by Full g e when = Ok (record { grant = Nothing; end = full_end when })
filled_by t g e when = Ok (record { grant = g; end = e })
