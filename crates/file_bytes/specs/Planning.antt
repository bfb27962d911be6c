-- How a call on bytes is to end, before anything changes.
use Rattle.std.specs.Prelude.{◌≡◌, ℕ, ◌<◌, true, IsSome, Result, Ok, Err}
use Rattle.std.specs.Option.{IsSomeAnd, option_map_or}
use Rattle.std.specs.FinMap as map
use Rattle.machine_names.specs.declared.names.Tty.{Tty}
use Rattle.machine_names.specs.declared.names.Kind.TheVariants.{Write}
use Rattle.machine_names.specs.declared.names.Place.{Place}
use Rattle.machine_names.specs.declared.names.Place.TheVariants.{File}
use Rattle.machine_names.specs.Orders.{FilePage, file_page}
use Rattle.page_contracts.specs.declared.answers.Need.{Need}
use Rattle.page_contracts.specs.DrumWords.{DrumWords}
use Rattle.page_contracts.specs.Pages.{PagesMeaning, Scene, can_settle}
use Rattle.plain_files.specs.Bytes.{most_bytes, page_of_byte}
use Rattle.plain_files.specs.Jobs.{jfns_of}
use Rattle.plain_files.specs.declared.jfn.Jfn.{Jfn}
use Rattle.plain_pages.specs.PlainPages.{NumberedPages}
use Rattle.plain_pages.specs.References.{in_file, settled}
use Rattle.plain_model.specs.declared.call.ByteChange.{ByteChange}
use Rattle.plain_model.specs.declared.call.ByteChange.TheVariants.{Nothing, Take, Move, Put}
use Rattle.plain_model.specs.declared.call.End.{End}
use Rattle.plain_model.specs.declared.call.End.TheVariants.{Done}
use Rattle.plain_model.specs.ByteCalls.{ByteTurn}
use Rattle.plain_model.specs.Calls.{turn_on}
use Rattle.file_tables.specs.declared.tables.FileTables.{FileTables}
use Rattle.file_tables.specs.Tables.{CanMove}
use Rattle.file_tables.specs.Keys.{seen_in}
use Rattle.file_bytes.specs.Turning.{ByteNeeds}

-- the page of the byte at which a JFN stands
abbrev pub page_for : Jfn → FilePage ℕ
page_for jfn = file_page jfn.file.0 (page_of_byte jfn.size jfn.at)

abbrev pub place_for : Jfn → Place
place_for jfn = File jfn.file (page_of_byte jfn.size jfn.at)

-- a JFN of the job at a terminal is open, its file has room for the byte at which it stands, and the page of that may be written or made
abbrev pub CanPut : {P : Type 0} → PagesMeaning P → P → FileTables → Tty → ℕ → Type 0
CanPut means pages tables t n = IsSomeAnd (map.get (jfns_of tables.jobs t.0) n)
    (λ jfn. IsSome jfn.mode × (jfn.at < most_bytes jfn.size) × (can_settle (means.touched pages (place_for jfn) Write) ≡ true))

-- a change of the job at a terminal that puts no byte into a file, and can be made
abbrev pub CanTurn : FileTables → Tty → ByteChange → Type 0
CanTurn tables t Nothing = Unit {0}
CanTurn tables t (Take u) = u ≡ t
CanTurn tables t (Move u n at) = (u ≡ t) × CanMove tables t.0 n at
CanTurn tables t (Put u n byte) = ⊥

-- any change of it that can be made
abbrev pub CanChange : {P : Type 0} → PagesMeaning P → P → FileTables → Tty → ByteChange → Type 0
CanChange means pages tables t (Put u n byte) = (u ≡ t) × CanPut means pages tables t n
CanChange means pages tables t what = CanTurn tables t what

-- the pages with the page that a change writes, which is made for an owner where it isn't there
abbrev pub pages_for : FileTables → Tty → NumberedPages → ByteChange → NumberedPages
pages_for tables owner p (Put t n byte) = option_map_or (λ jfn. settled p (in_file (page_for jfn)) Write owner) (map.get (jfns_of tables.jobs t.0) n) p
pages_for tables owner p what = p

-- and with that of an end
abbrev pub made_for : FileTables → Tty → NumberedPages → End ByteChange → NumberedPages
made_for tables owner p (Done what regs out post) = pages_for tables owner p what
made_for tables owner p e = p

-- a turn is to end so over the plain pages, or needs this first
abbrev pub IsPlan : FileTables → Scene → Tty → NumberedPages → ByteTurn → Result (End ByteChange) Need → Type 0
IsPlan tables scene owner p t (Ok e) = turn_on (seen_in tables) p t ≡ record { end = e; pages = made_for tables owner p e }
IsPlan tables scene owner p t (Err n) = ByteNeeds tables scene p t n

-- the same over each drum that fits
abbrev pub Plans : {P : Type 0} → PagesMeaning P → P → FileTables → Tty → (NumberedPages → ByteTurn) → Result (End ByteChange) Need → Type 0
Plans means pages tables owner turn result = (d : DrumWords) → means.fits pages d → let p = means.plain pages d in IsPlan tables (means.scene pages) owner p (turn p) result
