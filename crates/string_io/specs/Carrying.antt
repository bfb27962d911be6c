-- What a plan leaves that is carried out.
use Rattle.std.specs.Prelude.{◌≡◌, true, Some}
use Rattle.std.specs.FinMap as map
use Rattle.machine_names.specs.declared.names.Tty.{Tty}
use Rattle.machine_names.specs.declared.names.Kind.TheVariants.{Write}
use Rattle.page_contracts.specs.DrumWords.{DrumWords}
use Rattle.page_contracts.specs.Pages.{PagesMeaning, Scene, can_settle, touch_of}
use Rattle.plain_files.specs.Jobs.{jfns_of}
use Rattle.plain_files.specs.declared.jfn.Jfn.{Jfn}
use Rattle.plain_pages.specs.PlainPages.{NumberedPages}
use Rattle.plain_pages.specs.References.{in_file}
use Rattle.plain_typing.specs.Lines.{InputLine}
use Rattle.plain_model.specs.declared.call.ByteChange.{ByteChange}
use Rattle.plain_model.specs.declared.call.ByteChange.TheVariants.{Put}
use Rattle.plain_model.specs.ByteCalls.{byte_changed}
use Rattle.plain_model.specs.Calls.{parts_behind}
use Rattle.plain_model.specs.FileCalls.{Jobs}
use Rattle.file_tables.specs.declared.tables.FileTables.{FileTables}
use Rattle.file_tables.specs.Keys.{key_of}
use Rattle.ka10_unit.specs.Gathers.{framed}
use Rattle.file_bytes.specs.Asking.{HasLine, jobs_with, parts}
use Rattle.file_bytes.specs.Planning.{made_for, page_for, pages_for}
use Rattle.string_io.specs.declared.plan.Plan.{Plan}
use Rattle.string_io.specs.Depositing.{pages_planned}

-- the page of the byte that a change writes is there and in a frame, or can be made
abbrev pub Opens : NumberedPages → Scene → FileTables → Tty → ByteChange → Type 0
Opens p scene tables t (Put u n byte) = (jfn : Jfn) → map.get (jfns_of tables.jobs t.0) n ≡ Some jfn → can_settle (touch_of p scene (in_file (page_for jfn)) Write t) ≡ true
Opens p scene tables t what = Unit {0}

-- a change was made over this drum
pub record ChangesAt {P : Type 0} (means : PagesMeaning P) (old new : P) (tables tables' : FileTables) (line line' : InputLine) (t : Tty) (what : ByteChange) (d : DrumWords) : Type 0 where
  pub fits : means.fits new d
  pub left : (jobs : Jobs) → HasLine jobs t tables line
      → parts (jobs_with jobs t tables' line') tables' (means.plain new d) ≡ byte_changed (key_of tables) what (parts jobs tables (pages_for tables t (means.plain old d) what))

-- a plan was carried out over this drum
pub record CarriedAt {P : Type 0} (means : PagesMeaning P) (old new : P) (tables tables' : FileTables) (line line' : InputLine) (plan : Plan) (d : DrumWords) : Type 0 where
  pub fits : means.fits new d
  pub left : (jobs : Jobs) → let t = plan.fork.tty in HasLine jobs t tables line
      → let p = framed means old d in
      parts (jobs_with jobs t tables' line') tables' (means.plain new d) ≡ parts_behind (byte_changed (key_of tables)) (parts jobs tables p.pages) (parts jobs tables (made_for tables t (pages_planned p plan) plan.ending)) plan.ending
