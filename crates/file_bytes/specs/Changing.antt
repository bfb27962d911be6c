-- Changes that a call on bytes makes, once it is done.
use Rattle.std.specs.Prelude.{◌≡◌, ℕ, ◌+◌}
use Rattle.page_contracts.specs.DrumWords.{DrumWords}
use Rattle.page_contracts.specs.Pages.{PagesMeaning}
use Rattle.machine_names.specs.declared.names.Kind.TheVariants.{Write}
use Rattle.machine_names.specs.declared.names.Tty.{Tty}
use Rattle.machine_names.specs.Orders.{FilePage}
use Rattle.plain_files.specs.NamedFiles.{name_of}
use Rattle.plain_files.specs.declared.jfn.Jfn.{Jfn}
use Rattle.plain_pages.specs.PlainPages.{NumberedPages}
use Rattle.plain_pages.specs.References.{in_file, settled, stored, word_at}
use Rattle.plain_typing.specs.Lines.{InputLine}
use Rattle.word36.specs.Bytes.{deposited}
use Rattle.plain_model.specs.declared.call.ByteChange.{ByteChange}
use Rattle.plain_model.specs.declared.call.End.{End}
use Rattle.plain_model.specs.ByteCalls.{byte_changed, files_reaching}
use Rattle.plain_model.specs.Calls.{parts_behind}
use Rattle.plain_model.specs.FileCalls.{Jobs}
use Rattle.file_tables.specs.declared.tables.FileTables.{FileTables}
use Rattle.file_tables.specs.Tables.{OpenStay, files_of}
use Rattle.file_tables.specs.Keys.{key_of}
use Rattle.file_bytes.specs.Asking.{HasLine, jobs_with, parts}
use Rattle.file_bytes.specs.Planning.{made_for, pages_for}

-- the pages with a byte of a word of a page of a file, which is made for an owner where it isn't there
abbrev pub deposited_in : NumberedPages → Tty → FilePage ℕ → ℕ → ℕ → ℕ → NumberedPages
deposited_in p owner f offset pointer byte =
    let q = settled p (in_file f) Write owner in stored q (in_file f) offset (deposited pointer (word_at q (in_file f) offset) byte)

-- the file of a JFN has bytes of the JFN's size, and reaches at least to the byte behind the one at which the JFN stands; all else stays
pub record Reaches (old new : FileTables) (jfn : Jfn) : Type 0 where
  pub files : files_of new ≡ files_reaching (files_of old) (name_of old.dir jfn.file.0) jfn.size (jfn.at + 1)
  pub numbers : new.dir ≡ old.dir
  pub jfns : OpenStay old new

-- a change of the job at a terminal was made over each drum that fits, and all jobs of which that has these JFNs and these characters
pub record Changes {P : Type 0} (means : PagesMeaning P) (old new : P) (tables tables' : FileTables) (line line' : InputLine) (t : Tty) (what : ByteChange) : Type 0 where
  pub fits : (d : DrumWords) → means.fits old d → means.fits new d
  pub left : (d : DrumWords) (jobs : Jobs) → means.fits old d → HasLine jobs t tables line
      → parts (jobs_with jobs t tables' line') tables' (means.plain new d) ≡ byte_changed (key_of tables) what (parts jobs tables (pages_for tables t (means.plain old d) what))

-- a turn ended so: its change was made, if it is done
pub record EndsOver {P : Type 0} (means : PagesMeaning P) (old new : P) (tables tables' : FileTables) (line line' : InputLine) (t : Tty) (e : End ByteChange) : Type 0 where
  pub fits : (d : DrumWords) → means.fits old d → means.fits new d
  pub left : (d : DrumWords) (jobs : Jobs) → means.fits old d → HasLine jobs t tables line
      → let p = means.plain old d in
      parts (jobs_with jobs t tables' line') tables' (means.plain new d) ≡ parts_behind (byte_changed (key_of tables)) (parts jobs tables p) (parts jobs tables (made_for tables t p e)) e
