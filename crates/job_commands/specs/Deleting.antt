-- What is left once a file is removed, or isn't.
use Rattle.std.specs.Prelude.{◌≡◌, ℕ, ◌<◌, Result, Ok, Err}
use Rattle.std.specs.FinMap as map
use Rattle.plain_files.specs.NamedFiles.{name_of}
use Rattle.plain_files.specs.OpenFiles.{times_open_in_all}
use Rattle.plain_pages.specs.FilePages.{without_file}
use Rattle.plain_pages.specs.PlainPages.{NumberedPages}
use Rattle.file_tables.specs.declared.tables.FileTables.{FileTables}
use Rattle.file_tables.specs.Tables.{files_of, open_of}

-- no JFN names a file, and it is removed; or one does, and nothing changes
abbrev pub Deletes : {X E : Type 0} → FileTables → FileTables → ℕ → Result X E → Type 0
Deletes old new f (Ok done) = (times_open_in_all (open_of old) (name_of old.dir f) ≡ 0) × (files_of new ≡ map.remove (files_of old) (name_of old.dir f)) × (new.dir ≡ map.remove old.dir f)
Deletes old new f (Err busy) = (0 < times_open_in_all (open_of old) (name_of old.dir f)) × (new ≡ old)

-- the pages that are left
abbrev pub pages_left : {X E : Type 0} → ℕ → Result X E → NumberedPages → NumberedPages
pages_left f (Ok done) p = without_file p f
pages_left f (Err busy) p = p
