-- What holds of the files of the plain state, and of the JFNs of its jobs, wherever a run comes.
use Rattle.std.specs.Prelude.{◌≡◌, ℕ, ◌<◌, ◌≤◌, List, true, Some}
use Rattle.std.specs.Ordering.{nat_cmp}
use Rattle.std.specs.FinMap as map
use Rattle.machine_names.specs.declared.names.PageName.{PageName}
use Rattle.machine_names.specs.Bounds.{IsFileName}
use Rattle.machine_names.specs.Orders.{FilePage, name_cmp, file_page_cmp}
use Rattle.machine_names.specs.declared.names.TheConstants.{FILE_PAGES, MOST_FILES}
use Rattle.plain_files.specs.declared.bounds.TheConstants.{MOST_JFNS}
use Rattle.plain_files.specs.Bytes.{IsByteSize, most_bytes}
use Rattle.plain_files.specs.Sizes.{PlainFile, FitsFile}
use Rattle.plain_files.specs.OpenFiles.{OpenFile}
use Rattle.plain_model.specs.State.{PlainJob}

-- the files by name
abbrev pub Files : Type 0
Files = map.FinMap name_cmp PlainFile

-- the pages of files
abbrev pub FilePages : Type 0
FilePages = map.FinMap (file_page_cmp name_cmp) PageName

-- the JFNs of a job
abbrev pub Jfns : Type 0
Jfns = map.FinMap nat_cmp OpenFile

-- the jobs by terminal
abbrev pub Jobs : Type 0
Jobs = map.FinMap nat_cmp PlainJob

-- each file has a full name, and room for its bytes; and there are not more of them than there may be
pub record AreNamedFiles (files : Files) : Type 0 where
  pub named : (name : List ℕ) (f : PlainFile) → map.get files name ≡ Some f → IsFileName name × FitsFile f
  pub few : map.len files ≤ MOST_FILES

-- each page of a file is one of those that a file may have, and its file is there
abbrev pub AreFilePages : Files → FilePages → Type 0
AreFilePages files pages = (at : FilePage (List ℕ)) → map.contains_key pages at ≡ true → (map.contains_key files at.file ≡ true) × (at.page < FILE_PAGES)

-- a JFN stands for a file that is there, at a byte that a file has room for, or behind the last one
abbrev pub FitsOpen : Files → OpenFile → Type 0
FitsOpen files jfn = (map.contains_key files jfn.file ≡ true) × IsByteSize jfn.size × (jfn.at ≤ most_bytes jfn.size)

-- the JFNs of a job are numbered from 1, and each of them fits
abbrev pub AreOpen : Files → Jfns → Type 0
AreOpen files jfns = (n : ℕ) (jfn : OpenFile) → map.get jfns n ≡ Some jfn → (1 ≤ n) × (n ≤ MOST_JFNS) × FitsOpen files jfn

-- the files, their pages and the JFNs of the jobs are whole
pub record AreFilesWhole (files : Files) (pages : FilePages) (jobs : Jobs) : Type 0 where
  pub named : AreNamedFiles files
  pub placed : AreFilePages files pages
  pub jfns : (t : ℕ) (j : PlainJob) → map.get jobs t ≡ Some j → AreOpen files j.jfns
