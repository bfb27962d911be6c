-- What laws say of the events that make files, write into them and show them.
use Rattle.std.specs.Prelude.{◌≡◌, ◌≢◌, ◌⊎◌, ℕ, ◌+◌, ◌*◌, ◌<◌, ◌≤◌, List, length, None, Some, IsSome, is_some, if◌then◌else◌, slice_index}
use Rattle.std.specs.FinMap as map
use Rattle.machine_names.specs.declared.names.PageName.{PageName}
use Rattle.machine_names.specs.Orders.{FilePage}
use Rattle.script_texts.specs.declared.event.WordRow.{WordRow}
use Rattle.script_texts.specs.declared.event.Event.TheVariants.{File, Words, Page}
use Rattle.outside.specs.declared.TheConstants.{PAGE_WORDS}
use Rattle.plain_files.specs.declared.bounds.TheConstants.{LARGEST_BYTE}
use Rattle.plain_files.specs.Sizes.{PlainFile, length_in}
use Rattle.plain_pages.specs.Room.{live}
use Rattle.plain_pages.specs.References.{page_at, word_at}
use Rattle.plain_model.specs.State.{PlainState}
use Rattle.plain_model.specs.Unit.{Effect}
use Rattle.plain_model.specs.FileEvents.{page_named}
use Rattle.plain_model.specs.Events.{outer}

-- a file of a name is there, and no page of it
pub record IsNewFile (s : PlainState) (name : List ℕ) : Type 0 where
  pub file : PlainFile
  pub there : map.get s.files name ≡ Some file
  pub empty : file.length ≡ 0
  pub bare : (page : ℕ) → page_at s.pages (page_named name page) ≡ None

-- of a state nothing changed but the file of a name
pub record ChangesFile (old new : PlainState) (name : List ℕ) : Type 0 where
  pub others : (other : List ℕ) → other ≢ name → map.get new.files other ≡ map.get old.files other
  pub rest : new ≡ record old { files = new.files }

-- the file of a name has this page
abbrev pub HasPage : PlainState → List ℕ → ℕ → Type 0
HasPage s name page = IsSome (page_at s.pages (page_named name page))

-- the word at an offset of a page of a file
abbrev pub file_word : PlainState → List ℕ → ℕ → ℕ → ℕ
file_word s name page offset = word_at s.pages (page_named name page) offset

-- A row of words stands in a page of a file from an offset on, and its other words are as they were, 0 where the page was not there;
-- the objects of other pages are what they were, and so is what each map and each other page of a file names.
pub record PutsRow (old new : PlainState) (name : List ℕ) (page offset : ℕ) (words : List ℕ) : Type 0 where
  pub there : HasPage new name page
  pub put : (i : ℕ) → i < length words → file_word new name page (offset + i) ≡ slice_index words i
  pub kept : (at : ℕ) → (at < offset) ⊎ (offset + length words ≤ at) → file_word new name page at ≡ file_word old name page at
  pub objects : (n : PageName) → page_at new.pages (page_named name page) ≢ Some n → map.get new.pages.objects n ≡ map.get old.pages.objects n
  pub maps : new.pages.maps ≡ old.pages.maps
  pub pages : (other : FilePage (List ℕ)) → other ≢ record { file = name; page = page } → map.get new.pages.files other ≡ map.get old.pages.files other

-- besides, its file has words as bytes now, and reaches behind the row, and is no shorter than it was; no other file changes,
-- nor anything else but pages; a page that was not there is one more that lives
pub record WritesRow (old new : PlainState) (name : List ℕ) (page offset : ℕ) (words : List ℕ) : Type 0 where
  pub row : PutsRow old new name page offset words
  pub file : PlainFile
  pub named : map.get new.files name ≡ Some file
  pub size : file.size ≡ LARGEST_BYTE
  pub reaches : page * PAGE_WORDS + offset + length words ≤ file.length
  pub longer : (was : PlainFile) → map.get old.files name ≡ Some was → length_in LARGEST_BYTE was ≤ file.length
  pub others : (other : List ℕ) → other ≢ name → map.get new.files other ≡ map.get old.files other
  pub rest : new ≡ record old { pages = new.pages; files = new.files }
  pub live : live new.pages ≡ live old.pages + (if is_some (page_at old.pages (page_named name page)) then 0 else 1)

-- what each of the three events comes to
abbrev pub made_file : PlainState → List ℕ → Effect
made_file s name = outer s (File name)

abbrev pub words_put : PlainState → List ℕ → ℕ → ℕ → WordRow → Effect
words_put s name page offset row = outer s (Words name page offset row)

abbrev pub page_shown : PlainState → List ℕ → ℕ → Effect
page_shown s name page = outer s (Page name page)
