-- The calls on files and JFNs (JSYS Manual): GETER, GTJFN, OPENF, CLOSF, RLJFN, DELF.
use Rattle.std.specs.Prelude.{ℕ, ◌/◌, ◌^◌, List, [], ◌∷◌, Bool, ◌&&◌, ◌||◌, not, nat_lt, ◌==◌, if◌then◌else◌, is_some, None}
use Rattle.std.specs.Option.{option_map_or, option_and_then}
use Rattle.std.specs.List.{sum_by}
use Rattle.std.specs.Ordering.{nat_cmp}
use Rattle.std.specs.declared.cmp.Ordering.{Ordering}
use Rattle.std.specs.FinMap as map
use Rattle.word36.specs.Words.{right, bit}
use Rattle.machine_names.specs.declared.names.Tty.{Tty}
use Rattle.machine_names.specs.declared.names.ForkName.{ForkName}
use Rattle.machine_names.specs.FileNames.{file_named}
use Rattle.machine_names.specs.Orders.{name_cmp}
use Rattle.plain_files.specs.declared.bounds.TheConstants.{LARGEST_BYTE}
use Rattle.plain_files.specs.declared.jfn.Mode.{Mode}
use Rattle.plain_files.specs.Sizes.{PlainFile, new_file}
use Rattle.plain_files.specs.OpenFiles.{OpenFile, OpenFiles, free_jfn, opened_file, taken_file, times_open}
use Rattle.plain_pages.specs.PlainPages.{PlainPages}
use Rattle.plain_pages.specs.FilePages.{without_file}
use Rattle.plain_units.specs.declared.registers.Regs.{Regs}
use Rattle.plain_units.specs.Deeds.{in_ac, skip_pc}
use Rattle.plain_model.specs.declared.call.TheConstants.{GETER, GTJFN, OPENF, CLOSF, RLJFN, DELF, NO_JFN, NOT_OPEN, JFN_OPEN, NO_FILE, BAD_NAME, FILES_FULL, JFNS_FULL, FILE_IN_USE, BAD_SIZE}
use Rattle.plain_model.specs.declared.call.End.{End}
use Rattle.plain_model.specs.declared.call.End.TheVariants.{Done, Failed}
use Rattle.plain_model.specs.declared.call.FileChange.{FileChange}
use Rattle.plain_model.specs.declared.call.FileChange.TheVariants.{Take, Make, Open, Release, Delete}
use Rattle.plain_model.specs.State.{PlainJob}
use Rattle.plain_model.specs.Calls.{Asked, Turn, looks, makes, ends, with_ac, returning, given, numbered}
use Rattle.plain_model.specs.ForkCalls.{own_named}
use Rattle.plain_model.specs.Readings.{with_reading}
use Rattle.plain_model.specs.PointedTexts.{text_at}

-- GETER: accumulator 2 becomes the last error of the caller or an inferior
abbrev pub geter : Asked → Turn ⊥ (Unit {0})
geter a = given (own_named a) (λ f. ends (returning tt (with_ac a.regs 2 f.body.error)))

-- the calls on files by their numbers that change the fork that called alone
abbrev pub file_calls : List (ℕ × (Asked → Turn ⊥ (Unit {0})))
file_calls = (GETER, λ a. given (own_named a) (λ f. ends (returning tt (with_ac a.regs 2 f.body.error)))) ∷ []

-- a turn of such a call by its number
abbrev pub file_call : ℕ → Asked → Turn ⊥ (Unit {0})
file_call number a = numbered file_calls number a

-- the jobs by terminal
abbrev pub Jobs : Type 0
Jobs = map.FinMap nat_cmp PlainJob

-- who calls, with which registers, for which user, with which JFNs, and how many JFNs of all jobs stand for the file of a name
pub record JfnAsked : Type 0 where
  pub who : ForkName
  pub regs : Regs
  pub user : List ℕ
  pub held : OpenFiles
  pub times : List ℕ → ℕ

-- the call is done, and returns by its second return
abbrev pub skipping : {C : Type 0} → C → Regs → End C
skipping change regs = Done change (record regs { pc = skip_pc regs }) None None

-- accumulator 1 becomes the number of a JFN that is taken
abbrev pub telling : JfnAsked → ℕ → FileChange → End FileChange
telling a n change = skipping change (with_ac a.regs 1 n)

-- a file is made for a JFN, where one more may be there
abbrev pub made_for : JfnAsked → ℕ → List ℕ → Bool → End FileChange
made_for a n name room = if room then telling a n (Make a.who.tty n name) else Failed FILES_FULL

-- a JFN stands for a file that is there; else bit 0 of accumulator 1 has the file made
abbrev pub found_or_made : JfnAsked → ℕ → List ℕ → Bool → Turn ⊥ FileChange
found_or_made a n name there =
    if there then ends (telling a n (Take a.who.tty n name))
    else (if bit (in_ac a.regs 1) 0 == 1 then makes name (λ room. ends (made_for a n name room)) else ends (Failed NO_FILE))

-- a file is looked up, and the least JFN that is free is to stand for it
abbrev pub taking : JfnAsked → List ℕ → Turn ⊥ FileChange
taking a name = looks name (λ there. option_map_or (λ n. found_or_made a n name there) (free_jfn a.held) (ends (Failed JFNS_FULL)))

-- GTJFN: a JFN is taken for the file that the text at the pointer in accumulator 2 names
abbrev pub gtjfn : JfnAsked → Turn ⊥ FileChange
gtjfn a = with_reading a.who a.regs (text_at a.regs (in_ac a.regs 2)) (λ text.
    option_map_or (taking a) (option_and_then (file_named a.user []) text) (ends (Failed BAD_NAME)))

-- a call of the JFN that accumulator 1 names, with what it stands for
abbrev pub of_jfn : (ℕ → OpenFile → End FileChange) → JfnAsked → Turn ⊥ FileChange
of_jfn act a = let n = right (in_ac a.regs 1) in ends (option_map_or (act n) (map.get a.held n) (Failed NO_JFN))

-- bits 0 to 5 of a word are the size of a file's bytes, where 0 stands for words; bit 19 has it read, bit 20 written
abbrev pub size_in : ℕ → ℕ
size_in w = if w / 2 ^ 30 == 0 then LARGEST_BYTE else w / 2 ^ 30

abbrev pub mode_in : ℕ → Mode
mode_in w = record { r = bit w 19 == 1; w = bit w 20 == 1 }

-- OPENF: the file of a JFN that isn't open is opened as accumulator 2 says, to be read, written or both
abbrev pub openf : JfnAsked → Turn ⊥ FileChange
openf a = let w = in_ac a.regs 2 in let mode : Mode = record { r = bit w 19 == 1; w = bit w 20 == 1 } in of_jfn (λ n j.
    if is_some j.mode then Failed JFN_OPEN
    else (if nat_lt LARGEST_BYTE (size_in w) then Failed BAD_SIZE
    else (if mode.r || mode.w then skipping (Open a.who.tty n mode (size_in w)) a.regs else Failed NOT_OPEN))) a

-- CLOSF: a JFN is released
abbrev pub closf : JfnAsked → Turn ⊥ FileChange
closf a = of_jfn (λ n j. skipping (Release a.who.tty n) a.regs) a

-- RLJFN: the same, where its file isn't open
abbrev pub rljfn : JfnAsked → Turn ⊥ FileChange
rljfn a = of_jfn (λ n j. if is_some j.mode then Failed JFN_OPEN else skipping (Release a.who.tty n) a.regs) a

-- DELF: the file of a JFN is removed, where no other JFN stands for it, and the JFN is released
abbrev pub delf : JfnAsked → Turn ⊥ FileChange
delf a = of_jfn (λ n j. if nat_lt 1 (a.times j.file) then Failed FILE_IN_USE else skipping (Delete a.who.tty n) a.regs) a

-- the calls on JFNs by their numbers
abbrev pub jfn_calls : List (ℕ × (JfnAsked → Turn ⊥ FileChange))
jfn_calls = (GTJFN, gtjfn) ∷ (OPENF, openf) ∷ (CLOSF, closf) ∷ (RLJFN, rljfn) ∷ (DELF, delf) ∷ []

-- a turn of a call on JFNs by its number
abbrev pub jfn_call : ℕ → JfnAsked → Turn ⊥ FileChange
jfn_call number a = numbered jfn_calls number a

-- the JFNs of the job at a terminal
abbrev pub held_at : Jobs → Tty → OpenFiles
held_at jobs t = option_map_or (λ j. j.jfns) (map.get jobs t.0) map.empty

-- how many JFNs of all jobs stand for the file of a name
unfoldable pub times_held : Jobs → List ℕ → ℕ
times_held jobs name = sum_by (λ j. times_open j.jfns name) (map.values jobs)

-- the job at a terminal with other JFNs
abbrev pub with_held : Jobs → Tty → (OpenFiles → OpenFiles) → Jobs
with_held jobs t change = option_map_or (λ j. map.insert jobs t.0 (record j { jfns = change j.jfns })) (map.get jobs t.0) jobs

-- the pages, the files and the jobs: what the calls on JFNs change
pub record FileParts {K : Type 0} (file_cmp : K → K → Ordering) : Type 0 where
  pub pages : PlainPages file_cmp
  pub files : map.FinMap name_cmp PlainFile
  pub jobs : Jobs

-- the files, where one that is opened to be written alone has no byte left
abbrev pub files_opened : map.FinMap name_cmp PlainFile → Mode → List ℕ → map.FinMap name_cmp PlainFile
files_opened files mode name = if mode.w && not mode.r then option_map_or (λ f. map.insert files name (record f { length = 0 })) (map.get files name) files else files

module _ {K : Type 0} {file_cmp : K → K → Ordering} (key_of : List ℕ → K) where
  -- what is left where the file of a JFN is opened, or removed
  abbrev pub opened : FileParts file_cmp → Tty → ℕ → Mode → ℕ → OpenFile → FileParts file_cmp
  opened v t n mode size j = record v { files = files_opened v.files mode j.file; jobs = with_held v.jobs t (λ m. map.insert m n (opened_file mode size j)) }

  abbrev pub deleted : FileParts file_cmp → Tty → ℕ → OpenFile → FileParts file_cmp
  deleted v t n j = record { pages = without_file v.pages (key_of j.file); files = map.remove v.files j.file; jobs = with_held v.jobs t (λ m. map.remove m n) }

  -- what a change of a call on JFNs leaves, where pages of files are under the key of the file's name
  unfoldable pub file_changed : FileChange → FileParts file_cmp → FileParts file_cmp
  file_changed (Take t n name) v = record v { jobs = with_held v.jobs t (λ m. map.insert m n (taken_file name)) }
  file_changed (Make t n name) v = record v { files = map.insert v.files name new_file; jobs = with_held v.jobs t (λ m. map.insert m n (taken_file name)) }
  file_changed (Open t n mode size) v = option_map_or (opened v t n mode size) (map.get (held_at v.jobs t) n) v
  file_changed (Release t n) v = record v { jobs = with_held v.jobs t (λ m. map.remove m n) }
  file_changed (Delete t n) v = option_map_or (deleted v t n) (map.get (held_at v.jobs t) n) v
