-- What changes of files and JFNs leave of the parts.
use Rattle.std.proofs.Common.{◌≡◌, ℕ, Bool, true, false, cond, List, [], Option, Some, None, refl, sym, ◌∙◌, ap, subst}
use Rattle.std.specs.Prelude.{not, ◌&&◌, is_some}
use Rattle.std.specs.Option.{IsSomeAnd, option_map_or, unwrap_or}
use Rattle.std.specs.FinMap as map
use Rattle.number_map.proofs.Keys.{get_put}
use Rattle.machine_names.specs.Bounds.{IsTerminal}
use Rattle.machine_names.specs.Orders.{name_cmp}
use Rattle.machine_names.specs.declared.names.Tty.{Tty}
use Rattle.plain_files.specs.declared.jfn.Mode.{Mode}
use Rattle.plain_files.specs.Directory.{Creates, Files}
use Rattle.plain_files.specs.NamedFiles.{name_of}
use Rattle.plain_files.specs.OpenFiles.{OpenFile, OpenFiles, opened_file, taken_file}
use Rattle.plain_files.specs.Sizes.{FitsFile, PlainFile, new_file}
use Rattle.plain_pages.specs.PlainPages.{NumberedPages}
use Rattle.plain_pages.specs.FilePages.{without_file}
use Rattle.plain_model.specs.declared.call.FileChange.TheVariants.{Take, Make, Open, Release, Delete}
use Rattle.plain_model.specs.FileCalls.{Jobs, deleted, file_changed, files_opened, held_at, opened, with_held}
use Rattle.file_tables.specs.declared.tables.FileTables.{FileTables}
use Rattle.file_tables.specs.Tables.{Changes, FilesStay, file_of, files_of, jfns_at, open_of}
use Rattle.file_tables.proofs.Names.{named, number_is}
use Rattle.file_tables.specs.Keys.{key_of}
use Rattle.file_calls.specs.Asking.{parts}
use Rattle.file_calls.specs.Jobs.{AreHeld, jobs_holding}
use Rattle.file_calls.proofs.Holding.{holds_them, jobs_changed}

-- what is there is what was found
pub some_is : {A : Type 0} (o : Option A) (P : A → Type 0) (x : A) → o ≡ Some x → IsSomeAnd o P → P x
some_is {A} o P x is h = subst (λ (q : Option A). IsSomeAnd q P) is h

-- a file's pages are under its number
pub key_is : (tables : FileTables) (f : ℕ) → map.contains_key tables.dir f ≡ true → key_of tables (name_of tables.dir f) ≡ f
key_is tables f there = ap (λ (o : Option ℕ). unwrap_or o 0) ((number_is tables.dir tables.sound.numbers (name_of tables.dir f) f).1 (named tables.dir f there))

-- a file that was made is there, under its name
module _ (old new : Files) (f : ℕ) (name : List ℕ) (made : Creates old new f name) where
  at_number : map.get new f ≡ Some name
  at_number = ap (λ m. map.get m f) made.put ∙ get_put old f f name refl

  pub made_there : map.contains_key new f ≡ true
  made_there = ap is_some at_number

  pub made_name : name_of new f ≡ name
  made_name = ap (λ (o : Option (List ℕ)). unwrap_or o []) at_number

-- the files where one is opened
module _ (files : map.FinMap name_cmp PlainFile) (mode : Mode) (name : List ℕ) where
  abbrev shortened : Option PlainFile → Bool → map.FinMap name_cmp PlainFile
  shortened o b = cond b (option_map_or (λ f. map.insert files name (record f { length = 0 })) o files) files

  pub files_stay : (mode.w && not mode.r) ≡ false → files ≡ files_opened files mode name
  files_stay no_more = ap (shortened (map.get files name)) (sym no_more)

  pub files_shorten : (file : PlainFile) → (mode.w && not mode.r) ≡ true → map.get files name ≡ Some file → map.insert files name (record file { length = 0 }) ≡ files_opened files mode name
  files_shorten file alone there = ap (λ (o : Option PlainFile). shortened o true) (sym there) ∙ ap (shortened (map.get files name)) (sym alone)

-- the files behind an opening that leaves a file no byte
pub shortened_is : (old mid new : FileTables) → FilesStay old mid → (f : ℕ) (mode : Mode) (size : ℕ) → IsSomeAnd (file_of mid f) (λ file. (size ≡ file.size) × FitsFile file)
    → files_of new ≡ map.insert (files_of mid) (name_of mid.dir f) (record { length = 0; size = size }) → (mode.w && not mode.r) ≡ true → files_of new ≡ files_opened (files_of old) mode (name_of old.dir f)
shortened_is old mid new stay f mode size is set alone = by (file_of mid f) refl is
  where
    name : name_of mid.dir f ≡ name_of old.dir f
    name = ap (λ m. name_of m f) stay.numbers

    by : (o : Option PlainFile) → file_of mid f ≡ o → IsSomeAnd o (λ file. (size ≡ file.size) × FitsFile file) → files_of new ≡ files_opened (files_of old) mode (name_of old.dir f)
    by None none h = absurd h
    by (Some file) there h =
        set ∙ ap (λ (n : ℕ). map.insert (files_of mid) (name_of mid.dir f) (record { length = 0; size = n })) h.0
        ∙ ap (λ (m : map.FinMap name_cmp PlainFile). map.insert m (name_of mid.dir f) (record file { length = 0 })) stay.files
        ∙ ap (λ (q : List ℕ). map.insert (files_of old) q (record file { length = 0 })) name
        ∙ files_shorten (files_of old) mode (name_of old.dir f) file alone (ap (λ (q : List ℕ). map.get (files_of old) q) (sym name) ∙ ap (λ (m : map.FinMap name_cmp PlainFile). map.get m (name_of mid.dir f)) (sym stay.files) ∙ there)

module _ (old new : FileTables) (t : Tty) (terminal : IsTerminal t) (jfns : OpenFiles) (changes : Changes old new t.0 jfns) (jobs : Jobs) (key : List ℕ → ℕ) where
  -- other JFNs at one terminal, and other files
  module _ (p : NumberedPages) (files : map.FinMap name_cmp PlainFile) (same : files_of new ≡ files) (change : OpenFiles → OpenFiles) (is : jfns ≡ change (jfns_at old t.0)) where
    parts_changed : parts jobs new p ≡ record { pages = p; files = files; jobs = with_held (jobs_holding jobs (open_of old)) t change }
    parts_changed = λ i. record { pages = p; files = same i; jobs = jobs_changed old new t terminal jfns changes jobs change is i }

  pub takes : (p : NumberedPages) (n : ℕ) (name : List ℕ) → files_of new ≡ files_of old → jfns ≡ map.insert (jfns_at old t.0) n (taken_file name) → parts jobs new p ≡ file_changed key (Take t n name) (parts jobs old p)
  unfolding file_changed
  takes p n name files is = parts_changed p (files_of old) files (λ m. map.insert m n (taken_file name)) is

  pub makes : (p : NumberedPages) (n : ℕ) (name : List ℕ) → files_of new ≡ map.insert (files_of old) name new_file → jfns ≡ map.insert (jfns_at old t.0) n (taken_file name) → parts jobs new p ≡ file_changed key (Make t n name) (parts jobs old p)
  unfolding file_changed
  makes p n name files is = parts_changed p (map.insert (files_of old) name new_file) files (λ m. map.insert m n (taken_file name)) is

  pub releases : (p : NumberedPages) (n : ℕ) → files_of new ≡ files_of old → jfns ≡ map.remove (jfns_at old t.0) n → parts jobs new p ≡ file_changed key (Release t n) (parts jobs old p)
  unfolding file_changed
  releases p n files is = parts_changed p (files_of old) files (λ m. map.remove m n) is

  -- a change of a JFN that the job holds
  module _ (held : AreHeld jobs (open_of old)) (n : ℕ) (j : OpenFile) (there : map.get (jfns_at old t.0) n ≡ Some j) where
    found : map.get (held_at (jobs_holding jobs (open_of old)) t) n ≡ Some j
    found = ap (λ (m : OpenFiles). map.get m n) (holds_them jobs (open_of old) t held) ∙ there

    pub opens : (p : NumberedPages) (mode : Mode) (size : ℕ) → files_of new ≡ files_opened (files_of old) mode j.file → jfns ≡ map.insert (jfns_at old t.0) n (opened_file mode size j)
        → parts jobs new p ≡ file_changed key (Open t n mode size) (parts jobs old p)
    unfolding file_changed
    opens p mode size files is =
        let v = parts jobs old p in
        parts_changed p (files_opened (files_of old) mode j.file) files (λ m. map.insert m n (opened_file mode size j)) is
        ∙ ap (λ (o : Option OpenFile). option_map_or (opened key v t n mode size) o v) (sym found)

    pub deletes : (p q : NumberedPages) → q ≡ without_file p (key j.file) → files_of new ≡ map.remove (files_of old) j.file → jfns ≡ map.remove (jfns_at old t.0) n
        → parts jobs new q ≡ file_changed key (Delete t n) (parts jobs old p)
    unfolding file_changed
    deletes p q gone files is =
        let v = parts jobs old p in
        ap (parts jobs new) gone
        ∙ parts_changed (without_file p (key j.file)) (map.remove (files_of old) j.file) files (λ m. map.remove m n) is
        ∙ ap (λ (o : Option OpenFile). option_map_or (deleted key v t n) o v) (sym found)
