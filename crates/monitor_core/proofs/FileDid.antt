-- The events of files, as the events of the plain machine.
use Rattle.std.proofs.Common.{◌≡◌, ℕ, ◌+◌, ◌*◌, ◌<◌, ◌≤◌, Bool, true, false, cond, List, [], ◌∷◌, length, take, Option, None, Some, refl, sym, ◌∙◌, ap, subst, arith, nat_lt, is_some, inl, inr}
use Rattle.std.specs.Prelude.{◌↔◌, IsTrue, not, MatchOption, Ok, Err}
use Rattle.std.specs.Ordering.{nat_cmp}
use Rattle.std.proofs.lemmas.List.{length-take-le}
use Rattle.std.specs.Option.{IsSomeAnd, option_map_or}
use Rattle.std.specs.FinMap as fin
use Rattle.std.proofs.lemmas.Bool.{cases_lt}
use Rattle.std.proofs.lemmas.Bool.Decides.{nat_tests}
use Rattle.outside.specs.declared.TheConstants.{PAGE_WORDS}
use Rattle.machine_names.specs.Bounds.{IsFileName}
use Rattle.machine_names.specs.declared.names.PageName.{PageName}
use Rattle.machine_names.specs.declared.names.TheConstants.{MOST_FILES}
use Rattle.machine_names.specs.declared.names.Kind.TheVariants.{Write}
use Rattle.machine_names.specs.Orders.{FilePage, file_page}
use Rattle.page_contracts.specs.DrumWords.{DrumWords}
use Rattle.page_contracts.specs.Pages.{Agrees, MayLose, PagesMeaning}
use Rattle.plain_pages.specs.PlainPages.{NumberedPages}
use Rattle.plain_pages.specs.References.{Referred, denied, full, granted, in_file, page_at, reference, words_at, words_of}
use Rattle.plain_files.specs.declared.bounds.TheConstants.{LARGEST_BYTE}
use Rattle.plain_files.specs.Directory.{Creates}
use Rattle.plain_files.specs.NamedFiles.{AreFiled, name_of, pages_named}
use Rattle.plain_files.specs.Sizes.{PlainFile, file_at, new_file, reaching}
use Rattle.plain_model.specs.Events.{outer}
use Rattle.plain_model.specs.FileEvents.{console, page_named as spot_named, stored_row, words_shown, written}
use Rattle.plain_model.specs.State.{PlainState}
use Rattle.plain_model.specs.Trees.{PlainTree}
use Rattle.plain_model.specs.Unit.{Effect, refused}
use Rattle.plain_model.proofs.Equations.{apply_outer, outer_file, outer_page, outer_words}
use Rattle.script_texts.specs.declared.event.Event.TheVariants.{File, Page, Words}
use Rattle.script_texts.specs.declared.event.Item.TheVariants.{PageLine, Refusal}
use Rattle.script_texts.specs.declared.event.Refusal.TheVariants.{Exists, FileFull, FilesFull, NoFile, NoFilePage}
use Rattle.script_texts.specs.declared.event.Step.TheVariants.{Outer}
use Rattle.script_texts.specs.declared.event.WordRow.{WordRow}
use Rattle.script_texts.specs.Limits.{FitsRow}
use Rattle.machine_names.specs.declared.names.FileNo.{FileNo}
use Rattle.file_tables.proofs.Names.{absent_by_name, by_name_at, named as its_name}
use Rattle.file_tables.proofs.Pages.{page_none}
use Rattle.machine_names.specs.PageWords.{zero_words}
use Rattle.file_tables.specs.declared.tables.FileTables.{FileTables}
use Rattle.file_tables.specs.Tables.{file_of, IsThere, OpenStay, files_of, open_of}
use Rattle.monitor_core.specs.declared.panel.Panel.{Panel}
use Rattle.step_shown.specs.declared.reply.Reply.{Reply}
use Rattle.step_shown.specs.declared.reply.Reply.TheVariants.{Nothing, One, Page as ShowsPage}
use Rattle.monitor_core.specs.declared.system.System.{System}
use Rattle.console_access.specs.declared.writing.Barred.{Barred}
use Rattle.monitor_calls.specs.Jobs.{jobs_of}
use Rattle.step_shown.specs.Replies.{FitsReply, page_items, reply_items}
use Rattle.monitor_core.specs.Systems.{Did, FitsPages, IsWithin, named, state_of}
use Rattle.monitor_calls.specs.Makings.{Makes}
use Rattle.console_access.specs.Writing.{IsRowWritten, left_by, write_of}
use Rattle.monitor_core.proofs.FileReferences.{named_result, page_is, row_files, row_named, write_filed, write_named}
use Rattle.monitor_core.proofs.JobDid.{did_still, was_granted}
use Rattle.monitor_core.proofs.NamedPages.{filed_made, named_made}
use Rattle.monitor_core.proofs.Systems.{fits_left, lost_still, serials_made}

some_is : {X : Type 0} (o : Option X) → is_some o ≡ true → (x : X) × (o ≡ Some x)
some_is None h = absurd (cc h)
some_is (Some x) h = (x, refl)

-- a file that is there
pub file_there : (t : FileTables) (f : ℕ) → IsThere t f → fin.get (files_of t) (name_of t.dir f) ≡ Some (file_at t.lengths f)
file_there t f there = by_name_at t.dir t.sound.numbers (file_at t.lengths) f (name_of t.dir f) (its_name t.dir f there)

-- what is found by a name
module _ (t : FileTables) (name : List ℕ) where
  abbrev IsFound : Option FileNo → Type 0
  IsFound o = MatchOption o (fin.get (files_of t) name ≡ None) (λ f. IsThere t f.0 × (name_of t.dir f.0 ≡ name))

  pub file_found : (o : Option FileNo) → IsFound o → is_some o ≡ true → (file : PlainFile) × (fin.get (files_of t) name ≡ Some file)
  file_found None found some = absurd (cc some)
  file_found (Some f) found some = (file_at t.lengths f.0, ap (fin.get (files_of t)) (sym found.1) ∙ file_there t f.0 found.0)

  pub is_missing : (o : Option FileNo) → IsFound o → ((f : FileNo) → o ≡ Some f → ⊥) → fin.get (files_of t) name ≡ None
  is_missing None found not = found
  is_missing (Some f) found not = absurd (not f refl)

  pub file_missing : (o : Option FileNo) → IsFound o → is_some o ≡ false → fin.get (files_of t) name ≡ None
  file_missing None found none = found
  file_missing (Some f) found none = absurd (cc none)

-- whether there may be a file more
pub is_room : (b : Bool) (n : ℕ) → (IsTrue b ↔ (n < MOST_FILES)) → b ≡ true → n < MOST_FILES
is_room b n tells is = tells.0 is

pub no_room : (b : Bool) (n : ℕ) → (IsTrue b ↔ (n < MOST_FILES)) → b ≡ false → MOST_FILES ≤ n
no_room b n tells is = elim (cases_lt n MOST_FILES) [
  | inl few ↦ absurd (let no : true ≡ false = sym (tells.1 few) ∙ is in cc no)
  | inr many ↦ many
]

-- what a file names, as the plain pages have it
pub page_at_file : {P : Type 0} (means : PagesMeaning P) (p : P) (plain : NumberedPages) (f page : ℕ) → Agrees means p plain → page_at plain (in_file (file_page f page)) ≡ means.filed p (file_page f page)
unfolding page_at
page_at_file means p plain f page a = ap (λ (g : FilePage ℕ → Option PageName). g (file_page f page)) (sym a.filed)

-- the word behind those of a row
pub words_end : (row : WordRow) (page offset : ℕ) → FitsRow offset row → page * PAGE_WORDS + offset + row.count ≡ page * PAGE_WORDS + offset + length (take row.count row.words)
words_end row page offset fits = let all : length (take row.count row.words) ≡ row.count = length-take-le row.count row.words (omega (arith, fits.most, fits.room)) in omega (arith, all)

-- the files once one reaches to a word
pub reaches : (old new : FileTables) (f end : ℕ) (file : PlainFile) → file_of old f ≡ Some file → IsSomeAnd (file_of old f) (λ x. files_of new ≡ fin.insert (files_of old) (name_of old.dir f) (reaching LARGEST_BYTE end x)) → files_of new ≡ fin.insert (files_of old) (name_of old.dir f) (reaching LARGEST_BYTE end file)
reaches old new f end file is told = subst (λ o. IsSomeAnd o (λ x. files_of new ≡ fin.insert (files_of old) (name_of old.dir f) (reaching LARGEST_BYTE end x))) is told

-- what is shown of a file's page: nothing, where there is no such file or page
module _ {P : Type 0} {b : _} (m : System P b) (name : List ℕ) (page : ℕ) (d : DrumWords) (fits : FitsPages m d) where
  no_items : page_at (state_of m d).pages (spot_named name page) ≡ None → page_items (state_of m d) name page ≡ []
  no_items none = ap (λ o. option_map_or (λ n. PageLine name page ∷ words_shown 0 (words_of (state_of m d).pages n)) o []) none

  absent_page : fin.get (files_of m.files) name ≡ None → page_at (state_of m d).pages (spot_named name page) ≡ None
  unfolding page_at
  absent_page none = page_none m.files.dir m.files.sound.numbers (b.means.plain m.pages d).files fits.filed (record { file = name; page = page }) (absent_by_name m.files.dir m.files.sound.numbers (file_at m.files.lengths) name none)

  pub no_file_items : fin.get (files_of m.files) name ≡ None → page_items (state_of m d) name page ≡ []
  no_file_items none = no_items (absent_page none)

  module _ (f : ℕ) (there : IsThere m.files f) (is : name_of m.files.dir f ≡ name) where
    its_page : page_at (state_of m d).pages (spot_named name page) ≡ page_at (b.means.plain m.pages d) (in_file (file_page f page))
    its_page = subst (λ n. page_at (state_of m d).pages (spot_named n page) ≡ page_at (b.means.plain m.pages d) (in_file (file_page f page))) is (page_is m.files.dir m.files.sound.numbers f page there (b.means.plain m.pages d) fits.filed)

    pub no_page_items : page_at (b.means.plain m.pages d) (in_file (file_page f page)) ≡ None → page_items (state_of m d) name page ≡ []
    no_page_items none = no_items (its_page ∙ none)

    -- its line and its words, where it is there
    pub some_items : (n : PageName) → page_at (b.means.plain m.pages d) (in_file (file_page f page)) ≡ Some n → page_items (state_of m d) name page ≡ PageLine name page ∷ words_shown 0 (words_at (b.means.plain m.pages d) (in_file (file_page f page)))
    some_items n some =
        ap (λ o. option_map_or (λ n. PageLine name page ∷ words_shown 0 (words_of (state_of m d).pages n)) o []) (its_page ∙ some)
        ∙ ap (λ o. PageLine name page ∷ words_shown 0 (option_map_or (words_of (b.means.plain m.pages d)) o zero_words)) (sym some)

-- the page that a file names, if it names one
pub none_there : {X : Type 0} (o : Option X) (none : Bool) → is_some o ≡ not none → none ≡ true → o ≡ None
none_there None none is h = refl
none_there (Some x) none is h = absurd (let no : true ≡ false = is ∙ ap not h in cc no)

pub some_there : {X : Type 0} (o : Option X) (none : Bool) → is_some o ≡ not none → none ≡ false → (x : X) × (o ≡ Some x)
some_there None none is h = absurd (let no : false ≡ true = is ∙ ap not h in cc no)
some_there (Some x) none is h = (x, refl)

-- a look at a file, under its name
pub did_look : {P : Type 0} {b : _} (m : System P b) (name : List ℕ) (f page : ℕ) → name_of m.files.dir f ≡ name → (reply : List ℕ → Reply) → FitsReply (reply name)
    → ((d : DrumWords) → FitsPages m d → ◌≡◌ {A = Effect} (outer (state_of m d) (Page (name_of m.files.dir f) page)) (record { state = state_of m d; items = reply_items (state_of m d) (reply (name_of m.files.dir f)) }))
    → Did m m (Outer (Page name page)) (reply name)
did_look m name f page is reply fits shows =
    subst (λ n. Did m m (Outer (Page n page)) (reply n)) is
    (did_still m m refl refl refl refl refl refl (Page (name_of m.files.dir f) page) (reply (name_of m.files.dir f)) (subst (λ n. FitsReply (reply n)) (sym is) fits) shows)

module _ {P : Type 0} {b : _} (m : System P b) (name : List ℕ) where
  -- FILE, where there is one of the name, and where there are as many as there may be
  pub file_exists : (file : PlainFile) (d : DrumWords) → fin.get (files_of m.files) name ≡ Some file → outer (state_of m d) (File name) ≡ refused (state_of m d) (Exists name)
  file_exists file d is =
      let s = state_of m d in
      outer_file s name ∙ ap (λ o. cond (is_some o) (refused s (Exists name)) (cond (nat_lt (fin.len s.files) MOST_FILES) (record { state = record s { files = fin.insert s.files name new_file }; items = [] }) (refused s (FilesFull name)))) is

  pub files_are_full : (d : DrumWords) → fin.get (files_of m.files) name ≡ None → MOST_FILES ≤ fin.len (files_of m.files) → outer (state_of m d) (File name) ≡ refused (state_of m d) (FilesFull name)
  files_are_full d none many =
      let s = state_of m d in
      let no : nat_lt (fin.len (files_of m.files)) MOST_FILES ≡ false = grind (arith, nat_tests) in
      outer_file s name ∙ ap (λ o. cond (is_some o) (refused s (Exists name)) (cond (nat_lt (fin.len s.files) MOST_FILES) (record { state = record s { files = fin.insert s.files name new_file }; items = [] }) (refused s (FilesFull name)))) none
      ∙ ap (λ c. cond c (record { state = record s { files = fin.insert s.files name new_file }; items = [] }) (refused s (FilesFull name))) no

  -- WORDS and PAGE, where there is none of the name
  pub words_of_none : (page offset : ℕ) (row : WordRow) (d : DrumWords) → fin.get (files_of m.files) name ≡ None → outer (state_of m d) (Words name page offset row) ≡ refused (state_of m d) (NoFile name)
  words_of_none page offset row d none =
      let s = state_of m d in
      outer_words s name page offset row ∙ ap (λ o. option_map_or (λ f. written s name page offset (take row.count row.words) f (reference s.pages (spot_named name page) Write console)) o (refused s (NoFile name))) none

  pub page_of_none : (page : ℕ) (d : DrumWords) → fin.get (files_of m.files) name ≡ None → outer (state_of m d) (Page name page) ≡ refused (state_of m d) (NoFile name)
  page_of_none page d none =
      let s = state_of m d in
      outer_page s name page ∙ ap (λ (o : Option PlainFile). option_map_or (λ f. shown_by s page (page_at s.pages (spot_named name page))) o (refused s (NoFile name))) none
    where
      shown_by : PlainState → ℕ → Option PageName → Effect
      shown_by s page o = option_map_or (λ n. record { state = s; items = PageLine name page ∷ words_shown 0 (words_of s.pages n) }) o (refused s (NoFilePage name))

  -- an empty file is made
  pub did_file : (m' : System P b) (f : ℕ) → fin.get (files_of m.files) name ≡ None → fin.len (files_of m.files) < MOST_FILES → files_of m'.files ≡ fin.insert (files_of m.files) name new_file → Creates m.files.dir m'.files.dir f name → OpenStay m.files m'.files
      → m'.pages ≡ m.pages → m'.tree ≡ m.tree → m'.jobs.items ≡ m.jobs.items → m'.typed.items ≡ m.typed.items → m'.panel ≡ m.panel → Did m m' (Outer (File name)) Nothing
  did_file m' f none few files created held same tree jobs typed panel = record {
    each = λ d fits.
        let s = state_of m d in
        let p = b.means.plain m.pages d in
        let yes : nat_lt (fin.len (files_of m.files)) MOST_FILES ≡ true = grind (arith, nat_tests) in
        let dir : m'.files.dir ≡ fin.insert m.files.dir f name = created.put in
        let filed : AreFiled m'.files.dir p.files = subst (λ t. AreFiled t p.files) (sym dir) (filed_made m.files.dir f name created.least.free p.files fits.filed) in
        let keys : pages_named m'.files.dir p.files ≡ pages_named m.files.dir p.files = ap (λ t. pages_named t p.files) dir ∙ named_made m.files.dir f name created.least.free p.files fits.filed in
        let open_is : open_of m'.files ≡ open_of m.files = held.named in
        let pages : named m'.files.dir (b.means.plain m'.pages d) ≡ named m.files.dir p = ap (λ x. named m'.files.dir (b.means.plain x d)) same ∙ (λ i. record (named m.files.dir p) { files = keys i }) in
        let mine : state_of m' d ≡ record s { files = fin.insert s.files name new_file } =
        λ i. record s { pages = pages i; files = files i; jobs = jobs_of (open_is i) (typed i) (jobs i); forks = (tree i).forks; fork_serials = (tree i).serials; clock = (panel i).clock; trace = (panel i).trace } in
        let effect = apply_outer s (File name) ∙ outer_file s name
        ∙ ap (λ o. cond (is_some o) (refused s (Exists name)) (cond (nat_lt (fin.len s.files) MOST_FILES) (record { state = record s { files = fin.insert s.files name new_file }; items = [] }) (refused s (FilesFull name)))) none
        ∙ ap (λ c. cond c (record { state = record s { files = fin.insert s.files name new_file }; items = [] }) (refused s (FilesFull name))) yes in (
          record { pages = subst (λ x. b.means.fits x d) (sym same) fits.pages; filed = subst (λ x. AreFiled m'.files.dir (b.means.plain x d).files) (sym same) filed },
          mine ∙ ap (λ e. e.state) (sym effect),
          ap (λ e. e.items) (sym effect),
        );
    shown = tt;
    within = λ entries w. record {
      ticks = omega (arith, ap (λ (x : Panel). x.clock) panel, w.ticks);
      units = λ g e. omega (arith, w.units g (ap (λ (x : PlainTree). fin.get x.forks g.name) (sym tree) ∙ e));
      serials = λ t. omega (arith, ap (λ x. b.means.serial x t) same, w.serials t);
    };
    most = ap b.means.most same;
    loses = lost_still m m' same;
  }

module _ {P : Type 0} {b : _} (m : System P b) (f page : ℕ) (there : IsThere m.files f) (file : PlainFile) (found : fin.get (files_of m.files) (name_of m.files.dir f) ≡ Some file) where
  abbrev name : List ℕ
  name = name_of m.files.dir f

  -- what is shown of a page of the file
  shown_as : (d : DrumWords) → FitsPages m d → (o : Option PageName) → page_at (b.means.plain m.pages d) (in_file (file_page f page)) ≡ o
      → page_at (state_of m d).pages (spot_named name page) ≡ o
  shown_as d fits o is = page_is m.files.dir m.files.sound.numbers f page there (b.means.plain m.pages d) fits.filed ∙ is

  outer_shown : (d : DrumWords) → outer (state_of m d) (Page name page) ≡ option_map_or (λ n. record { state = state_of m d; items = PageLine name page ∷ words_shown 0 (words_of (state_of m d).pages n) }) (page_at (state_of m d).pages (spot_named name page)) (refused (state_of m d) (NoFilePage name))
  outer_shown d =
      let s = state_of m d in
      outer_page s name page ∙ ap (λ (o : Option PlainFile). option_map_or (λ x. shown_by s (page_at s.pages (spot_named name page))) o (refused s (NoFile name))) found
    where
      shown_by : PlainState → Option PageName → Effect
      shown_by s o = option_map_or (λ n. record { state = s; items = PageLine name page ∷ words_shown 0 (words_of s.pages n) }) o (refused s (NoFilePage name))

  pub page_is_none : (d : DrumWords) → FitsPages m d → page_at (b.means.plain m.pages d) (in_file (file_page f page)) ≡ None → outer (state_of m d) (Page name page) ≡ refused (state_of m d) (NoFilePage name)
  page_is_none d fits none =
      outer_shown d ∙ ap (λ o. option_map_or (λ n. record { state = state_of m d; items = PageLine name page ∷ words_shown 0 (words_of (state_of m d).pages n) }) o (refused (state_of m d) (NoFilePage name))) (shown_as d fits None none)

  pub page_is_shown : (n : PageName) (d : DrumWords) → FitsPages m d → page_at (b.means.plain m.pages d) (in_file (file_page f page)) ≡ Some n → ◌≡◌ {A = Effect} (outer (state_of m d) (Page name page)) (record { state = state_of m d; items = reply_items (state_of m d) (ShowsPage name page) })
  page_is_shown n d fits is =
      let s = state_of m d in
      let here = shown_as d fits (Some n) is in
      outer_shown d ∙ ap (λ o. option_map_or (λ n. record { state = s; items = PageLine name page ∷ words_shown 0 (words_of s.pages n) }) o (refused s (NoFilePage name))) here
      ∙ (λ i. record { state = s; items = option_map_or (λ n. PageLine name page ∷ words_shown 0 (words_of s.pages n)) (sym here i) [] })

  -- words are put into a page of the file
  module _ (offset : ℕ) (row : WordRow) (m' : System P b) (tree : m'.tree ≡ m.tree) (jobs : m'.jobs.items ≡ m.jobs.items) (typed : m'.typed.items ≡ m.typed.items) (panel : m'.panel ≡ m.panel) (made : Makes b.means m.pages m'.pages console 2) (loses : MayLose b.means m.pages m'.pages) where
    abbrev words : List ℕ
    words = take row.count row.words

    outer_written : (d : DrumWords) → FitsPages m d → outer (state_of m d) (Words name page offset row) ≡ written (state_of m d) name page offset words file (named_result m.files.dir (reference (b.means.plain m.pages d) (in_file (file_page f page)) Write console))
    outer_written d fits =
        let s = state_of m d in
        outer_words s name page offset row
        ∙ ap (λ o. option_map_or (λ x. written s name page offset words x (reference s.pages (spot_named name page) Write console)) o (refused s (NoFile name))) found
        ∙ ap (written s name page offset words file) (write_named m.files.dir m.files.sound.numbers f page there (b.means.plain m.pages d) fits.filed console)

    words_within : (entries : ℕ) → IsWithin m entries → IsWithin m' (entries + 1)
    words_within entries w = record {
      ticks = omega (arith, ap (λ (x : Panel). x.clock) panel, w.ticks);
      units = λ g e. omega (arith, w.units g (ap (λ (x : PlainTree). fin.get x.forks g.name) (sym tree) ∙ e));
      serials = serials_made m m' entries console w made;
    }

    -- they are not, where the drum is full
    module _ (barred : Barred) (same : m'.files ≡ m.files) (told : (d : DrumWords) → b.means.fits m.pages d → b.means.fits m'.pages d × IsRowWritten {X = Unit {0}} (b.means.plain m.pages d) (b.means.plain m'.pages d) (in_file (file_page f page)) console offset words (Err barred)) where
      refuses : (s : PlainState) (ready : NumberedPages) (r : Referred nat_cmp) → write_of r ≡ left_by {X = Unit {0}} ready (Err barred) → written s name page offset words file (named_result m.files.dir r) ≡ refused s (FileFull name)
      refuses s ready (granted q) h = absurd (cc h)
      refuses s ready (denied kind) h = refl
      refuses s ready full h = refl

      pub did_not_write : (called : List ℕ) → name ≡ called → IsFileName called → Did m m' (Outer (Words called page offset row)) (One (Refusal (FileFull called)))
      did_not_write called is fits_name = subst (λ n. Did m m' (Outer (Words n page offset row)) (One (Refusal (FileFull n)))) is (record {
        each = λ d fits.
            let s = state_of m d in
            let wrote = told d fits.pages in
            let mine : state_of m' d ≡ s = λ i. record s {
              pages = named (same i).dir (wrote.1.stays i);
              files = files_of (same i);
              jobs = jobs_of (open_of (same i)) (typed i) (jobs i);
              forks = (tree i).forks;
              fork_serials = (tree i).serials;
              clock = (panel i).clock;
              trace = (panel i).trace;
            } in
            let effect = apply_outer s (Words name page offset row) ∙ outer_written d fits ∙ refuses s wrote.1.ready (reference (b.means.plain m.pages d) (in_file (file_page f page)) Write console) wrote.1.readied.refers in (
              fits_left m m' same d wrote.0 (ap (λ x. x.files) wrote.1.stays) fits,
              mine ∙ ap (λ e. e.state) (sym effect),
              ap (λ e. e.items) (sym effect),
            );
        shown = subst IsFileName (sym is) fits_name;
        within = words_within;
        most = made.most;
        loses = loses;
      })

    -- and the file reaches behind them
    module _ (end : ℕ) (is_end : end ≡ page * PAGE_WORDS + offset + length words) (files : files_of m'.files ≡ fin.insert (files_of m.files) name (reaching LARGEST_BYTE end file)) (dir : m'.files.dir ≡ m.files.dir) (held : OpenStay m.files m'.files)
        (told : (d : DrumWords) → b.means.fits m.pages d → b.means.fits m'.pages d × IsRowWritten {X = Unit {0}} (b.means.plain m.pages d) (b.means.plain m'.pages d) (in_file (file_page f page)) console offset words (Ok tt)) where
      pub did_write : (called : List ℕ) → name ≡ called → Did m m' (Outer (Words called page offset row)) Nothing
      did_write called is = subst (λ n. Did m m' (Outer (Words n page offset row)) Nothing) is (record {
        each = λ d fits.
            let s = state_of m d in
            let p = b.means.plain m.pages d in
            let q = b.means.plain m'.pages d in
            let wrote = told d fits.pages in
            let ready = wrote.1.ready in
            let open_is : open_of m'.files ≡ open_of m.files = held.named in
            let refers : reference p (in_file (file_page f page)) Write console ≡ granted ready = was_granted (reference p (in_file (file_page f page)) Write console) ready wrote.1.readied.refers in
            let ready_filed = write_filed m.files.dir m.files.sound.numbers f page there p fits.filed console ready refers in
            let stored : q ≡ stored_row ready (in_file (file_page f page)) offset words = wrote.1.store in
            let q_files : q.files ≡ ready.files = ap (λ x. x.files) stored ∙ row_files m.files.dir m.files.sound.numbers f page there words offset ready in
            let pages : stored_row (named m.files.dir ready) (spot_named name page) offset words ≡ named m.files.dir q = row_named m.files.dir m.files.sound.numbers f page there words offset ready ready_filed ∙ ap (named m.files.dir) (sym stored) in
            let mine : state_of m' d ≡ record s { pages = named m.files.dir q; files = fin.insert s.files name (reaching LARGEST_BYTE end file) } =
            λ i. record s { pages = named (dir i) q; files = files i; jobs = jobs_of (open_is i) (typed i) (jobs i); forks = (tree i).forks; fork_serials = (tree i).serials; clock = (panel i).clock; trace = (panel i).trace } in
            let went : ◌≡◌ {A = Effect} (written s name page offset words file (granted (named m.files.dir ready))) (record { state = record s { pages = named m.files.dir q; files = fin.insert s.files name (reaching LARGEST_BYTE end file) }; items = [] }) =
            λ i. record { state = record s { pages = pages i; files = fin.insert s.files name (reaching LARGEST_BYTE (sym is_end i) file) }; items = [] } in
            let effect = apply_outer s (Words name page offset row) ∙ outer_written d fits ∙ ap (λ r. written s name page offset words file (named_result m.files.dir r)) refers ∙ went in (
              record { pages = wrote.0; filed = subst (λ t. AreFiled t q.files) (sym dir) (subst (AreFiled m.files.dir) (sym q_files) ready_filed) },
              mine ∙ ap (λ e. e.state) (sym effect),
              ap (λ e. e.items) (sym effect),
            );
        shown = tt;
        within = words_within;
        most = made.most;
        loses = loses;
      })
