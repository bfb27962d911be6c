-- What commands leave that are done: a program runs from its file, a job is gone, a file is deleted.
use Rattle.std.proofs.Common.{◌≡◌, ◌≢◌, inl, inr, ℕ, ◌<◌, ◌||◌, Bool, true, false, cond, not, List, [], ◌∷◌, Option, None, Some, refl, sym, ◌∙◌, ap, arith}
use Rattle.std.specs.Prelude.{IsSome, codes, if◌then◌else◌, is_some, nat_lt, slice_get}
use Rattle.std.specs.Option.{option_and_then, option_map_or, unwrap_or}
use Rattle.std.specs.Cmp.{nat_cmp_total}
use Rattle.std.specs.Cmp.Lexicographic.{nat_list_cmp_total}
use Rattle.std.specs.FinMap as map
use Rattle.std.specs.FinMap.{nat_cmp-IsAntisymmetric}
use Rattle.std.proofs.lemmas.Bool.{cases_Bool}
use Rattle.std.proofs.lemmas.Bool.Decides.{nat_tests}
use Rattle.machine_names.proofs.Keys.{get_gone, get_gone_other, get_put, get_put_other}
use Rattle.machine_names.specs.Bounds.{IsTerminal}
use Rattle.machine_names.specs.Orders.{FilePage, same_fork}
use Rattle.machine_names.specs.PageWords.{zero_words}
use Rattle.machine_names.specs.declared.character.TheConstants.{CARRIAGE_RETURN, LINE_FEED, PROMPT}
use Rattle.machine_names.specs.declared.names.ForkName.{ForkName}
use Rattle.machine_names.specs.declared.names.PageName.{PageName}
use Rattle.machine_names.specs.declared.names.TheConstants.{MOST_FORKS, SPACE_PAGES}
use Rattle.machine_names.specs.declared.names.Tty.{Tty}
use Rattle.plain_files.specs.OpenFiles.{OpenFile, times_open}
use Rattle.plain_typing.specs.declared.command.Command.TheVariants as command
use Rattle.plain_typing.specs.Characters.{read_as}
use Rattle.plain_pages.specs.declared.map.MapEntry.TheVariants.{Names}
use Rattle.plain_pages.specs.FilePages.{without_file}
use Rattle.plain_pages.specs.Maps.{entry_at, single_link}
use Rattle.plain_pages.specs.PlainPages.{Map, NamedPages}
use Rattle.plain_pages.specs.References.{in_file, page_at, words_at, words_of}
use Rattle.plain_pages.proofs.ChainEquations.{named_chain}
use Rattle.plain_pages.proofs.Counts.{total_insert}
use Rattle.plain_model.specs.declared.fork.Fork.{Fork}
use Rattle.plain_model.specs.Commands.{begun_at, commanded, forks_and_pages, in_program, logged_out, program_entry, prompted, running, start_address, told, with_program}
use Rattle.plain_model.specs.FileCalls.{times_held}
use Rattle.plain_model.specs.FileEvents.{page_named}
use Rattle.plain_model.specs.Inferiors.{is_in_branch, is_inferior}
use Rattle.plain_model.specs.InterruptCalls.{living_codes}
use Rattle.plain_model.specs.State.{PlainState, PlainJob}
use Rattle.plain_model.specs.Trees.{changed, tree_of}
use Rattle.plain_model.specs.TypeEvents.{typed_all, typed_at, typed_one}
use Rattle.plain_model.specs.Unit.{Effect, printed}
use Rattle.plain_model.proofs.ForkMaps.{cases_name, get_put as fork_put, get_put_other as fork_other}
use Rattle.fork_tree.proofs.Branches.{left_of}
use Rattle.fork_tree.proofs.Killing.{killed_branch}
use Rattle.fork_tree.proofs.Leaves.{inferior_lives, inferior_over}
use Rattle.fork_tree.proofs.Slots.{empty_of, held_lives, names_same, some_of}
use Rattle.plain_laws.specs.CommandLaws.{BeginsProgram, IsCommand, LeavesNothing, Tells, line_done, page_of_file, page_of_fork, without_line, program_access}
use Rattle.plain_laws.specs.MappedLaws.{KeepsPage, WritesAll}
use Rattle.plain_laws.specs.TypeLaws.{typed}
use Rattle.plain_laws.specs.Whole.{IsWholeMachine}
use Rattle.plain_laws.proofs.Holders.{named_by}
use Rattle.plain_laws.proofs.Killed.{AreFewer, below_fewer, below_forks, killed_fewer}
use Rattle.plain_laws.proofs.Programs.{HasProgram, filed_kept}
use Rattle.plain_laws.proofs.RowsPut.{file_page}
use Rattle.plain_laws.proofs.TypedLines.{behind_items, end_typed, first_typed, line_is, typed_here}
use Rattle.plain_laws.proofs.WholeCommands.{alone, has_program, logged_out_whole, only_one, top_alone, with_job_whole}
use Rattle.plain_laws.proofs.WholeJfns.{nobody_holds}
use Rattle.plain_laws.proofs.WrittenFiles.{copies_leave}

-- a page of a file is as it was where it is the same page, with the same words
page_kept : (p q : NamedPages) → q.files ≡ p.files → (at : FilePage (List ℕ)) → ((n : PageName) → map.get p.files at ≡ Some n → map.get q.objects n ≡ map.get p.objects n) → KeepsPage p q at
page_kept p q files at same = (here ∙ sym (file_page p at), words)
  where
    here : page_at q (in_file at) ≡ map.get p.files at
    here = file_page q at ∙ ap (λ m. map.get m at) files

    by : (o : Option PageName) → map.get p.files at ≡ o → option_map_or (words_of q) o zero_words ≡ option_map_or (words_of p) o zero_words
    by None none = refl
    by (Some n) is = ap (λ (x : Option (List ℕ)). unwrap_or x zero_words) (same n is)

    words : words_at q (in_file at) ≡ words_at p (in_file at)
    words = ap (λ (o : Option PageName). option_map_or (words_of q) o zero_words) here ∙ by (map.get p.files at) refl ∙ ap (λ (o : Option PageName). option_map_or (words_of p) o zero_words) (sym (file_page p at))

-- what is shown before a command is done
abbrev ended : Tty → Effect → Effect
ended t e = behind_items (printed t (CARRIAGE_RETURN ∷ LINE_FEED ∷ [])) e

-- the job without its line
module _ (s : PlainState) (t : Tty) (j : PlainJob) where
  abbrev left : PlainJob
  left = record j { line = [] }

  abbrev before : PlainState
  before = without_line s t j

  left_there : map.get before.jobs t.0 ≡ Some left
  left_there = get_put nat_cmp_total nat_cmp-IsAntisymmetric s.jobs t.0 t.0 left refl

  before_whole : IsWholeMachine s → map.get s.jobs t.0 ≡ Some j → IsWholeMachine before
  before_whole w is = with_job_whole s w t j left is refl refl

-- RUN
module _ (s : PlainState) (t : Tty) (j : PlainJob) (name : List ℕ) (is : IsCommand s t j (command.Run name)) where
  abbrev found : Option PageName → Effect
  found o = option_map_or (λ page. record { state = running (before s t j) t (left s t j) name (start_address s name); items = [] }) o (told (before s t j) t (codes "?NO PROGRAM"))

  run_by : map.contains_key s.files name ≡ true → (o : Option PageName) → map.get s.pages.files (page_of_file name 0) ≡ o → line_done s t ≡ ended t (found o)
  unfolding commanded
  run_by there o at =
      line_is s t j (command.Run name) is
      ∙ ap (λ b. ended t (if b then found (page_at s.pages (page_named name 0)) else told (before s t j) t (codes "?NO FILE"))) there
      ∙ ap (λ x. ended t (found x)) (file_page s.pages (page_of_file name 0) ∙ at)

  pub run_no_file : map.contains_key s.files name ≡ false → Tells s t j (codes "?NO FILE")
  unfolding commanded
  run_no_file absent = line_is s t j (command.Run name) is ∙ ap (λ b. ended t (if b then found (page_at s.pages (page_named name 0)) else told (before s t j) t (codes "?NO FILE"))) absent

  pub run_no_program : map.contains_key s.files name ≡ true → map.get s.pages.files (page_of_file name 0) ≡ None → Tells s t j (codes "?NO PROGRAM")
  run_no_program there none = run_by there None none

  module _ (w : IsWholeMachine s) where
    pub run_is : IsSome (map.get s.pages.files (page_of_file name 0)) → line_done s t ≡ ended t (record { state = running (before s t j) t (left s t j) name (start_address s name); items = [] })
    run_is some = let n = some_of (map.get s.pages.files (page_of_file name 0)) some in run_by (w.files.placed (page_of_file name 0) some).0 (Some n.0) n.1

    module _ (f : Fork) (lives : map.get s.forks j.top ≡ Some f) where
      abbrev address : ℕ
      address = start_address s name

      was : IsWholeMachine (before s t j)
      was = before_whole s t j w is.job

      abbrev bare : PlainState
      bare = alone (before s t j) was t (left s t j) (left_there s t j)

      fewer : AreFewer s.pages bare.pages
      fewer = below_fewer j.top (forks_and_pages (before s t j)) w.pages

      program : HasProgram j.top name SPACE_PAGES bare.pages (with_program SPACE_PAGES bare.pages j.top name)
      program = has_program (before s t j) was t (left s t j) (left_there s t j) name address

      top : (g : Fork) × (map.get bare.forks j.top ≡ Some g) × (g.slot ≡ 1) × (g.superior ≡ None)
      top = top_alone (before s t j) was t (left s t j) (left_there s t j)

      only : (g : ForkName) → map.contains_key bare.forks g ≡ true → g.tty.0 ≡ t.0 → g ≡ j.top
      only g there job = only_one (before s t j) was t (left s t j) (left_there s t j) g there job

      top_is : top.0 ≡ f
      top_is = let both : Some top.0 ≡ Some f = sym (below_forks j.top (forks_and_pages (before s t j)) j.top top.0 top.1) ∙ lives in cc both

      named : f.name ≡ j.top
      named = w.tree.slotted.own j.top f lives

      put : (changed bare.forks (begun_at address) (map.get bare.forks j.top)) ≡ map.insert bare.forks f.name (begun_at address f)
      put = ap (changed bare.forks (begun_at address)) (top.1 ∙ ap Some top_is)

      pub begins_program : BeginsProgram s (running (before s t j) t (left s t j) name address) t j name f
      begins_program = record {
        named = λ page n within filed. program.entries page within ∙ ap (λ o. Some (program_entry o)) (ap (λ m. map.get m (page_of_file name page)) fewer.files ∙ filed);
        empty = λ page within none. program.entries page within ∙ ap (λ o. Some (program_entry o)) (ap (λ m. map.get m (page_of_file name page)) fewer.files ∙ none);
        files = refl;
        filed = program.files ∙ fewer.files;
        kept = λ at. page_kept s.pages (with_program SPACE_PAGES bare.pages j.top name) (program.files ∙ fewer.files) at (λ n filed.
            let there : map.get bare.pages.files at ≡ Some n = ap (λ m. map.get m at) fewer.files ∙ filed in
            program.filed at n there ∙ filed_kept s.pages bare.pages fewer.whole fewer.objects at n there);
        begins = ap (λ m. map.get m j.top) put ∙ fork_put bare.forks f.name j.top (begun_at address f) (sym named);
        alone = λ g job there. elim (cases_name g f.name) [
          | inl e ↦ e ∙ named
          | inr ne ↦ only g (sym (ap is_some (ap (λ m. map.get m g) put ∙ fork_other bare.forks f.name g (begun_at address f) ne)) ∙ there) job
        ];
        job = get_put nat_cmp_total nat_cmp-IsAntisymmetric (before s t j).jobs t.0 t.0 (record (in_program (left s t j)) { start = Some address; codes = living_codes (running (before s t j) t (left s t j) name address).forks j.codes }) refl;
      }

-- what a program writes goes into copies
pub copies_made : (s u : PlainState) (t : Tty) (j : PlainJob) (name : List ℕ) (f : Fork) (page : ℕ) (n : PageName) (q : NamedPages) (words : List (ℕ × ℕ)) (at : FilePage (List ℕ)) → IsWholeMachine u → IsTerminal t → BeginsProgram s u t j name f
    → page < SPACE_PAGES → map.get s.pages.files (page_of_file name page) ≡ Some n → WritesAll u.pages q t (page_of_fork j.top page) words → KeepsPage u.pages q at
copies_made s u t j name f page n q words at w terminal begins within filed goes =
    let here = page_of_fork j.top page in
    copies_leave u.pages q w.pages t here (inl terminal) (single_link here program_access (Some n)) (record { slot = here; access = program_access })
    (named_chain (entry_at u.pages.maps) here n program_access (begins.named page n within filed)) refl words goes at

-- what is typed at a terminal without a job is lost
none_typed : (t : Tty) (text : List ℕ) (u : PlainState) → map.get u.jobs t.0 ≡ None → typed_all u t text ≡ record { state = u; items = [] }
unfolding typed_all
none_typed t [] u none = refl
none_typed t (c ∷ cs) u none = first_typed u t c cs (record { state = u; items = [] }) (nothing none) ∙ none_typed t cs u none
  where
    nothing : map.get u.jobs t.0 ≡ None → typed_at u t c ≡ record { state = u; items = [] }
    nothing none = ap (λ (o : Option PlainJob). option_map_or (λ k. typed_one k.mode u t k (read_as c)) o (record { state = u; items = [] })) none

-- LOGOUT
module _ (s : PlainState) (t : Tty) (j : PlainJob) (is : IsCommand s t j command.Logout) where
  abbrev gone : PlainState
  gone = logged_out (before s t j) t (left s t j)

  abbrev leaves : Effect
  leaves = record { state = gone; items = [] }

  pub logout_is : line_done s t ≡ ended t leaves
  unfolding commanded
  logout_is = line_is s t j command.Logout is

  job_gone : map.get gone.jobs t.0 ≡ None
  job_gone = get_gone nat_cmp_total nat_cmp-IsAntisymmetric (before s t j).jobs t.0 t.0 refl

  end_is : typed_at s t CARRIAGE_RETURN ≡ ended t leaves
  unfolding commanded
  end_is = end_typed s t j command.Logout is

  pub rest_lost : (more : List ℕ) → typed s t (CARRIAGE_RETURN ∷ more) ≡ line_done s t
  rest_lost more = typed_here s t j is.job (CARRIAGE_RETURN ∷ more) ∙ first_typed s t CARRIAGE_RETURN more (ended t leaves) end_is ∙ ap (ended t) (none_typed t more gone job_gone) ∙ sym logout_is

  module _ (w : IsWholeMachine s) where
    left_whole : IsWholeMachine gone
    left_whole = logged_out_whole (before s t j) (before_whole s t j w is.job) t (left s t j) (left_there s t j)

    fewer_left : AreFewer s.pages gone.pages
    fewer_left = killed_fewer (forks_and_pages (before s t j)) j.top w.pages

    no_fork : (f : ForkName) → f.tty.0 ≡ t.0 → map.contains_key gone.forks f ≡ false
    no_fork f job = elim (cases_Bool (map.contains_key gone.forks f)) [
      | inl lives ↦ absurd (let no : false ≡ true = sym (ap is_some (ap (map.get gone.jobs) job ∙ job_gone)) ∙ left_whole.homes f lives in cc no)
      | inr none ↦ none
    ]

    no_map : (f : ForkName) → f.tty.0 ≡ t.0 → map.get gone.pages.maps f ≡ None
    no_map f job = empty_of (map.get gone.pages.maps f) (sym (left_whole.forks f) ∙ no_fork f job)

    -- a fork of another job does not go with the top fork
    stays : (f : ForkName) → f.tty.0 ≢ t.0 → is_in_branch s.forks j.top f ≡ false
    stays f other = elim (cases_Bool (same_fork f j.top)) [
      | inl same ↦ absurd (other (ap (λ (n : ForkName). n.tty.0) (names_same f j.top same) ∙ w.own_tops t.0 j is.job))
      | inr apart ↦ ap (λ b. b || is_inferior s.forks j.top f) apart ∙ above
    ]
      where
        above : is_inferior s.forks j.top f ≡ false
        above = elim (cases_Bool (is_inferior s.forks j.top f)) [
          | inl below ↦
              let g = inferior_lives (tree_of s) w.tree j.top f below in
              let own = w.tree.slotted.own f g.0 g.1 in
              let over = inferior_over (tree_of s) w.tree j.top g.0 (held_lives s.forks w.tree.slotted f g.0 g.1) (ap (is_inferior s.forks j.top) own ∙ below) in
              absurd (other (ap (λ (n : ForkName). n.tty.0) (sym own) ∙ over.2 ∙ w.own_tops t.0 j is.job))
          | inr none ↦ none
        ]

    pub leaves_nothing : LeavesNothing s gone t
    leaves_nothing = record {
      job = job_gone;
      forks = λ f job. empty_of (map.get gone.forks f) (no_fork f job);
      maps = no_map;
      pages = λ n there. elim (named_by nat_list_cmp_total gone.pages left_whole.pages n there) [
        | inl e ↦ inl (e.0, e.1, λ job. (let no : None ≡ Some (Names n e.1) = sym (ap (λ (o : Option Map). option_and_then (λ (m : Map). slice_get m e.0.page) o) (no_map e.0.fork job)) ∙ e.2 in cc no), e.2)
        | inr e ↦ inr e
      ];
      jobs = λ u other. get_gone_other nat_cmp_total nat_cmp-IsAntisymmetric (before s t j).jobs t.0 u other ∙ get_put_other nat_cmp_total nat_cmp-IsAntisymmetric s.jobs t.0 u (left s t j) other;
      others = λ f other. ap (λ m. map.get m f) (killed_branch (forks_and_pages (before s t j)) j.top) ∙ left_of s.forks j.top f ∙ ap (λ b. cond (not b) (map.get s.forks f) None) (stays f other);
      files = refl;
      filed = fewer_left.files;
      kept = λ at. page_kept s.pages gone.pages fewer_left.files at (λ n filed. filed_kept s.pages gone.pages fewer_left.whole fewer_left.objects at n (ap (λ m. map.get m at) fewer_left.files ∙ filed));
    }

-- DELETE
module _ (s : PlainState) (t : Tty) (j : PlainJob) (name : List ℕ) (is : IsCommand s t j (command.Delete name)) where
  abbrev deletes : Bool → Bool → Effect
  deletes there busy =
      if there then (if busy then told (before s t j) t (codes "?FILE BUSY") else prompted (record (before s t j) { pages = without_file s.pages name; files = map.remove s.files name }) t [])
      else told (before s t j) t (codes "?NO FILE")

  delete_is : line_done s t ≡ ended t (deletes (map.contains_key s.files name) (nat_lt 0 (times_held (before s t j).jobs name)))
  unfolding commanded
  delete_is = line_is s t j (command.Delete name) is

  pub delete_no_file : map.contains_key s.files name ≡ false → Tells s t j (codes "?NO FILE")
  delete_no_file absent = delete_is ∙ ap (λ b. ended t (deletes b (nat_lt 0 (times_held (before s t j).jobs name)))) absent

  -- the JFNs are the same without the line
  as_often : times_held (before s t j).jobs name ≡ times_held s.jobs name
  unfolding times_held
  as_often =
      let counts = λ (k : PlainJob). times_open k.jfns name in
      let was : option_map_or counts (map.get s.jobs t.0) 0 ≡ counts j = ap (λ (o : Option PlainJob). option_map_or counts o 0) is.job in
      omega (arith, was, total_insert nat_cmp_total counts s.jobs t.0 (left s t j))

  pub delete_busy : IsWholeMachine s → (u n : ℕ) (k : PlainJob) (i : OpenFile) → map.get s.jobs u ≡ Some k → map.get k.jfns n ≡ Some i → i.file ≡ name → Tells s t j (codes "?FILE BUSY")
  delete_busy w u n k i job held stands =
      let there : map.contains_key s.files name ≡ true = ap (map.contains_key s.files) (sym stands) ∙ (w.files.jfns u k job n i held).2.0 in
      delete_is ∙ ap (λ b. ended t (deletes b (nat_lt 0 (times_held (before s t j).jobs name)))) there ∙ ap (λ b. ended t (deletes true b)) (ap (nat_lt 0) as_often ∙ counted)
    where
      none_of : (m : ℕ) → nat_lt 0 m ≡ false → m ≡ 0
      none_of m h = grind (arith, nat_tests)

      counted : nat_lt 0 (times_held s.jobs name) ≡ true
      counted = elim (cases_Bool (nat_lt 0 (times_held s.jobs name))) [
        | inl some ↦ some
        | inr none ↦ absurd (nobody_holds s.jobs name (none_of (times_held s.jobs name) none) u n k i job held stands)
      ]

  pub file_deleted : map.contains_key s.files name ≡ true → times_held s.jobs name ≡ 0
      → line_done s t ≡ record { state = record (before s t j) { pages = without_file s.pages name; files = map.remove s.files name }; items = printed t (CARRIAGE_RETURN ∷ LINE_FEED ∷ PROMPT ∷ []) }
  file_deleted there none = delete_is ∙ ap (λ b. ended t (deletes b (nat_lt 0 (times_held (before s t j).jobs name)))) there ∙ ap (λ b. ended t (deletes true b)) (ap (nat_lt 0) (as_often ∙ none))
