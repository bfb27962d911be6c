-- The calls on JFNs do the same in both, and leave what is others'.
use Rattle.std.proofs.Common.{◌≡◌, ◌≢◌, ℕ, Bool, true, false, cond, ◌&&◌, ◌||◌, List, [], ◌∷◌, All, Option, None, Some, inl, inr, refl, sym, ◌∙◌, ap, subst, arith}
use Rattle.std.specs.Prelude.{◌==◌, is_some, nat_lt, not, slice_index}
use Rattle.std.specs.List.{sum_by}
use Rattle.std.specs.Option.{option_and_then, option_map_or}
use Rattle.std.specs.Ordering.{nat_cmp}
use Rattle.std.specs.Cmp.{nat_cmp_total}
use Rattle.std.specs.Cmp.Lexicographic.{nat_list_cmp_total}
use Rattle.std.specs.FinMap as map
use Rattle.std.specs.FinMap.{nat_cmp-IsAntisymmetric}
use Rattle.std.proofs.lemmas.Bool.{cond_both, eq-eqb, eqb-true}
use Rattle.std.proofs.lemmas.List.Elements.{All-head, All-tail}
use Rattle.std.proofs.lemmas.List.Sums.{sum_by-cons}
use Rattle.machine_names.proofs.Keys as keys
use Rattle.machine_names.proofs.OrderLemmas.{name_cmp_apart}
use Rattle.machine_names.specs.Bounds.{IsTerminal}
use Rattle.machine_names.specs.FileNames.{file_named}
use Rattle.machine_names.specs.Orders.{name_cmp}
use Rattle.machine_names.specs.declared.names.ForkName.{ForkName}
use Rattle.machine_names.specs.declared.names.Tty.{Tty}
use Rattle.machine_names.specs.declared.names.TheConstants.{MOST_FILES}
use Rattle.word36.specs.Words.{bit, right}
use Rattle.plain_files.specs.declared.bounds.TheConstants.{LARGEST_BYTE}
use Rattle.plain_files.specs.declared.jfn.Mode.{Mode}
use Rattle.plain_files.specs.OpenFiles.{OpenFile, OpenFiles, free_jfn, opened_file, taken_file, times_open}
use Rattle.plain_files.specs.Sizes.{PlainFile, new_file}
use Rattle.plain_pages.specs.FilePages.{names_of_file, other_files, without_file}
use Rattle.plain_pages.specs.PlainPages.{NamedPages}
use Rattle.plain_pages.specs.WholePages.{AreWhole}
use Rattle.plain_pages.proofs.Counts.{total_without}
use Rattle.plain_pages.proofs.Kept.{drop_all_leaves}
use Rattle.plain_units.specs.declared.registers.Regs.{Regs}
use Rattle.plain_units.specs.Deeds.{in_ac}
use Rattle.plain_units.proofs.Lookups.{looked_up}
use Rattle.plain_model.specs.declared.call.End.{End}
use Rattle.plain_model.specs.declared.call.End.TheVariants.{Failed}
use Rattle.plain_model.specs.declared.call.FileChange.{FileChange}
use Rattle.plain_model.specs.declared.call.FileChange.TheVariants.{Take, Make, Open, Release, Delete}
use Rattle.plain_model.specs.declared.call.TheConstants.{DELF, NO_JFN, NOT_OPEN, JFN_OPEN, NO_FILE, BAD_NAME, JFNS_FULL, FILE_IN_USE, BAD_SIZE}
use Rattle.plain_model.specs.declared.fork.Fork.{Fork}
use Rattle.plain_model.specs.Calls.{Turn, makes, ends, numbered}
use Rattle.plain_model.specs.Families.{Parts, asks_jfns, behind, jfns_changed, names_seen}
use Rattle.plain_model.specs.FileCalls.{FileParts, JfnAsked, Jobs, closf, deleted, delf, file_changed, files_opened, found_or_made, gtjfn, held_at, jfn_calls, made_for, mode_in, of_jfn, openf, opened, rljfn, size_in, skipping, taking, times_held, with_held}
use Rattle.plain_model.specs.PointedTexts.{text_at}
use Rattle.plain_model.specs.State.{PlainState, PlainJob}
use Rattle.plain_model.specs.Unit.{parts_of, turned}
use Rattle.plain_model.proofs.ForkMaps.{AreOwn}
use Rattle.plain_model.proofs.Values.{values_all}
use Rattle.plain_alone.specs.Alike.{Alike}
use Rattle.plain_alone.specs.Apart.{IsHeldByNoOther}
use Rattle.plain_alone.specs.Notes.{own_key, turn_notes}
use Rattle.plain_alone.proofs.CallEnds.{FitsCall, LeftPages, PartsAlike, family_alike}
use Rattle.plain_alone.proofs.CallRows.{rows_own, rows_same}
use Rattle.plain_alone.proofs.CallsAlone.{NoFile}
use Rattle.plain_alone.proofs.OthersLeave.{PagesLeave, leave_on}
use Rattle.plain_alone.proofs.OutsideUnits.{AnyLook, EffectLeaves, StateLeaves, family_leave, itself, kept_own, pages_leave}
use Rattle.plain_alone.proofs.PagesChanged.{unfiled_alike}
use Rattle.plain_alone.proofs.StatesAlike.{job_set, pages_set}
use Rattle.plain_alone.proofs.TurnsAlike.{IsFreeTurn, IsOwnTurn, IsUsed, SightsAlike}
use Rattle.plain_alone.proofs.UnitEnds.{EffectsAlike, reading_own}
use Rattle.plain_model.specs.EachFamily.{came_of, opening}

-- ---- the turns are the caller's own

module _ (who : ForkName) (Looked : List ℕ → Type 0) where
  -- a change of a JFN of the caller's job; of a file that is made it is known that its name was looked up
  abbrev pub FitsJfn : FileChange → Type 0
  FitsJfn (Take t n name) = t ≡ who.tty
  FitsJfn (Make t n name) = (t ≡ who.tty) × Looked name
  FitsJfn (Open t n mode size) = t ≡ who.tty
  FitsJfn (Release t n) = t ≡ who.tty
  FitsJfn (Delete t n) = t ≡ who.tty

  abbrev Own : Turn ⊥ FileChange → Type 0
  Own t = IsOwnTurn who Looked NoFile (FitsCall FitsJfn) t

  module _ (regs : Regs) (user : List ℕ) (held : OpenFiles) (times : List ℕ → ℕ) where
    abbrev a : JfnAsked
    a = record { who = who; regs = regs; user = user; held = held; times = times }

    made_own : (n : ℕ) (name : List ℕ) → Looked name → (room : Bool) → FitsCall FitsJfn (made_for a n name room)
    made_own n name seen true = (refl, seen)
    made_own n name seen false = tt

    found_own : (n : ℕ) (name : List ℕ) (there : Bool) → Looked name → Own (found_or_made a n name there)
    found_own n name true seen = refl
    found_own n name false seen = cond_both (bit (in_ac regs 1) 0 == 1) (makes name (λ room. ends (made_for a n name room))) (ends (Failed NO_FILE)) Own (λ is room. made_own n name seen room) (λ no. tt)

    taking_own : (name : List ℕ) → Own (taking a name)
    taking_own name = λ there seen. looked_up Own (λ n. found_or_made a n name there) (ends (Failed JFNS_FULL)) (free_jfn held) (λ n is. found_own n name there seen) (λ none. tt)

    gtjfn_own : Own (gtjfn a)
    gtjfn_own = reading_own who Looked NoFile (FitsCall FitsJfn) regs (text_at regs (in_ac regs 2)) (λ text. option_map_or (taking a) (option_and_then (file_named user []) text) (ends (Failed BAD_NAME)))
        (λ text. looked_up Own (taking a) (ends (Failed BAD_NAME)) (option_and_then (file_named user []) text) (λ name is. taking_own name) (λ none. tt))

    of_own : (act : ℕ → OpenFile → End FileChange) → ((n : ℕ) (j : OpenFile) → FitsCall FitsJfn (act n j)) → Own (of_jfn act a)
    of_own act fits = looked_up (FitsCall FitsJfn) (act (right (in_ac regs 1))) (Failed NO_JFN) (map.get held (right (in_ac regs 1))) (λ j is. fits (right (in_ac regs 1)) j) (λ none. tt)

    openf_own : Own (openf a)
    openf_own = let w = in_ac regs 2 in let mode = mode_in w in
        of_own (λ n j. cond (is_some j.mode) (Failed JFN_OPEN) (cond (nat_lt LARGEST_BYTE (size_in w)) (Failed BAD_SIZE) (cond (mode.r || mode.w) (skipping (Open who.tty n mode (size_in w)) regs) (Failed NOT_OPEN))))
        (λ n j. cond_both (is_some j.mode) _ _ (FitsCall FitsJfn) (λ opened. tt) (λ shut. cond_both (nat_lt LARGEST_BYTE (size_in w)) _ _ (FitsCall FitsJfn) (λ large. tt) (λ fits. cond_both (mode.r || mode.w) _ _ (FitsCall FitsJfn) (λ some. refl) (λ none. tt))))

    closf_own : Own (closf a)
    closf_own = of_own (λ n j. skipping (Release who.tty n) regs) (λ n j. refl)

    rljfn_own : Own (rljfn a)
    rljfn_own = of_own (λ n j. cond (is_some j.mode) (Failed JFN_OPEN) (skipping (Release who.tty n) regs)) (λ n j. cond_both (is_some j.mode) _ _ (FitsCall FitsJfn) (λ opened. tt) (λ shut. refl))

    delf_own : Own (delf a)
    delf_own = of_own (λ n j. cond (nat_lt 1 (times j.file)) (Failed FILE_IN_USE) (skipping (Delete who.tty n) regs)) (λ n j. cond_both (nat_lt 1 (times j.file)) _ _ (FitsCall FitsJfn) (λ used. tt) (λ free. refl))

    -- A CALL ON JFNS is its fork's own
    pub jfn_own : (number : ℕ) → Own (numbered jfn_calls number a)
    jfn_own number = rows_own number who Looked NoFile (FitsCall FitsJfn) tt a jfn_calls (λ is. gtjfn_own, (λ is. openf_own, (λ is. closf_own, (λ is. rljfn_own, (λ is. delf_own, tt)))))

-- ---- how often a file is held

none_held : (name : List ℕ) (js : List PlainJob) → All (λ (j : PlainJob). times_open j.jfns name ≡ 0) js → sum_by (λ (j : PlainJob). times_open j.jfns name) js ≡ 0
none_held name [] all = refl
none_held name (j ∷ js) all = omega (arith, sum_by-cons (λ (i : PlainJob). times_open i.jfns name) j js, All-head (λ (i : PlainJob). times_open i.jfns name ≡ 0) j js all, none_held name js (All-tail (λ (i : PlainJob). times_open i.jfns name ≡ 0) j js all))

-- where no other job holds it, as often as the job does
pub held_by_one : (jobs : Jobs) (t : ℕ) (name : List ℕ) → ((u : ℕ) (j : PlainJob) → u ≢ t → map.get jobs u ≡ Some j → times_open j.jfns name ≡ 0) → times_held jobs name ≡ option_map_or (λ (j : PlainJob). times_open j.jfns name) (map.get jobs t) 0
unfolding times_held
held_by_one jobs t name others = by (map.get jobs t) refl
  where
    by : (o : Option PlainJob) → map.get jobs t ≡ o → sum_by (λ (j : PlainJob). times_open j.jfns name) (map.values jobs) ≡ option_map_or (λ (j : PlainJob). times_open j.jfns name) o 0
    by None none = none_held name (map.values jobs) (values_all nat_cmp nat_cmp_total (λ (j : PlainJob). times_open j.jfns name ≡ 0) jobs (λ u j is. others u j (λ same. (let no : None ≡ Some j = sym none ∙ ap (map.get jobs) (sym same) ∙ is in cc no)) is))
    by (Some j) some =
        let rest = map.remove jobs t in
        let zero_rest : sum_by (λ (i : PlainJob). times_open i.jfns name) (map.values rest) ≡ 0 =
        none_held name (map.values rest) (values_all nat_cmp nat_cmp_total (λ (i : PlainJob). times_open i.jfns name ≡ 0) rest (λ u i is. elim (keys.cases_key nat_cmp_total nat_cmp-IsAntisymmetric u t) [
          | inl e ↦ absurd (let no : None ≡ Some i = sym (keys.get_gone nat_cmp_total nat_cmp-IsAntisymmetric jobs t u e) ∙ is in cc no)
          | inr ne ↦ others u i ne (sym (keys.get_gone_other nat_cmp_total nat_cmp-IsAntisymmetric jobs t u ne) ∙ is)
        ])) in
        omega (arith, zero_rest, total_without nat_cmp_total nat_cmp-IsAntisymmetric (λ (i : PlainJob). times_open i.jfns name) jobs t j some)

-- ---- they do the same in both

module _ (f : Fork) (terminal : IsTerminal f.name.tty) (used : List ℕ → Bool) (list : List ℕ) (s a : PlainState) (own : AreOwn s.forks) (whole : AreWhole s.pages) (alone : AreWhole a.pages)
    (alike : Alike f.name.tty used list s a) (holds : (n : ℕ) (j : OpenFile) → map.get (held_at s.jobs f.name.tty) n ≡ Some j → used j.file ≡ true)
    (more : nat_lt (map.len s.files) MOST_FILES ≡ true → nat_lt (map.len a.files) MOST_FILES ≡ true) (number : ℕ) where
  abbrev T : Tty
  T = f.name.tty

  abbrev Parted : Parts name_cmp → Parts name_cmp → Type 0
  Parted v w = PartsAlike f terminal used list s a own whole alone alike v w

  times_same : (name : List ℕ) → IsHeldByNoOther s T name → times_held a.jobs name ≡ times_held s.jobs name
  times_same name others =
      held_by_one a.jobs T.0 name (λ u j ne is. absurd (let no : None ≡ Some j = sym (alike.no_jobs u ne) ∙ is in cc no))
      ∙ ap (λ (o : Option PlainJob). option_map_or (λ j. times_open j.jfns name) o 0) (sym alike.job) ∙ sym (held_by_one s.jobs T.0 name others)

  held_same : held_at a.jobs T ≡ held_at s.jobs T
  held_same = ap (λ (o : Option PlainJob). option_map_or (λ j. j.jfns) o map.empty) (sym alike.job)

  user_of : Option PlainJob → List ℕ
  user_of o = option_map_or (λ j. j.user) o []

  abbrev asked_with : (List ℕ → ℕ) → Option PlainJob → JfnAsked
  asked_with times o = record { who = f.name; regs = f.body.regs; user = option_map_or (λ j. j.user) o []; held = option_map_or (λ j. j.jfns) o map.empty; times = times }

  module _ (others : (number == DELF) ≡ true → (j : OpenFile) → map.get (held_at s.jobs T) (right (in_ac f.body.regs 1)) ≡ Some j → IsHeldByNoOther s T j.file) where
    delf_same : (DELF == number) ≡ true → delf (asked_with (times_held a.jobs) (map.get s.jobs T.0)) ≡ delf (asked_with (times_held s.jobs) (map.get s.jobs T.0))
    delf_same is = ap ends (by (map.get (held_at s.jobs T) (right (in_ac f.body.regs 1))) refl)
      where
        act : (List ℕ → ℕ) → OpenFile → End FileChange
        act times j = cond (nat_lt 1 (times j.file)) (Failed FILE_IN_USE) (skipping (Delete T (right (in_ac f.body.regs 1))) f.body.regs)

        by : (o : Option OpenFile) → map.get (held_at s.jobs T) (right (in_ac f.body.regs 1)) ≡ o → option_map_or (act (times_held a.jobs)) o (Failed NO_JFN) ≡ option_map_or (act (times_held s.jobs)) o (Failed NO_JFN)
        by None none = refl
        by (Some j) there = ap (λ k. cond (nat_lt 1 k) (Failed FILE_IN_USE) (skipping (Delete T (right (in_ac f.body.regs 1))) f.body.regs)) (times_same j.file (others (eq-eqb number DELF (sym (eqb-true DELF number is))) j there))

    jfn_same : numbered jfn_calls number (asks_jfns (parts_of a) f.name f.body.regs) ≡ numbered jfn_calls number (asks_jfns (parts_of s) f.name f.body.regs)
    jfn_same = ap (λ (o : Option PlainJob). numbered jfn_calls number (asked_with (times_held a.jobs) o)) (sym alike.job)
        ∙ rows_same number (asked_with (times_held a.jobs) (map.get s.jobs T.0)) (asked_with (times_held s.jobs) (map.get s.jobs T.0)) jfn_calls (λ is. refl, (λ is. refl, (λ is. refl, (λ is. refl, (delf_same, tt)))))

    name_sights : SightsAlike used NoFile (names_seen (parts_of s) f.name) (names_seen (parts_of a) f.name)
    name_sights = record { same = λ x. absurd x; known = λ x. absurd x; names = λ name its. ap is_some (sym (alike.files name its)); more = more }

-- ---- files and JFNs changed in both

module _ (t : Tty) (used : List ℕ → Bool) (list : List ℕ) (s a : PlainState) (alike : Alike t used list s a) where
  files_set : (ms ma : map.FinMap name_cmp PlainFile) → ((x : List ℕ) → used x ≡ true → map.get ms x ≡ map.get ma x) → ((x : List ℕ) → used x ≡ false → map.get ma x ≡ None) → Alike t used list (record s { files = ms }) (record a { files = ma })
  files_set ms ma files no_files = record {
    pages = alike.pages;
    files = files;
    no_files = no_files;
    job = alike.job;
    no_jobs = alike.no_jobs;
    forks = alike.forks;
    no_forks = alike.no_forks;
    serial = alike.serial;
    trace = alike.trace;
    awake = alike.awake;
  }

  module _ (name : List ℕ) (its : used name ≡ true) where
    not_it : (x : List ℕ) → used x ≡ false → x ≢ name
    not_it x other e = let no : true ≡ false = sym its ∙ ap used (sym e) ∙ other in cc no

    -- a file that is put
    pub file_put : (g : PlainFile) → Alike t used list (record s { files = map.insert s.files name g }) (record a { files = map.insert a.files name g })
    file_put g = files_set (map.insert s.files name g) (map.insert a.files name g)
        (λ x mine. elim (keys.cases_key nat_list_cmp_total name_cmp_apart x name) [
          | inl e ↦ keys.get_put nat_list_cmp_total name_cmp_apart s.files name x g e ∙ sym (keys.get_put nat_list_cmp_total name_cmp_apart a.files name x g e)
          | inr ne ↦ keys.get_put_other nat_list_cmp_total name_cmp_apart s.files name x g ne ∙ alike.files x mine ∙ sym (keys.get_put_other nat_list_cmp_total name_cmp_apart a.files name x g ne)
        ])
        (λ x other. keys.get_put_other nat_list_cmp_total name_cmp_apart a.files name x g (not_it x other) ∙ alike.no_files x other)

    -- a file that goes
    pub file_gone : Alike t used list (record s { files = map.remove s.files name }) (record a { files = map.remove a.files name })
    file_gone = files_set (map.remove s.files name) (map.remove a.files name)
        (λ x mine. elim (keys.cases_key nat_list_cmp_total name_cmp_apart x name) [
          | inl e ↦ keys.get_gone nat_list_cmp_total name_cmp_apart s.files name x e ∙ sym (keys.get_gone nat_list_cmp_total name_cmp_apart a.files name x e)
          | inr ne ↦ keys.get_gone_other nat_list_cmp_total name_cmp_apart s.files name x ne ∙ alike.files x mine ∙ sym (keys.get_gone_other nat_list_cmp_total name_cmp_apart a.files name x ne)
        ])
        (λ x other. keys.get_gone_other nat_list_cmp_total name_cmp_apart a.files name x (not_it x other) ∙ alike.no_files x other)

    -- a file that is opened, to be written alone or not
    file_opened : (mode : Mode) → Alike t used list (record s { files = files_opened s.files mode name }) (record a { files = files_opened a.files mode name })
    file_opened mode = by (mode.w && not mode.r)
      where
        emptied : Option PlainFile → map.FinMap name_cmp PlainFile → map.FinMap name_cmp PlainFile
        emptied o files = option_map_or (λ g. map.insert files name (record g { length = 0 })) o files

        each : (o : Option PlainFile) → Alike t used list (record s { files = emptied o s.files }) (record a { files = emptied o a.files })
        each None = alike
        each (Some g) = file_put (record g { length = 0 })

        by : (b : Bool) → Alike t used list (record s { files = cond b (emptied (map.get s.files name) s.files) s.files }) (record a { files = cond b (emptied (map.get a.files name) a.files) a.files })
        by false = alike
        by true = subst (λ o. Alike t used list (record s { files = emptied (map.get s.files name) s.files }) (record a { files = emptied o a.files })) (alike.files name its) (each (map.get s.files name))

  -- other JFNs of the job
  pub held_set : (change : OpenFiles → OpenFiles) → Alike t used list (record s { jobs = with_held s.jobs t change }) (record a { jobs = with_held a.jobs t change })
  held_set change = subst (λ o. Alike t used list (record s { jobs = with_held s.jobs t change }) (record a { jobs = on o a.jobs })) alike.job (by (map.get s.jobs t.0))
    where
      on : Option PlainJob → Jobs → Jobs
      on o jobs = option_map_or (λ j. map.insert jobs t.0 (record j { jfns = change j.jfns })) o jobs

      by : (o : Option PlainJob) → Alike t used list (record s { jobs = on o s.jobs }) (record a { jobs = on o a.jobs })
      by None = alike
      by (Some j) = job_set t used list s a alike (record j { jfns = change j.jfns })

-- ---- the calls

module _ (f : Fork) (terminal : IsTerminal f.name.tty) (used : List ℕ → Bool) (list : List ℕ) (s a : PlainState) (own : AreOwn s.forks) (whole : AreWhole s.pages) (alone : AreWhole a.pages)
    (alike : Alike f.name.tty used list s a) (holds : (n : ℕ) (j : OpenFile) → map.get (held_at s.jobs f.name.tty) n ≡ Some j → used j.file ≡ true)
    (more : nat_lt (map.len s.files) MOST_FILES ≡ true → nat_lt (map.len a.files) MOST_FILES ≡ true) (number : ℕ) where
  abbrev Here : Tty
  Here = f.name.tty

  module _ (p q : NamedPages) (left : LeftPages f terminal used list s a own whole alone alike p q) where
    abbrev at_s : FileParts name_cmp → PlainState
    at_s v = record s { pages = v.pages; files = v.files; jobs = v.jobs }

    abbrev at_a : FileParts name_cmp → PlainState
    at_a v = record a { pages = v.pages; files = v.files; jobs = v.jobs }

    abbrev v : FileParts name_cmp
    v = record { pages = p; files = s.files; jobs = s.jobs }

    abbrev w : FileParts name_cmp
    w = record { pages = q; files = a.files; jobs = a.jobs }

    abbrev After : FileChange → Type 0
    After change = Alike Here used list (at_s (file_changed own_key change v)) (at_a (file_changed own_key change w))

    abbrev AfterJfn : (OpenFile → FileParts name_cmp → FileParts name_cmp) → Option OpenFile → Option OpenFile → Type 0
    AfterJfn act o h = Alike Here used list (at_s (option_map_or (λ j. act j v) o v)) (at_a (option_map_or (λ j. act j w) h w))

    both : Alike Here used list (at_s v) (at_a w)
    both = pages_set Here used list s a alike p q left.alike

    held_as : held_at a.jobs Here ≡ held_at s.jobs Here
    held_as = ap (λ (o : Option PlainJob). option_map_or (λ j. j.jfns) o map.empty) (sym alike.job)

    pub at_jfn : (act : OpenFile → FileParts name_cmp → FileParts name_cmp) (n : ℕ) → ((j : OpenFile) → used j.file ≡ true → Alike Here used list (at_s (act j v)) (at_a (act j w))) → AfterJfn act (map.get (held_at s.jobs Here) n) (map.get (held_at a.jobs Here) n)
    at_jfn act n each = subst (λ (h : OpenFiles). AfterJfn act (map.get (held_at s.jobs Here) n) (map.get h n)) (sym held_as) (by (map.get (held_at s.jobs Here) n) refl)
      where
        by : (o : Option OpenFile) → map.get (held_at s.jobs Here) n ≡ o → AfterJfn act o o
        by None is = both
        by (Some j) is = each j (holds n j is)

    jfn_changes : (change : FileChange) → FitsJfn f.name (IsUsed used) change → After change
    unfolding file_changed
    jfn_changes (Take t n name) fits = subst (λ (u : Tty). After (Take u n name)) (sym fits) (held_set Here used list (at_s v) (at_a w) both (λ m. map.insert m n (taken_file name)))
    jfn_changes (Make t n name) fits = subst (λ (u : Tty). After (Make u n name)) (sym fits.0)
        (held_set Here used list (record s { pages = p; files = map.insert s.files name new_file }) (record a { pages = q; files = map.insert a.files name new_file }) (file_put Here used list (at_s v) (at_a w) both name fits.1 new_file) (λ m. map.insert m n (taken_file name)))
    jfn_changes (Open t n mode size) fits = subst (λ (u : Tty). After (Open u n mode size)) (sym fits)
        (at_jfn (λ j x. opened own_key x Here n mode size j) n (λ j its. held_set Here used list (record s { pages = p; files = files_opened s.files mode j.file }) (record a { pages = q; files = files_opened a.files mode j.file }) (file_opened Here used list (at_s v) (at_a w) both j.file its mode) (λ m. map.insert m n (opened_file mode size j))))
    jfn_changes (Release t n) fits = subst (λ (u : Tty). After (Release u n)) (sym fits) (held_set Here used list (at_s v) (at_a w) both (λ m. map.remove m n))
    jfn_changes (Delete t n) fits = subst (λ (u : Tty). After (Delete u n)) (sym fits)
        (at_jfn (λ j x. deleted own_key x Here n j) n (λ j its. (let k = unfiled_alike Here terminal used list p q left j.file its in
        held_set Here used list (record s { pages = without_file p j.file; files = map.remove s.files j.file }) (record a { pages = without_file q j.file; files = map.remove a.files j.file })
        (file_gone Here used list (record s { pages = without_file p j.file }) (record a { pages = without_file q j.file }) (pages_set Here used list s a alike (without_file p j.file) (without_file q j.file) k.alike) j.file its) (λ m. map.remove m n))))

  -- A CALL ON JFNS does the same
  pub jfn_alike : ((number == DELF) ≡ true → (j : OpenFile) → map.get (held_at s.jobs Here) (right (in_ac f.body.regs 1)) ≡ Some j → IsHeldByNoOther s Here j.file)
      → IsFreeTurn used (turn_notes (names_seen (parts_of s) f.name) s.pages (numbered jfn_calls number (asks_jfns (parts_of s) f.name f.body.regs)))
      → EffectsAlike f.name.tty used list (turned s f.name.tty (behind (jfns_changed own_key) (parts_of s) f.name (came_of (opening own_key) (parts_of s) f.name f.body.regs number))) (turned a f.name.tty (behind (jfns_changed own_key) (parts_of a) f.name (came_of (opening own_key) (parts_of a) f.name f.body.regs number)))
  jfn_alike others free = family_alike f terminal used list s a own whole alone alike (opening own_key) NoFile (FitsJfn f.name (IsUsed used)) number
      (jfn_same f terminal used list s a own whole alone alike holds more number others)
      (jfn_own f.name (IsUsed used) f.body.regs (option_map_or (λ j. j.user) (map.get s.jobs Here.0) []) (held_at s.jobs Here) (times_held s.jobs) number)
      (name_sights f terminal used list s a own whole alone alike holds more number others)
      (λ change fits p q left. record { states = jfn_changes p q left change fits; owned = own }) free

-- ---- they leave what is others'

module _ (u : Tty) where
  pub with_leaves : (jobs : Jobs) (change : OpenFiles → OpenFiles) (i : ℕ) → i ≢ u.0 → map.get (with_held jobs u change) i ≡ map.get jobs i
  with_leaves jobs change i other = looked_up (λ (x : Jobs). map.get x i ≡ map.get jobs i) (λ j. map.insert jobs u.0 (record j { jfns = change j.jfns })) jobs (map.get jobs u.0) (λ j is. keys.get_put_other nat_cmp_total nat_cmp-IsAntisymmetric jobs u.0 i (record j { jfns = change j.jfns }) other) (λ none. refl)

  pub unfiled_leaves : (p : NamedPages) (name : List ℕ) → PagesLeave u p (without_file p name)
  unfolding without_file
  unfiled_leaves p name =
      let l = drop_all_leaves (record p { files = other_files p name }) (names_of_file p name) in
      record {
        maps = λ k other. ap (λ (r : NamedPages). map.get r.maps k) l;
        serials = λ i other. ap (λ (r : NamedPages). slice_index r.page_serials i) l;
        console = ap (λ (r : NamedPages). r.console_serial) l;
        limit = ap (λ (r : NamedPages). r.limit) l;
      }

module _ (s : PlainState) (own : AreOwn s.forks) (f : Fork) (terminal : IsTerminal f.name.tty) (number : ℕ) where
  abbrev There : Tty
  There = f.name.tty

  abbrev Leaves : PlainState → Type 0
  Leaves x = StateLeaves There s x

  module _ (p : NamedPages) (l : PagesLeave There s.pages p) where
    abbrev left_at : FileParts name_cmp → PlainState
    left_at parts_left = record s { pages = parts_left.pages; files = parts_left.files; jobs = parts_left.jobs }

    abbrev parts_left : FileParts name_cmp
    parts_left = record { pages = p; files = s.files; jobs = s.jobs }

    left_with : (q : NamedPages) (files : map.FinMap name_cmp PlainFile) (change : OpenFiles → OpenFiles) → PagesLeave There s.pages q → Leaves (record s { pages = q; files = files; jobs = with_held s.jobs There change })
    left_with q files change k = let i = itself s own f terminal in record { job = i.job; serials = i.serials; jobs = with_leaves There s.jobs change; pages = k; trace = refl }

    as_it_was : Leaves (left_at parts_left)
    as_it_was = pages_leave There s s (itself s own f terminal) p l

    leaves_change : (change : FileChange) → FitsJfn f.name AnyLook change → Leaves (left_at (file_changed own_key change parts_left))
    unfolding file_changed
    leaves_change (Take t n name) fits = subst (λ (u : Tty). Leaves (left_at (file_changed own_key (Take u n name) parts_left))) (sym fits) (left_with p s.files (λ m. map.insert m n (taken_file name)) l)
    leaves_change (Make t n name) fits = subst (λ (u : Tty). Leaves (left_at (file_changed own_key (Make u n name) parts_left))) (sym fits.0) (left_with p (map.insert s.files name new_file) (λ m. map.insert m n (taken_file name)) l)
    leaves_change (Open t n mode size) fits = subst (λ (u : Tty). Leaves (left_at (file_changed own_key (Open u n mode size) parts_left))) (sym fits)
        (looked_up (λ (x : FileParts name_cmp). Leaves (left_at x)) (opened own_key parts_left There n mode size) parts_left (map.get (held_at s.jobs There) n) (λ j is. left_with p (files_opened s.files mode j.file) (λ m. map.insert m n (opened_file mode size j)) l) (λ none. as_it_was))
    leaves_change (Release t n) fits = subst (λ (u : Tty). Leaves (left_at (file_changed own_key (Release u n) parts_left))) (sym fits) (left_with p s.files (λ m. map.remove m n) l)
    leaves_change (Delete t n) fits = subst (λ (u : Tty). Leaves (left_at (file_changed own_key (Delete u n) parts_left))) (sym fits)
        (looked_up (λ (x : FileParts name_cmp). Leaves (left_at x)) (deleted own_key parts_left There n) parts_left (map.get (held_at s.jobs There) n) (λ j is. left_with (without_file p j.file) (map.remove s.files j.file) (λ m. map.remove m n) (leave_on There s.pages p (without_file p j.file) l (unfiled_leaves There p j.file))) (λ none. as_it_was))

  -- A CALL ON JFNS leaves what is others'
  pub jfn_leaves : EffectLeaves f.name.tty s (turned s f.name.tty (behind (jfns_changed own_key) (parts_of s) f.name (came_of (opening own_key) (parts_of s) f.name f.body.regs number)))
  jfn_leaves = family_leave s own f terminal (opening own_key) NoFile (FitsJfn f.name AnyLook) number
      (kept_own f.name AnyLook NoFile (FitsJfn f.name AnyLook) (numbered jfn_calls number (asks_jfns (parts_of s) f.name f.body.regs)) (jfn_own f.name AnyLook f.body.regs (option_map_or (λ j. j.user) (map.get s.jobs There.0) []) (held_at s.jobs There) (times_held s.jobs) number))
      (λ change fits p l. leaves_change p l change fits)
