-- A turn of a call on JFNs leaves a whole state whole.
use Rattle.std.proofs.Common.{◌≡◌, ◌≢◌, ℕ, zero, suc, ◌+◌, ◌<◌, ◌≤◌, Bool, true, false, cond, not, ◌&&◌, List, [], Ordering, ◌⊎◌, Option, None, Some, inl, inr, refl, sym, ◌∙◌, ap, subst, arith}
use Rattle.std.specs.Prelude.{is_some, nat_lt}
use Rattle.std.specs.Ordering.{eq_by_cmp, nat_cmp}
use Rattle.std.specs.List.{find, range_with_len, sum_by}
use Rattle.std.specs.Option.{option_map_or}
use Rattle.std.specs.Cmp.{nat_cmp_total}
use Rattle.std.specs.Cmp.Lexicographic.{nat_list_cmp_total}
use Rattle.std.specs.FinMap as map
use Rattle.std.specs.FinMap.{nat_cmp-IsAntisymmetric}
use Rattle.std.proofs.lemmas.Bool.Decides.{nat_tests}
use Rattle.machine_names.specs.Bounds.{IsOwner, IsFileName}
use Rattle.machine_names.specs.Orders.{FilePage, name_cmp}
use Rattle.machine_names.specs.declared.names.ForkName.{ForkName}
use Rattle.machine_names.specs.declared.names.TheConstants.{MOST_FILES}
use Rattle.machine_names.specs.declared.names.Tty.{Tty}
use Rattle.plain_model.proofs.FileNames.{file_named_is}
use Rattle.machine_names.proofs.Keys.{get_put, ties}
use Rattle.machine_names.proofs.OrderLemmas.{name_cmp_apart}
use Rattle.plain_files.specs.declared.bounds.TheConstants.{MOST_JFNS}
use Rattle.plain_files.specs.declared.jfn.Mode.{Mode}
use Rattle.plain_files.specs.OpenFiles.{OpenFile, OpenFiles, free_jfn, is_for, is_free, opened_file, taken_file, times_open}
use Rattle.plain_files.specs.Bytes.{IsByteSize}
use Rattle.plain_files.specs.Sizes.{FitsFile, PlainFile, new_file}
use Rattle.plain_pages.specs.PlainPages.{NamedPages, Maps, PlainPages}
use Rattle.plain_pages.specs.FilePages.{without_file}
use Rattle.plain_pages.specs.Room.{live}
use Rattle.plain_pages.proofs.Counts.{total_insert, value_counted}
use Rattle.plain_pages.proofs.FilesKept.{live_without, without_maps, without_still, without_whole}
use Rattle.plain_model.proofs.Keyed.{left_page, total_without}
use Rattle.plain_units.specs.declared.registers.Regs.{Regs}
use Rattle.plain_units.specs.Blocks.{steps_on}
use Rattle.plain_units.specs.Steps.{Planned, Steps, begun, call, done, stopped}
use Rattle.plain_units.proofs.PageRuns.{Keeps, PlanLeaves, kept_itself, run_kept}
use Rattle.plain_model.specs.declared.call.End.{End}
use Rattle.plain_model.specs.declared.call.End.TheVariants.{Done, Waits, Halts, Refused, Failed, Trap}
use Rattle.plain_model.specs.declared.call.FileChange.{FileChange}
use Rattle.plain_model.specs.declared.call.FileChange.TheVariants.{Take, Make, Open, Release, Delete}
use Rattle.plain_model.specs.declared.fork.Fork.{Fork}
use Rattle.plain_model.specs.Calls.{parts_behind}
use Rattle.plain_model.specs.Families.{asks_jfns, names_seen}
use Rattle.plain_model.specs.FileCalls.{Jobs, JfnAsked, deleted, file_changed, files_opened, held_at, opened, times_held, with_held}
use Rattle.plain_model.specs.State.{PlainJob, PlainState}
use Rattle.plain_model.specs.Trees.{next_serial, tree_of}
use Rattle.plain_model.specs.Unit.{parts_of, with_parts}
use Rattle.plain_model.proofs.Calling.{filed_of, jfn_called, jfn_came, with_filed}
use Rattle.plain_model.proofs.JfnChanges.{held_job}
use Rattle.plain_model.proofs.JfnEnds.{FitsChange, FitsEnd, call_ends}
use Rattle.plain_laws.specs.Whole.{AreGiven, IsWholeMachine}
use Rattle.plain_laws.specs.WholeFiles.{AreOpen, Files, FitsOpen}
use Rattle.plain_laws.proofs.FilesKept.{file_gone, file_put, jfn_gone, jfn_put, pages_fewer, put_keeps}
use Rattle.plain_laws.proofs.GivenSerials.{run_given}
use Rattle.plain_laws.proofs.WholeForks.{filed_whole, job_whole, keeps_whole, sound}

-- the least number that is free is one of those that a job may hold
found_free : (m : OpenFiles) (from len n : ℕ) → find (is_free m) (range_with_len from len) ≡ Some n → (from ≤ n) × (n < from + len)
found_free m from zero n e = absurd (cc e)
found_free m from (suc len) n e = by (found_free m (from + 1) len n) (is_free m from) e
  where
    by : (find (is_free m) (range_with_len (from + 1) len) ≡ Some n → (from + 1 ≤ n) × (n < from + 1 + len)) → (b : Bool) → cond b (Some from) (find (is_free m) (range_with_len (from + 1) len)) ≡ Some n → (from ≤ n) × (n < from + suc len)
    by rest true found = let same : from ≡ n = cc found in (omega (arith, same), omega (arith, same))
    by rest false found = let r = rest found in (omega (arith, r.0), omega (arith, r.1))

free_fits : (m : OpenFiles) (n : ℕ) → free_jfn m ≡ Some n → (1 ≤ n) × (n ≤ MOST_JFNS)
unfolding free_jfn
free_fits m n e = let found = found_free m 1 MOST_JFNS n e in (found.0, omega (arith, found.1))

-- how a JFN is counted among those for a name
abbrev weight : List ℕ → OpenFile → ℕ
weight name x = cond (is_for name x) 1 0

counted_once : (name : List ℕ) (x : OpenFile) → x.file ≡ name → weight name x ≡ 1
counted_once name x same = ap (λ b. cond b 1 0) (ties nat_list_cmp_total name_cmp_apart x.file name same)

-- where as many as none stand for a file, no JFN of a job does
pub nobody_holds : (jobs : Jobs) (name : List ℕ) → times_held jobs name ≡ 0 → (t n : ℕ) (j : PlainJob) (i : OpenFile) → map.get jobs t ≡ Some j → map.get j.jfns n ≡ Some i → i.file ≢ name
unfolding times_held times_open
nobody_holds jobs name none t n j i is has same = omega (arith, counted_once name i same, none, value_counted nat_cmp (λ k. times_open k.jfns name) jobs t j is, value_counted nat_cmp (weight name) j.jfns n i has)

-- where the one JFN goes that stands for a file, none does
module _ (jobs : Jobs) (t : Tty) (j : PlainJob) (n : ℕ) (i : OpenFile) (job : map.get jobs t.0 ≡ Some j) (held : map.get j.jfns n ≡ Some i) (once : nat_lt 1 (times_held jobs i.file) ≡ false) where
  abbrev counts : PlainJob → ℕ
  counts k = times_open k.jfns i.file

  abbrev others : Jobs
  others = map.insert jobs t.0 (record j { jfns = map.remove j.jfns n })

  fewer : times_open (map.remove j.jfns n) i.file + 1 ≡ times_open j.jfns i.file
  unfolding times_open
  fewer = omega (arith, counted_once i.file i refl, total_without nat_cmp_total nat_cmp-IsAntisymmetric (weight i.file) j.jfns n i held)

  none_left : times_held others i.file ≡ 0
  unfolding times_held
  none_left =
      let was : option_map_or counts (map.get jobs t.0) 0 ≡ counts j = ap (λ (o : Option PlainJob). option_map_or counts o 0) job in
      omega (arith, fewer, was, at_most (sum_by counts (map.values jobs)) once, total_insert nat_cmp_total counts jobs t.0 (record j { jfns = map.remove j.jfns n }))
    where
      at_most : (k : ℕ) → nat_lt 1 k ≡ false → k ≤ 1
      at_most k h = grind (arith, nat_tests)

-- the JFNs of a job, where they change
module _ (s : PlainState) (w : IsWholeMachine s) (t : Tty) where
  -- another JFN, or one less
  pub held_whole : (change : OpenFiles → OpenFiles) → ((j : PlainJob) → map.get s.jobs t.0 ≡ Some j → AreOpen s.files (change j.jfns)) → IsWholeMachine (record s { jobs = with_held s.jobs t change })
  held_whole change fits = by (map.get s.jobs t.0) refl
    where
      by : (o : Option PlainJob) → map.get s.jobs t.0 ≡ o → IsWholeMachine (record s { jobs = option_map_or (λ j. map.insert s.jobs t.0 (record j { jfns = change j.jfns })) o s.jobs })
      by None is = w
      by (Some j) is = job_whole s w t.0 j (record j { jfns = change j.jfns }) is refl (fits j is)

  put_whole : (n : ℕ) (i : OpenFile) → 1 ≤ n → n ≤ MOST_JFNS → FitsOpen s.files i → IsWholeMachine (record s { jobs = with_held s.jobs t (λ m. map.insert m n i) })
  put_whole n i low high fits = held_whole (λ m. map.insert m n i) (λ j is. jfn_put s.files j.jfns n i (w.files.jfns t.0 j is) low high fits)

  release_whole : (n : ℕ) → IsWholeMachine (record s { jobs = with_held s.jobs t (λ m. map.remove m n) })
  release_whole n = held_whole (λ m. map.remove m n) (λ j is. jfn_gone s.files j.jfns n (w.files.jfns t.0 j is))

  -- the file of a JFN is there
  pub file_of_held : (n : ℕ) (i : OpenFile) → map.get (held_at s.jobs t) n ≡ Some i → (1 ≤ n) × (n ≤ MOST_JFNS) × FitsOpen s.files i
  file_of_held n i held = let j = held_job s.jobs t n i held in w.files.jfns t.0 j.0 j.1 n i j.2

-- files that are made or changed
module _ (s : PlainState) (w : IsWholeMachine s) where
  pub file_whole : (name : List ℕ) (f : PlainFile) → IsFileName name → FitsFile f → (map.contains_key s.files name ≡ true) ⊎ (map.len s.files < MOST_FILES) → IsWholeMachine (record s { files = map.insert s.files name f })
  file_whole name f full fits room = filed_whole s w s.pages (map.insert s.files name f) w.pages w.room (file_put s.files s.pages.files s.jobs w.files name f full fits room) (λ k. refl) w.given

  opened_whole : (mode : Mode) (name : List ℕ) → IsWholeMachine (record s { files = files_opened s.files mode name })
  opened_whole mode name = by (mode.w && not mode.r) (map.get s.files name) refl
    where
      by : (b : Bool) (o : Option PlainFile) → map.get s.files name ≡ o → IsWholeMachine (record s { files = cond b (option_map_or (λ f. map.insert s.files name (record f { length = 0 })) o s.files) s.files })
      by true None is = w
      by true (Some f) is = (let was = w.files.named.named name f is in file_whole name (record f { length = 0 }) was.0 (was.1.0, omega arith) (inl (ap is_some is)))
      by false o is = w

  -- a page that is left is of another file
  kept_page : (name : List ℕ) (at : FilePage (List ℕ)) → map.contains_key (without_file s.pages name).files at ≡ true → (map.contains_key s.pages.files at ≡ true) × (at.file ≢ name)
  kept_page name at h = by (eq_by_cmp name_cmp at.file name) refl (sym (ap is_some kept) ∙ h)
    where
      kept : map.get (without_file s.pages name).files at ≡ cond (not (eq_by_cmp name_cmp at.file name)) (map.get s.pages.files at) None
      kept = left_page nat_list_cmp_total name_cmp_apart s.pages name at

      by : (b : Bool) → eq_by_cmp name_cmp at.file name ≡ b → is_some (cond (not b) (map.get s.pages.files at) None) ≡ true → (map.contains_key s.pages.files at ≡ true) × (at.file ≢ name)
      by true is k = absurd (cc k)
      by false is k = (k, λ same. (let no : true ≡ false = sym (ties nat_list_cmp_total name_cmp_apart at.file name same) ∙ is in cc no))

  -- a file that goes with its pages, where no JFN stands for it
  pub removed_whole : (name : List ℕ) → times_held s.jobs name ≡ 0 → IsWholeMachine (record s { pages = without_file s.pages name; files = map.remove s.files name })
  removed_whole name none =
      let q = without_file s.pages name in
      let fewer = pages_fewer s.files s.pages.files s.jobs w.files q.files (λ at h. (let k = kept_page name at h in k.0)) in
      let bare = file_gone s.files q.files s.jobs fewer name (λ at h. (let k = kept_page name at h in k.1)) (nobody_holds s.jobs name none) in
      let still = without_still nat_list_cmp_total name_cmp_apart s.pages name w.pages in
      let room : live q ≤ q.limit = omega (arith, live_without nat_list_cmp_total name_cmp_apart s.pages name w.pages, w.room, still.limit) in
      let maps = without_maps nat_list_cmp_total name_cmp_apart s.pages name in
      filed_whole s w q (map.remove s.files name) (without_whole nat_list_cmp_total name_cmp_apart s.pages name w.pages) room bare (λ f. ap (λ (m : Maps). map.contains_key m f) maps) (subst (AreGiven (next_serial (tree_of s))) (sym maps) w.given)

still_opened : (files : Files) (mode : Mode) (name x : List ℕ) → map.contains_key files x ≡ true → map.contains_key (files_opened files mode name) x ≡ true
still_opened files mode name x there = by (mode.w && not mode.r) (map.get files name)
  where
    by : (b : Bool) (o : Option PlainFile) → map.contains_key (cond b (option_map_or (λ f. map.insert files name (record f { length = 0 })) o files) files) x ≡ true
    by true None = there
    by true (Some f) = put_keeps nat_list_cmp_total name_cmp_apart files name (record f { length = 0 }) x there
    by false o = there

-- a change of a call on JFNs
module _ (s : PlainState) (w : IsWholeMachine s) (who : ForkName) (regs : Regs) where
  abbrev asked : JfnAsked
  asked = asks_jfns (parts_of s) who regs

  abbrev changed_state : FileChange → PlainState
  changed_state change = with_parts s (with_filed (parts_of s) (file_changed (λ name. name) change (filed_of (parts_of s))))

  just_taken : (files : Files) (name : List ℕ) → map.contains_key files name ≡ true → FitsOpen files (taken_file name)
  just_taken files name there = (there, (omega arith, omega arith), omega arith)

  take_whole : (n : ℕ) (name : List ℕ) → free_jfn asked.held ≡ Some n → map.contains_key s.files name ≡ true → IsWholeMachine (changed_state (Take who.tty n name))
  unfolding file_changed
  take_whole n name free there = let k = free_fits asked.held n free in put_whole s w who.tty n (taken_file name) k.0 k.1 (just_taken s.files name there)

  make_whole : (n : ℕ) (name : List ℕ) → free_jfn asked.held ≡ Some n → IsFileName name → nat_lt (map.len s.files) MOST_FILES ≡ true → IsWholeMachine (changed_state (Make who.tty n name))
  unfolding file_changed
  make_whole n name free full room =
      let k = free_fits asked.held n free in
      let made : PlainState = record s { files = map.insert s.files name new_file } in
      let there : map.contains_key made.files name ≡ true = ap is_some (get_put nat_list_cmp_total name_cmp_apart s.files name name new_file refl) in
      put_whole made (file_whole s w name new_file full ((omega arith, omega arith), omega arith) (inr (below (map.len s.files) room))) who.tty n (taken_file name) k.0 k.1 (just_taken made.files name there)
    where
      below : (k : ℕ) → nat_lt k MOST_FILES ≡ true → k < MOST_FILES
      below k h = grind (arith, nat_tests)

  open_whole : (n : ℕ) (mode : Mode) (size : ℕ) (i : OpenFile) → map.get asked.held n ≡ Some i → IsByteSize size → IsWholeMachine (changed_state (Open who.tty n mode size))
  unfolding file_changed
  open_whole n mode size i held fits =
      let was = file_of_held s w who.tty n i held in
      let at : PlainState = record s { files = files_opened s.files mode i.file } in
      let whole = put_whole at (opened_whole s w mode i.file) who.tty n (opened_file mode size i) was.0 was.1 (still_opened s.files mode i.file i.file was.2.0, fits, omega arith) in
      subst (λ (o : Option OpenFile). IsWholeMachine (with_parts s (with_filed (parts_of s) (option_map_or (opened (λ name. name) (filed_of (parts_of s)) who.tty n mode size) o (filed_of (parts_of s)))))) (sym held) whole

  close_whole : (n : ℕ) → IsWholeMachine (changed_state (Release who.tty n))
  unfolding file_changed
  close_whole n = release_whole s w who.tty n

  delete_whole : (n : ℕ) (i : OpenFile) → map.get asked.held n ≡ Some i → nat_lt 1 (times_held s.jobs i.file) ≡ false → IsWholeMachine (changed_state (Delete who.tty n))
  unfolding file_changed
  delete_whole n i held once =
      let j = held_job s.jobs who.tty n i held in
      let freed : PlainState = record s { jobs = with_held s.jobs who.tty (λ m. map.remove m n) } in
      let jobs_are : freed.jobs ≡ others s.jobs who.tty j.0 n i j.1 j.2 once = ap (λ (o : Option PlainJob). option_map_or (λ k. map.insert s.jobs who.tty.0 (record k { jfns = map.remove k.jfns n })) o s.jobs) j.1 in
      let whole = removed_whole freed (release_whole s w who.tty n) i.file (ap (λ (b : Jobs). times_held b i.file) jobs_are ∙ none_left s.jobs who.tty j.0 n i j.1 j.2 once) in
      subst (λ (o : Option OpenFile). IsWholeMachine (with_parts s (with_filed (parts_of s) (option_map_or (deleted (λ name. name) (filed_of (parts_of s)) who.tty n) o (filed_of (parts_of s)))))) (sym held) whole

  change_whole : (change : FileChange) → FitsChange asked (names_seen (parts_of s) who) change → IsWholeMachine (changed_state change)
  change_whole (Take t n name) fits = subst (λ u. IsWholeMachine (changed_state (Take u n name))) (sym fits.0.job) (take_whole n name fits.0.free fits.1)
  change_whole (Make t n name) fits = subst (λ u. IsWholeMachine (changed_state (Make u n name))) (sym fits.0.job) (make_whole n name fits.0.free (file_named_is asked.user [] fits.0.text name fits.0.named) fits.2)
  change_whole (Open t n mode size) fits = subst (λ u. IsWholeMachine (changed_state (Open u n mode size))) (sym fits.1.own.job) (open_whole n mode size fits.0 fits.1.own.held fits.1.fits)
  change_whole (Release t n) fits = subst (λ u. IsWholeMachine (changed_state (Release u n))) (sym fits.1.job) (close_whole n)
  change_whole (Delete t n) fits = subst (λ u. IsWholeMachine (changed_state (Delete u n))) (sym fits.1.job) (delete_whole n fits.0 fits.1.held fits.2)

-- what steps leave of both of two kinds
pub both_leave : {K : Type 0} {file_cmp : K → K → Ordering} (A B : PlainPages file_cmp → Type 0) (f : ForkName) (r : Planned file_cmp ⊥) → PlanLeaves A f r → PlanLeaves B f r → PlanLeaves (λ q. A q × B q) f r
both_leave A B f (done t e) a b = (a, b)
both_leave A B f (stopped why) a b = tt
both_leave A B f (call number) a b = tt

-- a turn, which makes pages for its references
module _ (s : PlainState) (w : IsWholeMachine s) (f : Fork) (own : IsOwner f.name.tty) where
  abbrev After : NamedPages → Type 0
  After q = Keeps s.pages q × AreGiven (next_serial (tree_of s)) q.maps

  pub jfn_called_whole : (number : ℕ) → IsWholeMachine (jfn_called s f number)
  unfolding parts_behind
  jfn_called_whole number = by (jfn_came s f number).end (call_ends (asks_jfns (parts_of s) f.name f.body.regs) (names_seen (parts_of s) f.name) After runs s.pages (kept_itself s.pages (sound s w), w.given) number)
    where
      runs : (q : NamedPages) → After q → (steps : Steps) → PlanLeaves After f.name (steps_on f.name f.body.regs steps q)
      runs q k steps = both_leave (λ (r : NamedPages). Keeps s.pages r) (λ (r : NamedPages). AreGiven (next_serial (tree_of s)) r.maps) f.name (steps_on f.name f.body.regs steps q)
          (run_kept nat_list_cmp_total s.pages f.name own steps (begun q f.body.regs.ac) k.0) (run_given (next_serial (tree_of s)) nat_list_cmp_total f.name steps (begun q f.body.regs.ac) k.1)

      by : (e : End FileChange) → FitsEnd (asks_jfns (parts_of s) f.name f.body.regs) (names_seen (parts_of s) f.name) After e (jfn_came s f number).pages
          → IsWholeMachine (with_parts s (with_filed (parts_of s) (parts_behind (file_changed (λ name. name)) (filed_of (parts_of s)) (record (filed_of (parts_of s)) { pages = (jfn_came s f number).pages }) e)))
      by (Done change regs out post) fits = change_whole (record s { pages = (jfn_came s f number).pages }) (keeps_whole s w (jfn_came s f number).pages fits.1.0 fits.1.1) f.name f.body.regs change fits.0
      by (Waits on) fits = w
      by Halts fits = w
      by (Refused code) fits = w
      by (Failed code) fits = w
      by (Trap channel) fits = w
