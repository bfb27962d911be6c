-- DELETE, as the plain machine has it.
use Rattle.std.proofs.Common.{◌≡◌, ◌≢◌, ℕ, ◌<◌, [], true, false, cond, Some, sym, ◌∙◌, ap, subst, arith, inl, inr, nat_lt}
use Rattle.std.specs.Prelude.{List, codes, is_some}
use Rattle.std.specs.Cmp.{nat_cmp_total}
use Rattle.std.specs.Ordering.{nat_cmp}
use Rattle.std.specs.FinMap as map
use Rattle.std.proofs.lemmas.Bool.{cases_eq}
use Rattle.std.proofs.lemmas.Bool.Decides.{nat_tests}
use Rattle.number_map.proofs.Keys.{get_gone, get_gone_other}
use Rattle.machine_names.specs.Orders.{name_cmp}
use Rattle.machine_names.specs.declared.names.Tty.{Tty}
use Rattle.page_contracts.specs.DrumWords.{DrumWords}
use Rattle.plain_files.specs.Directory.{Files}
use Rattle.plain_files.specs.NamedFiles.{AreFiled, AreNumbers, name_of, pages_named}
use Rattle.plain_files.specs.OpenFiles.{times_open_in_all}
use Rattle.plain_pages.specs.FilePages.{other_files, without_file}
use Rattle.plain_pages.specs.PlainPages.{NumberedPages, refiled}
use Rattle.plain_pages.proofs.FilesKept.{without_files}
use Rattle.plain_model.specs.Commands.{delete_file, prompted, told}
use Rattle.plain_model.specs.FileCalls.{times_held}
use Rattle.plain_model.specs.Unit.{Effect}
use Rattle.plain_model.proofs.Keyed.{Others, keyed_by, without_keyed, without_refiled}
use Rattle.ka10_unit.specs.Carrying.{Grows}
use Rattle.job_forks.specs.Holding.{ComeFrom}
use Rattle.plain_model.specs.Trees.{PlainTree}
use Rattle.job_forks.proofs.Places.{came_itself}
use Rattle.file_tables.specs.Tables.{IsThere, OpenStay, files_of, open_of}
use Rattle.file_tables.proofs.Names.{name_apart, name_total, named, not_both, numbers_gone}
use Rattle.monitor_calls.specs.ForkUnit.{NumbersStay}
use Rattle.step_shown.specs.declared.echo.Complaint.TheVariants.{Busy}
use Rattle.step_shown.specs.declared.echo.Told.TheVariants.{Prompt, Refused}
use Rattle.monitor_core.specs.declared.system.System.{System}
use Rattle.step_shown.specs.Echoes.{told_items}
use Rattle.monitor_typing.specs.Effects.{Has}
use Rattle.monitor_calls.specs.Jobs.{jobs_of}
use Rattle.monitor_core.specs.Systems.{FitsPages, named as named_pages, state_of}
use Rattle.monitor_core.proofs.FileDid.{file_there}
use Rattle.monitor_typing.proofs.HasDone.{has_so}
use Rattle.monitor_calls.proofs.JfnsAsked.{times_as}
use Rattle.monitor_calls.proofs.NamedKeys.{AreUnder, There, filed_now, keyed_named, name_there, named_now, number_in, number_there}
use Rattle.monitor_core.proofs.Systems.{fits_left}

module _ (m : Files) (a : AreNumbers m) (f : ℕ) (name : List ℕ) (is : map.get m f ≡ Some name) (p : NumberedPages) (filed : AreFiled m p.files) where
  abbrev n : Files
  n = map.remove m f

  abbrev Was : List ℕ → Type 0
  Was = There m a (λ k. k)

  numbers : AreNumbers n
  numbers = numbers_gone m a f name is

  abbrev Now : List ℕ → Type 0
  Now = There n numbers (λ k. k)

  -- a number that is there still has its name
  stays : (g : ℕ) (other : List ℕ) → map.get n g ≡ Some other → (g ≢ f) × (map.get m g ≡ Some other)
  stays g other at = elim (cases_eq g f) [
    | inl e ↦ absurd (not_both (map.get n g) other (get_gone m f g e) at)
    | inr ne ↦ (ne, sym (get_gone_other m f g ne) ∙ at)
  ]

  to_now : (other : List ℕ) → Others Was name other → Was other × Now other
  to_now other was =
      let g = number_in m other in
      let at = number_there m a (λ k. k) other was.0 in
      let apart : g ≢ f = λ e. was.1 (let same : Some other ≡ Some name = sym at ∙ ap (map.get m) e ∙ is in cc same) in
      (was.0, (name_there n numbers (λ k. k) g other (get_gone_other m f g apart ∙ at)).0)

  from_now : (other : List ℕ) → Was other × Now other → Others Was name other
  from_now other both =
      let at = stays (number_in n other) other (number_there n numbers (λ k. k) other both.1) in
      (both.0, λ e. at.0 (a.once (number_in n other) f other at.1 (is ∙ ap Some (sym e))))

  stay : NumbersStay m n
  stay = λ g other at. inl (stays g other at).1

  keyed : AreUnder Was m p.files (pages_named m p.files)
  keyed = keyed_named m a (λ k. k) p.files filed

  gone : Was name × (number_in m name ≡ f)
  gone = name_there m a (λ k. k) f name is

  rest_is : other_files p (number_in m name) ≡ other_files p f
  rest_is = ap (other_files p) gone.1

  behind : AreUnder (λ x. Was x × Now x) m (other_files p (number_in m name)) (other_files (refiled name_cmp p (pages_named m p.files)) name)
  behind = keyed_by nat_cmp name_cmp (Others Was name) (λ x. Was x × Now x) (number_in m) (λ x. x) (other_files p (number_in m name)) (other_files (refiled name_cmp p (pages_named m p.files)) name) to_now from_now
      (without_keyed nat_cmp_total map.nat_cmp-IsAntisymmetric name_total name_apart Was (number_in m) (λ x. x) p (pages_named m p.files) keyed name gone.0)

  -- the pages of the other files are those of files that are there
  pub filed_left : AreFiled n (without_file p f).files
  filed_left = subst (AreFiled n) (rest_is ∙ sym (without_files nat_cmp_total map.nat_cmp-IsAntisymmetric p f)) (filed_now m n a numbers (λ k. k) (λ k. k) stay (other_files p (number_in m name)) (other_files (refiled name_cmp p (pages_named m p.files)) name) behind)

  -- and by name they are those of the files that are left
  pub named_left_by : named_pages n (without_file p f) ≡ without_file (named_pages m p) name
  named_left_by =
      let rest = named_now m n a numbers (λ k. k) (λ k. k) stay (other_files p (number_in m name)) (other_files (refiled name_cmp p (pages_named m p.files)) name) behind in
      (λ i. refiled name_cmp (without_file p (sym gone.1 i)) (pages_named n ((without_files nat_cmp_total map.nat_cmp-IsAntisymmetric p f ∙ sym rest_is) i)))
      ∙ ap (refiled name_cmp (without_file p (number_in m name))) (sym rest)
      ∙ sym (without_refiled nat_cmp_total map.nat_cmp-IsAntisymmetric name_total name_apart Was (number_in m) (λ x. x) p (pages_named m p.files) keyed name gone.0)

module _ {P : Type 0} {b : _} (m m' : System P b) (t : Tty) (name : List ℕ) (f : ℕ) (there : IsThere m.files f) (called : name_of m.files.dir f ≡ name) (tree : m'.tree ≡ m.tree) (jobs : m'.jobs.items ≡ m.jobs.items) (typed : m'.typed.items ≡ m.typed.items) (panel : m'.panel ≡ m.panel)
    (grows : (u : Tty) → Grows b.means u 0 m.pages m'.pages) (open_stays : OpenStay m.files m'.files) where
  at : map.get m.files.dir f ≡ Some name
  at = named m.files.dir f there ∙ ap Some called

  is_file : (d : DrumWords) → map.contains_key (state_of m d).files name ≡ true
  is_file d = ap is_some (ap (map.get (files_of m.files)) (sym called) ∙ file_there m.files f there)

  times : (d : DrumWords) → times_held (state_of m d).jobs name ≡ times_open_in_all (open_of m.files) (name_of m.files.dir f)
  times d = ap (λ (g : List ℕ → ℕ). g name) (times_as m.typed.items m.jobs.items (open_of m.files) m.unheld) ∙ ap (times_open_in_all (open_of m.files)) (sym called)

  asks : (d : DrumWords) → delete_file (state_of m d) t name ≡ cond (nat_lt 0 (times_open_in_all (open_of m.files) (name_of m.files.dir f))) (told (state_of m d) t (codes "?FILE BUSY")) (prompted (record (state_of m d) { pages = without_file (state_of m d).pages name; files = map.remove (state_of m d).files name }) t [])
  asks d =
      ap (λ r. cond r (cond (nat_lt 0 (times_held (state_of m d).jobs name)) (told (state_of m d) t (codes "?FILE BUSY")) (prompted (record (state_of m d) { pages = without_file (state_of m d).pages name; files = map.remove (state_of m d).files name }) t [])) (told (state_of m d) t (codes "?NO FILE"))) (is_file d)
      ∙ ap (λ k. cond (nat_lt 0 k) (told (state_of m d) t (codes "?FILE BUSY")) (prompted (record (state_of m d) { pages = without_file (state_of m d).pages name; files = map.remove (state_of m d).files name }) t [])) (times d)

  none_held : (k : ℕ) → k ≡ 0 → nat_lt 0 k ≡ false
  none_held k is = ap (nat_lt 0) is

  some_held : (k : ℕ) → 0 < k → nat_lt 0 k ≡ true
  some_held k h = grind (arith, nat_tests)

  module _ (told_pages : (d : DrumWords) → b.means.fits m.pages d → b.means.fits m'.pages d × (b.means.plain m'.pages d ≡ without_file (b.means.plain m.pages d) f)) (times_none : times_open_in_all (open_of m.files) (name_of m.files.dir f) ≡ 0)
      (files : files_of m'.files ≡ map.remove (files_of m.files) (name_of m.files.dir f)) (dir : m'.files.dir ≡ map.remove m.files.dir f) where
    deletes : (d : DrumWords) → FitsPages m d → ◌≡◌ {A = Effect} (delete_file (state_of m d) t name) (record { state = state_of m' d; items = told_items t Prompt (state_of m' d) })
    deletes d fits =
        let old = state_of m d in
        let p = b.means.plain m.pages d in
        let went = (told_pages d fits.pages).1 in
        let pages : named_pages m'.files.dir (b.means.plain m'.pages d) ≡ without_file old.pages name = (λ i. named_pages (dir i) (went i)) ∙ named_left_by m.files.dir m.files.sound.numbers f name at p fits.filed in
        let mine : state_of m' d ≡ record old { pages = without_file old.pages name; files = map.remove old.files name } =
        λ i. record old { pages = pages i; files = (files ∙ ap (map.remove (files_of m.files)) called) i; jobs = jobs_of (open_stays.named i) (typed i) (jobs i); forks = (tree i).forks; fork_serials = (tree i).serials; clock = (panel i).clock; trace = (panel i).trace } in
        asks d ∙ ap (λ r. cond r (told old t (codes "?FILE BUSY")) (prompted (record old { pages = without_file old.pages name; files = map.remove old.files name }) t [])) (none_held _ times_none)
        ∙ (λ i. prompted (sym mine i) t [])

    pub has_deleted : Has m m' (λ s. delete_file s t name) (told_items t Prompt)
    has_deleted =
        has_so m m' (λ s. delete_file s t name) (told_items t Prompt) panel (subst (λ (x : PlainTree). ComeFrom m.tree.forks x.forks) (sym tree) (came_itself m.tree.forks)) (λ u. omega (arith, (grows u).serial)) (grows t).most (grows t).loses
        (λ d fits. let p = b.means.plain m.pages d in record {
          pages = (told_pages d fits.pages).0;
          filed = subst (λ files. AreFiled files (b.means.plain m'.pages d).files) (sym dir) (subst (λ (q : NumberedPages). AreFiled (map.remove m.files.dir f) q.files) (sym (told_pages d fits.pages).1) (filed_left m.files.dir m.files.sound.numbers f name at p fits.filed));
        }) deletes

  module _ (told_pages : (d : DrumWords) → b.means.fits m.pages d → b.means.fits m'.pages d × (b.means.plain m'.pages d ≡ b.means.plain m.pages d)) (times_some : 0 < times_open_in_all (open_of m.files) (name_of m.files.dir f)) (files : m'.files ≡ m.files) where
    refuses : (d : DrumWords) → FitsPages m d → ◌≡◌ {A = Effect} (delete_file (state_of m d) t name) (record { state = state_of m' d; items = told_items t (Refused Busy) (state_of m' d) })
    refuses d fits =
        let old = state_of m d in
        let mine : state_of m' d ≡ old =
        λ i. record old { pages = named_pages (files i).dir ((told_pages d fits.pages).1 i); files = files_of (files i); jobs = jobs_of (open_of (files i)) (typed i) (jobs i); forks = (tree i).forks; fork_serials = (tree i).serials; clock = (panel i).clock; trace = (panel i).trace } in
        asks d ∙ ap (λ r. cond r (told old t (codes "?FILE BUSY")) (prompted (record old { pages = without_file old.pages name; files = map.remove old.files name }) t [])) (some_held _ times_some)
        ∙ (λ i. told (sym mine i) t (codes "?FILE BUSY"))

    pub has_not_deleted : Has m m' (λ s. delete_file s t name) (told_items t (Refused Busy))
    has_not_deleted =
        has_so m m' (λ s. delete_file s t name) (told_items t (Refused Busy)) panel (subst (λ (x : PlainTree). ComeFrom m.tree.forks x.forks) (sym tree) (came_itself m.tree.forks)) (λ u. omega (arith, (grows u).serial)) (grows t).most (grows t).loses
        (λ d fits. fits_left m m' files d (told_pages d fits.pages).0 (ap (λ (q : NumberedPages). q.files) (told_pages d fits.pages).1) fits) refuses
