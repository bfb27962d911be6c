-- The parts of RUN and LOGOUT, as the plain machine has them.
use Rattle.std.proofs.Common.{◌≡◌, ◌⊎◌, ℕ, ◌≤◌, ◌<◌, ◌^◌, List, [], length, Bool, true, cond, Option, None, Some, set, refl, sym, ◌∙◌, ap, subst, arith, inl, inr, get_or-set_same, get_or-set_other}
use Rattle.std.specs.Prelude.{codes, is_some, slice_index, slice_set, Result, Ok, Err, OnErr, OnOk}
use Rattle.std.specs.Option.{option_map_or}
use Rattle.std.specs.Ordering.{nat_cmp}
use Rattle.std.specs.Cmp.{nat_cmp_total}
use Rattle.number_map.proofs.Keys.{get_gone, get_gone_other}
use Rattle.monitor_calls.specs.declared.typing.Typing.{Typing}
use Rattle.monitor_calls.specs.Typings.{typing_at}
use Rattle.std.specs.FinMap as fin
use Rattle.std.proofs.lemmas.Bool.{cases_eq}
use Rattle.word36.specs.Words.{joined, right}
use Rattle.machine_names.specs.Orders.{name_cmp}
use Rattle.machine_names.specs.PageWords.{zero_words}
use Rattle.machine_names.specs.declared.names.ForkName.{ForkName}
use Rattle.machine_names.specs.declared.names.PageName.{PageName}
use Rattle.machine_names.specs.declared.names.TheConstants.{SPACE_PAGES}
use Rattle.machine_names.specs.declared.names.Tty.{Tty}
use Rattle.page_contracts.specs.DrumWords.{DrumWords}
use Rattle.plain_files.specs.NamedFiles.{AreFiled, name_of, pages_named}
use Rattle.plain_files.specs.OpenFiles.{OpenFiles, open_at}
use Rattle.plain_pages.specs.PlainPages.{NumberedPages, refiled}
use Rattle.plain_pages.specs.References.{names_in, page_at, without_fork, words_of, word_at}
use Rattle.plain_pages.proofs.Kept.{drop_all_leaves}
use Rattle.plain_pages.proofs.Refiled.{NameAlike, fork_refiled}
use Rattle.plain_model.specs.declared.command.TheConstants.{START_WORD}
use Rattle.plain_model.specs.declared.fork.Fork.{Fork}
use Rattle.plain_model.specs.declared.fork.TerminalMode.TheVariants.{Program}
use Rattle.plain_model.specs.Commands.{begun_at, forks_and_pages, in_program, start_address, told, with_forks_and_pages, with_program}
use Rattle.plain_model.specs.FileEvents.{page_named}
use Rattle.plain_model.specs.Forks.{ForkMap}
use Rattle.plain_model.specs.InterruptCalls.{living_codes}
use Rattle.plain_model.specs.ForkCalls.{ForkParts}
use Rattle.plain_model.specs.State.{PlainJob, PlainState}
use Rattle.plain_model.specs.Trees.{PlainTree, with_changed_of}
use Rattle.plain_model.specs.Unit.{Effect}
use Rattle.fork_tree.specs.Inferiors.{without}
use Rattle.job_forks.specs.Holding.{MakesPages, parts}
use Rattle.event_deeds.specs.Deeds.{DeedEffect, begun, deed, goes_on, killed_fork, one_killed, over, purpose_done, running_alone}
use Rattle.event_deeds.specs.Leaves.{last_below}
use Rattle.event_deeds.specs.declared.answer.Showing.TheVariants.{Told}
use Rattle.event_deeds.specs.declared.deed.Deed.{Deed}
use Rattle.event_deeds.specs.declared.deed.Deed.TheVariants.{End, Kill}
use Rattle.event_deeds.specs.declared.deed.Purpose.{Purpose}
use Rattle.event_deeds.specs.declared.deed.Purpose.TheVariants.{Logout, Run}
use Rattle.file_tables.specs.Tables.{FilesStay, IsThere, files_of, open_of}
use Rattle.file_tables.proofs.Names.{absent_by_name}
use Rattle.file_tables.proofs.Pages.{page_at as page_there, page_none}
use Rattle.fork_tree.proofs.Slots.{some_of}
use Rattle.page_contracts.specs.declared.answers.Need.{Need}
use Rattle.page_contracts.specs.Stores.{IsNeeded, StaysPlanned}
use Rattle.page_contracts.proofs.Losing.{needed_more}
use Rattle.job_forks.proofs.Branch.{homed_still}
use Rattle.job_forks.specs.Holding.{StaysHomed}
use Rattle.page_contracts.proofs.Planning.{planned_still}
use Rattle.plain_files.specs.Sizes.{file_at}
use Rattle.monitor_calls.specs.Sound.{AreSound}
use Rattle.monitor_core.specs.declared.panel.Panel.{Panel}
use Rattle.monitor_typing.proofs.CharacterDid.{does_nothing, does_still}
use Rattle.job_commands.specs.Leaving.{LogoutLeaves, RunLeaves, without_last}
use Rattle.job_commands.specs.Programs.{StartsAt, first_page, with_program_begun}
use Rattle.step_shown.specs.declared.echo.Told.TheVariants.{Nothing, Refused}
use Rattle.step_shown.specs.declared.echo.Complaint.TheVariants.{NoProgram}
use Rattle.monitor_calls.specs.declared.job.Job.{Job}
use Rattle.monitor_core.specs.declared.system.System.{System}
use Rattle.step_shown.specs.Echoes.{told_items}
use Rattle.monitor_typing.specs.Deeds.{Does, effect_of}
use Rattle.monitor_typing.specs.Effects.{HasJobAt, job_in}
use Rattle.monitor_calls.specs.Jobs.{job_at, jobs_of, plain_job}
use Rattle.monitor_core.specs.Systems.{FitsPages, Waits, event_frames, named, state_of}
use Rattle.monitor_typing.proofs.CommandPages.{program_leaves, program_same}
use Rattle.monitor_core.proofs.FileDid.{file_there}
use Rattle.monitor_core.proofs.SoundKept.{sound_came}
use Rattle.monitor_typing.proofs.HasDone.{has_so}
use Rattle.monitor_calls.proofs.Sounds.{same_tops}
use Rattle.monitor_calls.proofs.Lookups.{job_found, job_missing, jobs_put}
use Rattle.monitor_core.proofs.NamedPages.{alike_named, named_left}
use Rattle.monitor_core.proofs.Systems.{fits_still, state_left}
use Rattle.monitor_typing.proofs.TypeDid.{low_job, low_typed}

-- no page was made for any owner
none_made : {P : Type 0} {b : _} (m m' : System P b) (t : Tty) → MakesPages b.means t 0 m.pages m'.pages → (u : Tty) → b.means.serial m'.pages u ≤ b.means.serial m.pages u
none_made {b = b} m m' t made u = elim (cases_eq u.0 t.0) [
  | inl same ↦ let is : u ≡ t = λ i. record { 0 = same i } in omega (arith, ap (b.means.serial m'.pages) is, ap (b.means.serial m.pages) is, made.serial)
  | inr ne ↦ omega (arith, made.serials u (λ e. ne (ap (λ (x : Tty). x.0) e)))
]

-- what was typed, with the codes of forks that live
abbrev pub with_living : ForkMap → Typing → Typing
with_living forks y = record y { input = record y.input { codes = living_codes forks y.input.codes } }

-- a fork that ends takes no page from a file
without_leaves : (p : NumberedPages) (f : ForkName) → (without_fork p f).files ≡ p.files
unfolding without_fork
without_leaves p f = ap (λ (q : NumberedPages). q.files) (drop_all_leaves (record p { maps = fin.remove p.maps f }) (names_in p f))

-- the state with other forks and pages, where files name the same
module _ {P : Type 0} {b : _} (m m' : System P b) (d : DrumWords) (fits : FitsPages m d) where
  abbrev p : NumberedPages
  p = b.means.plain m.pages d

  abbrev old : PlainState
  old = state_of m d

  -- by name
  abbrev by_name : ForkParts nat_cmp → ForkParts name_cmp
  by_name w = record { tree = w.tree; pages = refiled name_cmp w.pages (pages_named m.files.dir p.files) }

  alike : NameAlike name_cmp p (pages_named m.files.dir p.files)
  alike = alike_named m.files.dir p m.files.sound.numbers fits.filed

  without_named : (f : ForkName) → by_name (without (parts m.tree p) f) ≡ without (forks_and_pages old) f
  without_named f = λ i. record { tree = record m.tree { forks = fin.remove m.tree.forks f }; pages = sym (fork_refiled name_cmp (pages_named m.files.dir p.files) p f alike) i }

  module _ (files : files_of m'.files ≡ files_of m.files) (dir : m'.files.dir ≡ m.files.dir) (panel : m'.panel ≡ m.panel) (js : fin.FinMap nat_cmp PlainJob) (jobs : jobs_of (open_of m'.files) m'.typed.items m'.jobs.items ≡ js)
      (w : ForkParts nat_cmp) (left : parts m'.tree (b.means.plain m'.pages d) ≡ w) (same : w.pages.files ≡ p.files) where
    becomes : state_of m' d ≡ record (with_forks_and_pages old (by_name w)) { jobs = js }
    becomes =
        let pages : named m'.files.dir (b.means.plain m'.pages d) ≡ refiled name_cmp w.pages (pages_named m.files.dir p.files) = (λ i. named (dir i) (left i).pages) ∙ named_left m.files.dir p w.pages same in
        λ i. record old { pages = pages i; files = files i; jobs = jobs i; forks = (left i).tree.forks; fork_serials = (left i).tree.serials; clock = (panel i).clock; trace = (panel i).trace }

    fits_now : b.means.fits m'.pages d → FitsPages m' d
    fits_now here = record {
      pages = here;
      filed = subst (λ x. AreFiled x (b.means.plain m'.pages d).files) (sym dir) (subst (AreFiled m.files.dir) (sym (ap (λ (v : ForkParts nat_cmp). v.pages.files) left ∙ same)) fits.filed);
    }

-- ---- an inferior is killed

module _ {P : Type 0} {b : _} (m m' : System P b) (t : Tty) (top : ForkName) (purpose : Purpose) (files : m'.files ≡ m.files) (panel : m'.panel ≡ m.panel) (typed : m'.typed.items ≡ m.typed.items) (jobs : m'.jobs.items ≡ m.jobs.items)
    (left : RunLeaves b.means m.pages m'.pages m.tree m'.tree top)
    (told : (d : DrumWords) → b.means.fits m.pages d → b.means.fits m'.pages d × (parts m'.tree (b.means.plain m'.pages d) ≡ without_last (parts m.tree (b.means.plain m.pages d)) top)) where
  abbrev v : DrumWords → ForkParts nat_cmp
  v d = parts m.tree (b.means.plain m.pages d)

  last_leaves : (d : DrumWords) → (without_last (v d) top).pages.files ≡ (b.means.plain m.pages d).files
  last_leaves d = by (last_below m.tree.forks top)
    where
      by : (o : Option Fork) → (option_map_or (λ (f : Fork). without (v d) f.name) o (v d)).pages.files ≡ (b.means.plain m.pages d).files
      by None = refl
      by (Some f) = without_leaves (b.means.plain m.pages d) f.name

  -- which deed comes next
  abbrev after : Option Fork → Deed
  after o = option_map_or (λ (f : Fork). Kill t purpose) o (End t purpose)

  kills : (d : DrumWords) → FitsPages m d → one_killed (state_of m d) t purpose top ≡ goes_on (state_of m' d) (after (last_below m.tree.forks top))
  kills d f =
      let r = told d f.pages in
      let js : jobs_of (open_of m'.files) m'.typed.items m'.jobs.items ≡ jobs_of (open_of m.files) m.typed.items m.jobs.items = λ i. jobs_of (open_of (files i)) (typed i) (jobs i) in
      let now = becomes m m' d f (ap files_of files) (ap (λ x. x.dir) files) panel (state_of m d).jobs js (without_last (v d) top) r.1 (last_leaves d) in
      by (last_below m.tree.forks top) now
    where
      by : (o : Option Fork) → state_of m' d ≡ with_forks_and_pages (state_of m d) (by_name m m' d f (option_map_or (λ (k : Fork). without (v d) k.name) o (v d)))
          → option_map_or (λ (k : Fork). goes_on (killed_fork (state_of m d) k.name) (Kill t purpose)) o (goes_on (state_of m d) (End t purpose)) ≡ goes_on (state_of m' d) (after o)
      by None now = ap (λ s. goes_on s (End t purpose)) (sym now)
      by (Some k) now = ap (λ s. goes_on s (Kill t purpose)) (ap (with_forks_and_pages (state_of m d)) (sym (without_named m m' d f k.name)) ∙ sym now)

  pub does_kill : (next : Deed) → next ≡ after (last_below m.tree.forks top) → Does m m' (λ s. one_killed s t purpose top) (record { showing = Told t Nothing; next = Some next })
  does_kill next is = record {
    has = has_so m m' (λ s. effect_of (one_killed s t purpose top)) (told_items t Nothing) panel left.kept (none_made m m' top.tty left.made) left.made.most left.loses
        (λ d f. let r = told d f.pages in fits_now m m' d f (ap files_of files) (ap (λ x. x.dir) files) panel (state_of m d).jobs (λ i. jobs_of (open_of (files i)) (typed i) (jobs i)) (without_last (v d) top) r.1 (last_leaves d) r.0)
        (λ d f. ap effect_of (kills d f));
    next = λ d f. ap Some is ∙ sym (ap (λ (e : DeedEffect). e.next) (kills d f));
  }

-- ---- the job ends

module _ (held now : List OpenFiles) (typed : List Typing) (js : List (Option Job)) (t : ℕ) (others : (u : ℕ) → (u ≡ t → ⊥) → open_at now u ≡ open_at held u) (within : t < length js) where
  -- a terminal without its job is without an entry of the map
  jobs_gone : jobs_of now typed (set js t None) ≡ fin.remove (jobs_of held typed js) t
  jobs_gone = fin.same_map nat_cmp_total fin.nat_cmp-IsAntisymmetric _ _ (λ u. by u (cases_eq u t))
    where
      other : (u : ℕ) → (u ≡ t → ⊥) → fin.get (jobs_of now typed (set js t None)) u ≡ fin.get (jobs_of held typed js) u
      other u ne = of (job_at js u) refl
        where
          same : job_at (set js t None) u ≡ job_at js u
          same = get_or-set_other js t u None None ne

          of : (o : Option Job) → job_at js u ≡ o → fin.get (jobs_of now typed (set js t None)) u ≡ fin.get (jobs_of held typed js) u
          of None is = job_missing now typed (set js t None) u (same ∙ is) ∙ sym (job_missing held typed js u is)
          of (Some k) is = job_found now typed (set js t None) u k (same ∙ is) ∙ (λ i. Some (plain_job (others u ne i) (typing_at typed u) k)) ∙ sym (job_found held typed js u k is)

      by : (u : ℕ) → (u ≡ t) ⊎ (u ≡ t → ⊥) → fin.get (jobs_of now typed (set js t None)) u ≡ fin.get (fin.remove (jobs_of held typed js) t) u
      by u (inl same) = job_missing now typed (set js t None) u (ap (job_at (set js t None)) same ∙ get_or-set_same js t None None within) ∙ sym (get_gone (jobs_of held typed js) t u same)
      by u (inr ne) = other u ne ∙ sym (get_gone_other (jobs_of held typed js) t u ne)

module _ {P : Type 0} {b : _} (m m' : System P b) (t : Tty) (j : Job) (at : HasJobAt m t j) (panel : m'.panel ≡ m.panel) (typed : m'.typed.items ≡ m.typed.items) (left : LogoutLeaves b.means m.pages m'.pages m.tree m'.tree j.top)
    (files : FilesStay m.files m'.files) (opened : open_of m'.files ≡ slice_set (open_of m.files) t.0 fin.empty) (jobs : m'.jobs.items ≡ set m.jobs.items t.0 None)
    (told : (d : DrumWords) → b.means.fits m.pages d → b.means.fits m'.pages d × (parts m'.tree (b.means.plain m'.pages d) ≡ without (parts m.tree (b.means.plain m.pages d)) j.top)) where
  jobs_left : (d : DrumWords) → jobs_of (open_of m'.files) m'.typed.items m'.jobs.items ≡ fin.remove (state_of m d).jobs t.0
  jobs_left d =
      (λ i. jobs_of (open_of m'.files) (typed i) (jobs i))
      ∙ jobs_gone (open_of m.files) (open_of m'.files) m.typed.items m.jobs.items t.0 (λ u ne. ap (λ o. open_at o u) opened ∙ get_or-set_other (open_of m.files) t.0 u fin.empty fin.empty ne) (low_job m m' t j at)

  ends : (d : DrumWords) → FitsPages m d → ◌≡◌ {A = Effect} (record { state = purpose_done (state_of m d) t (job_in m t j) Logout; items = [] }) (record { state = state_of m' d; items = [] })
  ends d f =
      let w = without (parts m.tree (b.means.plain m.pages d)) j.top in
      let now = becomes m m' d f files.files files.numbers panel (fin.remove (state_of m d).jobs t.0) (jobs_left d) w (told d f.pages).1 (without_leaves (b.means.plain m.pages d) j.top) in
      λ i. record { state = (ap (λ (x : ForkParts name_cmp). record (with_forks_and_pages (state_of m d) x) { jobs = fin.remove (state_of m d).jobs t.0 }) (sym (without_named m m' d f j.top)) ∙ sym now) i; items = [] }

  pub does_logout : Does m m' (λ s. over (record { state = purpose_done s t (job_in m t j) Logout; items = [] })) (record { showing = Told t Nothing; next = None })
  does_logout = record {
    has = has_so m m' (λ s. record { state = purpose_done s t (job_in m t j) Logout; items = [] }) (told_items t Nothing) panel left.kept (none_made m m' j.top.tty left.made) left.made.most left.loses
        (λ d f. fits_now m m' d f files.files files.numbers panel (fin.remove (state_of m d).jobs t.0) (jobs_left d) (without (parts m.tree (b.means.plain m.pages d)) j.top) (told d f.pages).1 (without_leaves (b.means.plain m.pages d) j.top) (told d f.pages).0)
        ends;
    next = λ d f. refl;
  }

-- ---- the program begins

module _ {P : Type 0} {b : _} (m : System P b) (name : List ℕ) (f : ℕ) (there : IsThere m.files f) (called : name_of m.files.dir f ≡ name) where
  -- the file's pages are found under its name
  under : (d : DrumWords) → FitsPages m d → (page : ℕ) → fin.get (pages_named m.files.dir (b.means.plain m.pages d).files) (record { file = name; page = page }) ≡ fin.get (b.means.plain m.pages d).files (record { file = f; page = page })
  under d fits page =
      ap (λ x. fin.get (pages_named m.files.dir (b.means.plain m.pages d).files) (record { file = x; page = page })) (sym called)
      ∙ page_there m.files.dir m.files.sound.numbers (b.means.plain m.pages d).files fits.filed (record { file = f; page = page }) there

  is_file : fin.contains_key (files_of m.files) name ≡ true
  is_file = ap is_some (ap (fin.get (files_of m.files)) (sym called) ∙ file_there m.files f there)

  -- where it begins
  first_named : (d : DrumWords) → FitsPages m d → page_at (state_of m d).pages (page_named name 0) ≡ page_at (b.means.plain m.pages d) (first_page f)
  unfolding page_at
  first_named d fits = under d fits 0

  word_named : (d : DrumWords) → FitsPages m d → word_at (state_of m d).pages (page_named name 0) START_WORD ≡ word_at (b.means.plain m.pages d) (first_page f) START_WORD
  word_named d fits = ap (λ o. slice_index (option_map_or (words_of (b.means.plain m.pages d)) o zero_words) START_WORD) (first_named d fits)

  module _ (t : Tty) where
    starts : (d : DrumWords) → FitsPages m d → (word : ℕ) → StartsAt (b.means.plain m.pages d) f (Some word) → begun (state_of m d) t name ≡ goes_on (state_of m d) (Kill t (Run name (right word)))
    starts d fits word at =
        let page = some_of (page_at (b.means.plain m.pages d) (first_page f)) at.0 in
        ap (λ o. option_map_or (λ (n : PageName). goes_on (state_of m d) (Kill t (Run name (start_address (state_of m d) name)))) o (over (told (state_of m d) t (codes "?NO PROGRAM")))) (first_named d fits ∙ page.1)
        ∙ ap (λ a. goes_on (state_of m d) (Kill t (Run name a))) (ap right (word_named d fits ∙ sym at.1))

    starts_not : (d : DrumWords) → FitsPages m d → StartsAt (b.means.plain m.pages d) f None → begun (state_of m d) t name ≡ over (told (state_of m d) t (codes "?NO PROGRAM"))
    starts_not d fits none = ap (λ o. option_map_or (λ (n : PageName). goes_on (state_of m d) (Kill t (Run name (start_address (state_of m d) name)))) o (over (told (state_of m d) t (codes "?NO PROGRAM")))) (first_named d fits ∙ none)

    pub does_start : (word : ℕ) → ((d : DrumWords) → b.means.fits m.pages d → StartsAt (b.means.plain m.pages d) f (Some word)) → Does m m (λ s. begun s t name) (record { showing = Told t Nothing; next = Some (Kill t (Run name (right word))) })
    does_start word at = does_nothing m (λ s. begun s t name) _ (λ d fits. starts d fits word (at d fits.pages))

    pub does_not_start : ((d : DrumWords) → b.means.fits m.pages d → StartsAt (b.means.plain m.pages d) f None) → Does m m (λ s. begun s t name) (record { showing = Told t (Refused NoProgram); next = None })
    does_not_start none = does_nothing m (λ s. begun s t name) _ (λ d fits. starts_not d fits (none d fits.pages))

module _ {P : Type 0} {b : _} (m m' : System P b) (t : Tty) (j : Job) (at : HasJobAt m t j) (name : List ℕ) (f : ℕ) (there : IsThere m.files f) (called : name_of m.files.dir f ≡ name) where
  module _ (files : m'.files ≡ m.files) (panel : m'.panel ≡ m.panel) (left : RunLeaves b.means m.pages m'.pages m.tree m'.tree j.top) (address : ℕ)
      (word : ℕ) (starts : right word ≡ address) (y : Typing) (typed : m'.typed.items ≡ set m.typed.items t.0 y) (lives : y ≡ with_living m'.tree.forks (typing_at m.typed.items t.0)) (jobs : m'.jobs.items ≡ set m.jobs.items t.0 (Some (record j { mode = Program; start = Some word })))
      (told : (d : DrumWords) → b.means.fits m.pages d → b.means.fits m'.pages d × (parts m'.tree (b.means.plain m'.pages d) ≡ with_program_begun (parts m.tree (b.means.plain m.pages d)) j.top f address)) where
    abbrev was : PlainJob
    was = job_in m t j

    abbrev w : DrumWords → ForkParts nat_cmp
    w d = with_program_begun (parts m.tree (b.means.plain m.pages d)) j.top f address

    abbrev js : (d : DrumWords) → fin.FinMap nat_cmp PlainJob
    js d = fin.insert (state_of m d).jobs t.0 (record (in_program was) { start = Some address; codes = living_codes (w d).tree.forks was.codes })

    jobs_now : (d : DrumWords) → FitsPages m d → jobs_of (open_of m'.files) m'.typed.items m'.jobs.items ≡ js d
    jobs_now d fits =
        let begun : Job = record j { mode = Program; start = Some word } in
        (λ i. jobs_of (open_of (files i)) (typed i) (jobs i))
        ∙ jobs_put (open_of m.files) (open_of m.files) m.typed.items m.jobs.items t.0 y begun (λ u ne. refl) (low_job m m' t j at) (low_typed m m' t j at)
        ∙ ap (λ x. fin.insert (state_of m d).jobs t.0 (plain_job (open_at (open_of m.files) t.0) x begun)) lives
        ∙ (λ i. fin.insert (state_of m d).jobs t.0 (record (in_program was) { start = Some (starts i); codes = living_codes ((told d fits.pages).1 i).tree.forks was.codes }))

    leaves : (d : DrumWords) → (w d).pages.files ≡ (b.means.plain m.pages d).files
    leaves d = program_leaves SPACE_PAGES (b.means.plain m.pages d) j.top f

    program_named : (d : DrumWords) (fits : FitsPages m d) → with_program SPACE_PAGES (state_of m d).pages j.top name ≡ refiled name_cmp (w d).pages (pages_named m.files.dir (b.means.plain m.pages d).files)
    program_named d fits = program_same name_cmp (pages_named m.files.dir (b.means.plain m.pages d).files) f name SPACE_PAGES (b.means.plain m.pages d) j.top (alike m m' d fits) (under m name f there called d fits)

    runs : (d : DrumWords) → FitsPages m d → ◌≡◌ {A = Effect} (record { state = purpose_done (state_of m d) t was (Run name address); items = [] }) (record { state = state_of m' d; items = [] })
    runs d fits =
        let s = state_of m d in
        let now = becomes m m' d fits (ap files_of files) (ap (λ x. x.dir) files) panel (js d) (jobs_now d fits) (w d) (told d fits.pages).1 (leaves d) in
        let mine : running_alone s t was name address ≡ state_of m' d =
        (λ i. record (with_forks_and_pages s (record { tree = with_changed_of m.tree j.top (begun_at address); pages = program_named d fits i })) { jobs = js d }) ∙ sym now in
        λ i. record { state = (ap (λ r. cond r (running_alone s t was name address) s) (is_file m name f there called) ∙ mine) i; items = [] }

    pub does_run : Does m m' (λ s. over (record { state = purpose_done s t was (Run name address); items = [] })) (record { showing = Told t Nothing; next = None })
    does_run = record {
      has = has_so m m' (λ s. record { state = purpose_done s t was (Run name address); items = [] }) (told_items t Nothing) panel left.kept (none_made m m' j.top.tty left.made) left.made.most left.loses
          (λ d fits. fits_now m m' d fits (ap files_of files) (ap (λ x. x.dir) files) panel (js d) (jobs_now d fits) (w d) (told d fits.pages).1 (leaves d) (told d fits.pages).0)
          runs;
      next = λ d fits. refl;
    }

-- which deed comes behind a look for a fork to kill
pub behind_is : (t : Tty) (purpose : Purpose) (some : Bool) (o : Option Fork) → some ≡ is_some o → cond some (Kill t purpose) (End t purpose) ≡ option_map_or (λ (f : Fork). Kill t purpose) o (End t purpose)
behind_is t purpose some o e = ap (λ r. cond r (Kill t purpose) (End t purpose)) e ∙ by o
  where
    by : (o : Option Fork) → cond (is_some o) (Kill t purpose) (End t purpose) ≡ option_map_or (λ (f : Fork). Kill t purpose) o (End t purpose)
    by None = refl
    by (Some f) = refl

-- an address as the right half of a word
pub right_half : (address : ℕ) → address < 2 ^ 18 → right (joined 0 address) ≡ address
right_half address low = omega arith

-- a program that isn't there is not run
pub does_no_run : {P : Type 0} {b : _} (m m' : System P b) (t : Tty) (j : Job) (name : List ℕ) (address : ℕ) → m'.files ≡ m.files → m'.pages ≡ m.pages → m'.tree ≡ m.tree → m'.jobs.items ≡ m.jobs.items → m'.typed.items ≡ m.typed.items → m'.panel ≡ m.panel
    → fin.get (files_of m.files) name ≡ None → Does m m' (λ s. over (record { state = purpose_done s t (job_in m t j) (Run name address); items = [] })) (record { showing = Told t Nothing; next = None })
does_no_run m m' t j name address files same tree jobs typed panel none = does_still m m' (λ s. over (record { state = purpose_done s t (job_in m t j) (Run name address); items = [] })) _ files same tree jobs typed panel
    (λ d fits. ap (λ r. over (record { state = cond r (running_alone (state_of m d) t (job_in m t j) name address) (state_of m d); items = [] })) (ap is_some none))

-- there is no such file
module _ {P : Type 0} {b : _} (m : System P b) (t : Tty) (name : List ℕ) (none : fin.get (files_of m.files) name ≡ None) where
  absent : (d : DrumWords) → FitsPages m d → page_at (state_of m d).pages (page_named name 0) ≡ None
  unfolding page_at
  absent d fits = page_none m.files.dir m.files.sound.numbers (b.means.plain m.pages d).files fits.filed (record { file = name; page = 0 }) (absent_by_name m.files.dir m.files.sound.numbers (file_at m.files.lengths) name none)

  pub does_lack : Does m m (λ s. begun s t name) (record { showing = Told t (Refused NoProgram); next = None })
  does_lack = does_nothing m (λ s. begun s t name) _
      (λ d fits. ap (λ o. option_map_or (λ (n : PageName). goes_on (state_of m d) (Kill t (Run name (start_address (state_of m d) name)))) o (over (told (state_of m d) t (codes "?NO PROGRAM")))) (absent d fits))

-- ---- nothing was done, since this is needed first

pub waits_left : {P : Type 0} {b : _} (m m' : System P b) (n : Need) → m'.files ≡ m.files → m'.pages ≡ m.pages → m'.tree ≡ m.tree → m'.jobs.items ≡ m.jobs.items → m'.typed.items ≡ m.typed.items → m'.panel ≡ m.panel → IsNeeded b.means.store 1 m.pages n → Waits event_frames m m' n
waits_left {b = b} m m' n files same tree jobs typed panel needed = record {
  each = λ d f. (fits_still m m' files same d f, state_left m m' files same tree jobs typed panel d);
  within = λ entries w. record {
    ticks = omega (arith, ap (λ (x : Panel). x.clock) panel, w.ticks);
    units = λ f lives. w.units f (ap (λ (x : PlainTree). fin.get x.forks f.name) (sym tree) ∙ lives);
    serials = λ u. omega (arith, ap (λ q. b.means.serial q u) same, w.serials u);
  };
  most = ap b.means.most same;
  planned = subst (StaysPlanned b.means.store m.pages) (sym same) (planned_still b.means.store m.pages);
  beside = record { tree = tree; files = files; jobs = jobs; typed = typed; panel = panel };
  pages = λ d fits. (subst (λ q. b.means.fits q d) (sym same) fits, ap (λ q. b.means.plain q d) same);
  homed = subst (StaysHomed b.means m.pages) (sym same) (homed_still b.means m.pages);
  needed = subst (λ q. IsNeeded b.means.store event_frames q n) (sym same) (needed_more b.means.store 1 event_frames m.pages n (omega arith) needed);
}

-- it is sound still
pub sound_left : {P : Type 0} {b : _} (m : System P b) (q : P) (tree : PlainTree) → tree ≡ m.tree → q ≡ m.pages → AreSound b.means q tree m.jobs.items
sound_left {b = b} m q tree is same = subst (λ x. AreSound b.means x tree m.jobs.items) (sym same) (subst (λ (x : PlainTree). AreSound b.means m.pages x m.jobs.items) (sym is) m.sound)

-- whether a fork was killed or its map is needed first
pub sound_after : {P X E : Type 0} {b : _} (m : System P b) (q : P) (tree : PlainTree) (top : ForkName) (r : Result X E) → OnOk r (RunLeaves b.means m.pages q m.tree tree top) → OnErr r ((tree ≡ m.tree) × (q ≡ m.pages)) → AreSound b.means q tree m.jobs.items
sound_after {b = b} m q tree top (Ok x) left same = sound_came b.means m.pages q m.tree tree m.jobs.items m.sound m.jobs.items (same_tops m.jobs.items m.jobs.items refl) left.holds left.kept left.tops
sound_after m q tree top (Err e) left same = sound_left m q tree same.0 same.1
