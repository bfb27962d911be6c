-- A system with nothing in it.
use Rattle.std.proofs.Common.{◌≤◌, ◌≡◌, ℕ, zero, suc, ◌+◌, List, length, get_or, true, false, Option, None, Some, refl, sym, ◌∙◌, ap, subst, arith, replicate, is_some}
use Rattle.std.specs.List.{cons_option, filter_map, range_with_len}
use Rattle.std.proofs.lemmas.List.{length-replicate}
use Rattle.std.specs.declared.cmp.Ordering.{Ordering}
use Rattle.std.specs.Ordering.{nat_cmp}
use Rattle.std.specs.FinMap as fin
use Rattle.machine_names.specs.declared.names.TheConstants.{MOST_FORKS, TERMINALS}
use Rattle.machine_names.specs.declared.names.ForkName.{ForkName}
use Rattle.machine_names.specs.declared.names.Tty.{Tty}
use Rattle.plain_model.specs.State.{opening}
use Rattle.plain_pages.specs.PlainPages.{opening_pages}
use Rattle.page_contracts.specs.DrumWords.{DrumWords}
use Rattle.plain_model.specs.declared.fork.Fork.{Fork}
use Rattle.machine_names.specs.Orders.{fork_cmp, file_page_cmp, name_cmp}
use Rattle.page_contracts.specs.Pages.{PagesMeaning}
use Rattle.plain_model.specs.Forks.{fork_in}
use Rattle.plain_model.specs.Trees.{PlainTree}
use Rattle.fork_tree.specs.Trees.{Lives, no_forks}
use Rattle.fork_tree.proofs.Kept.{none_tree}
use Rattle.fork_tree.proofs.Slots.{in_none}
use Rattle.job_forks.specs.Holding.{Holds}
use Rattle.monitor_core.specs.declared.panel.Panel.{Panel}
use Rattle.monitor_calls.specs.declared.job.Job.{Job}
use Rattle.monitor_core.specs.declared.system.System.{System}
use Rattle.monitor_calls.specs.declared.typing.Typing.{Typing}
use Rattle.monitor_calls.specs.Jobs.{AreUnheld, map_from, plain_job, no_jobs, job_at, jobs_of}
use Rattle.monitor_calls.specs.Sound.{AreSound}
use Rattle.monitor_calls.specs.Typings.{new_typing, nothing_typed, typing_at}
use Rattle.monitor_core.specs.Systems.{named, state_of, FitsPages, IsWithin}
use Rattle.plain_files.specs.NamedFiles.{AreFiled}
use Rattle.file_tables.specs.declared.tables.FileTables.{FileTables}
use Rattle.monitor_core.proofs.NamedPages.{none_named}
use Rattle.file_tables.specs.Tables.{files_of, no_jobs as no_jfns, open_of}
use Rattle.plain_files.specs.OpenFiles.{OpenFile, OpenFiles, open_at}

-- a table with no entry is the empty map
none_from : {K X V : Type 0} {R : K → K → Ordering} (key : ℕ → X → K) (value : ℕ → X → V) (n k : ℕ) → map_from {R = R} key value k (replicate n None) ≡ fin.empty
none_from key value zero k = refl
none_from key value (suc n) k = none_from key value n (k + 1)

none_at : {X : Type 0} (n i : ℕ) → get_or {A = Option X} (replicate n None) i None ≡ None
none_at zero i = refl
none_at (suc n) zero = refl
none_at (suc n) (suc i) = none_at n i

-- nothing is listed where no look finds anything
none_listed : {X : Type 0} (look : ℕ → Option X) → ((k : ℕ) → look k ≡ None) → (from n : ℕ) → length (filter_map look (range_with_len from n)) ≡ 0
none_listed look none from zero = refl
none_listed look none from (suc n) = ap (λ o. length (cons_option o (filter_map look (range_with_len (from + 1) n)))) (none from) ∙ none_listed look none (from + 1) n

-- nor is a JFN held
pub unheld_boot : (files : FileTables) → open_of files ≡ no_jfns → (jobs : List (Option Job)) → AreUnheld (open_of files) jobs
unfolding no_jfns
unheld_boot files held jobs t gone = ap fin.len (ap (λ o. open_at o t) held ∙ all_empty TERMINALS t) ∙ fin.len-empty nat_cmp OpenFile
  where
    all_empty : (n i : ℕ) → get_or {A = OpenFiles} (replicate n fin.empty) i fin.empty ≡ fin.empty
    all_empty zero i = refl
    all_empty (suc n) zero = refl
    all_empty (suc n) (suc i) = all_empty n i

-- each terminal has its typing
pub typing_room_boot : (typed : List Typing) → typed ≡ nothing_typed TERMINALS → length typed ≡ TERMINALS
unfolding nothing_typed
typing_room_boot typed none = ap length none ∙ length-replicate TERMINALS new_typing

-- no fork lives
nobody : {A : Type 0} (tree : PlainTree) (f : Fork) → tree ≡ no_forks → Lives tree.forks f → A
nobody tree f none e = absurd (let h : None ≡ Some f = sym (fin.get-empty fork_cmp f.name) ∙ ap (λ (x : PlainTree). fin.get x.forks f.name) (sym none) ∙ e in cc h)

module _ (jobs : List (Option Job)) (none : jobs ≡ no_jobs TERMINALS) where
  no_job : (t : ℕ) → job_at jobs t ≡ None
  unfolding no_jobs
  no_job t = ap (λ js. job_at js t) none ∙ none_at TERMINALS t

  none_there : {A : Type 0} (t : ℕ) (j : Job) → job_at jobs t ≡ Some j → A
  none_there t j e = absurd (let f : None ≡ Some j = sym (no_job t) ∙ e in cc f)

  pub sound_boot : {P : Type 0} (means : PagesMeaning P) (p : P) (tree : PlainTree) → tree ≡ no_forks → MOST_FORKS ≤ means.most_forks → ((t : Tty) → means.forks_of p t ≡ 0) → ((f : ForkName) → means.lives p f ≡ false) → AreSound means p tree jobs
  unfolding no_jobs
  sound_boot means p tree empty roomy forks lives = record {
    holds = subst (λ (x : PlainTree). Holds means p x.forks) (sym empty) (record {
      living = λ name. lives name ∙ sym (ap is_some (fin.get-empty fork_cmp name));
      counts = λ t terminal. forks t ∙ sym (none_listed (fork_in no_forks.forks t) (λ slot. in_none no_forks.forks none_tree.slotted t slot (λ f at. nobody no_forks f refl at.0)) 1 MOST_FORKS);
      roomy = roomy;
    });
    job_room = ap length none ∙ length-replicate {A = Option Job} TERMINALS None;
    each_fork = λ f e. nobody tree f empty e;
    each_job = λ t j e. none_there t j e;
    nobody = λ t f e lives at. nobody tree f empty lives;
  }

module _ {P : Type 0} {b : _} (m : System P b) (none : m.jobs.items ≡ no_jobs TERMINALS) (tree : m.tree ≡ no_forks) (panel : m.panel ≡ record { clock = 0; trace = false }) (files : files_of m.files ≡ fin.empty) (held : open_of m.files ≡ no_jfns) where
  pub within_boot : ((t : Tty) → b.means.serial m.pages t ≤ 1) → IsWithin m 0
  within_boot serials = record {
    ticks = omega (arith, ap (λ (x : Panel). x.clock) panel);
    units = λ f e. nobody m.tree f tree e;
    serials = λ t. omega (arith, serials t);
  }

  pub booted : (limit : ℕ) (d : DrumWords) → b.means.fits m.pages d → b.means.plain m.pages d ≡ opening_pages nat_cmp limit → FitsPages m d × (state_of m d ≡ opening limit)
  unfolding opening opening_pages no_jobs
  booted limit d fits is =
      let jobs : jobs_of (open_of m.files) m.typed.items m.jobs.items ≡ fin.empty = ap (jobs_of (open_of m.files) m.typed.items) none ∙ none_from (λ (t : ℕ) (j : Job). t) (λ t j. plain_job (open_at (open_of m.files) t) (typing_at m.typed.items t) j) TERMINALS 0 in (
        record { pages = fits; filed = subst (AreFiled m.files.dir) (sym (ap (λ p. p.files) is)) (λ at there. absurd (let no : false ≡ true = sym (ap is_some (fin.get-empty (file_page_cmp nat_cmp) at)) ∙ there in cc no)) },
        (λ i. record (state_of m d) { pages = named m.files.dir (is i) }) ∙ λ i. record { pages = record (opening_pages name_cmp limit) { files = none_named m.files.dir i }; files = files i; jobs = jobs i; forks = (tree i).forks; fork_serials = (tree i).serials; clock = (panel i).clock; trace = (panel i).trace },
      )
