-- Effects that a system has had, and what is always true of its tables then.
use Rattle.std.proofs.Common.{◌≡◌, ◌≢◌, ℕ, ◌≤◌, ◌<◌, List, length, set, Option, None, Some, sym, ◌∙◌, ap, subst, arith, inl, inr, length-set, get_or-set_same, get_or-set_other}
use Rattle.std.specs.FinMap as map
use Rattle.std.proofs.lemmas.Bool.{cases_eq}
use Rattle.std.proofs.lemmas.List.{length-map}
use Rattle.machine_names.specs.declared.names.ForkName.{ForkName}
use Rattle.machine_names.specs.declared.names.TheConstants.{TERMINALS}
use Rattle.machine_names.specs.declared.names.Tty.{Tty}
use Rattle.script_texts.specs.declared.event.Item.{Item}
use Rattle.page_contracts.specs.DrumWords.{DrumWords}
use Rattle.page_contracts.specs.Pages.{MayLose, PagesMeaning}
use Rattle.ka10_spots.proofs.Stored.{lost_none}
use Rattle.std.specs.Ordering.{nat_cmp}
use Rattle.plain_files.specs.OpenFiles.{OpenFile, OpenFiles, open_at}
use Rattle.plain_model.specs.declared.fork.Fork.{Fork}
use Rattle.plain_model.specs.State.{PlainJob, PlainState}
use Rattle.plain_model.specs.Trees.{PlainTree, with_changed_of}
use Rattle.plain_model.specs.Unit.{Effect}
use Rattle.fork_tree.specs.Trees.{IsTree}
use Rattle.fork_tree.proofs.Slots.{held_lives}
use Rattle.job_forks.specs.Holding.{ComeFrom}
use Rattle.job_forks.proofs.Places.{IsMild, Keep, changed_keeps}
use Rattle.job_commands.specs.Leaving.{LogoutLeaves}
use Rattle.monitor_core.specs.declared.panel.Panel.{Panel}
use Rattle.monitor_calls.specs.declared.job.Job.{Job}
use Rattle.monitor_core.specs.declared.system.System.{System}
use Rattle.monitor_typing.specs.Effects.{Has, job_in}
use Rattle.monitor_calls.specs.Typings.{typing_at}
use Rattle.file_tables.specs.Tables.{open_of}
use Rattle.file_tables.specs.declared.tables.FileTables.{FileTables}
use Rattle.plain_files.specs.NamedFiles.{open_named}
use Rattle.monitor_calls.specs.Jobs.{AreUnheld, job_at, plain_job}
use Rattle.monitor_calls.specs.Sound.{AreSound}
use Rattle.monitor_core.specs.Systems.{FitsPages, state_of}
use Rattle.monitor_core.proofs.Systems.{fits_still, state_left}

-- ---- effects

module _ {P : Type 0} {b : _} (m m' : System P b) (effect : PlainState → Effect) (items : PlainState → List Item) where
  -- an effect is had that leaves this state, in which no unit ran and no page was made
  pub has_so : m'.panel ≡ m.panel → ComeFrom m.tree.forks m'.tree.forks → ((u : Tty) → b.means.serial m'.pages u ≤ b.means.serial m.pages u) → b.means.most m'.pages ≡ b.means.most m.pages → MayLose b.means m.pages m'.pages
      → ((d : DrumWords) → FitsPages m d → FitsPages m' d) → ((d : DrumWords) → FitsPages m d → ◌≡◌ {A = Effect} (effect (state_of m d)) (record { state = state_of m' d; items = items (state_of m' d) })) → Has m m' effect items
  has_so panel come serials most loses fits is = record {
    each = λ d f. (fits d f, ap (λ e. e.state) (sym (is d f)), ap (λ e. e.items) (sym (is d f)));
    within = λ entries w. record {
      ticks = omega (arith, ap (λ (x : Panel). x.clock) panel, w.ticks);
      units = λ f lives. let c = come f lives in omega (arith, c.units, w.units c.before c.lived);
      serials = λ u. omega (arith, serials u, w.serials u);
    };
    most = most;
    loses = loses;
  }

  -- the pages and the files stay
  pub has_left : m'.files ≡ m.files → m'.pages ≡ m.pages → m'.panel ≡ m.panel → ComeFrom m.tree.forks m'.tree.forks
      → ((d : DrumWords) → FitsPages m d → ◌≡◌ {A = Effect} (effect (state_of m d)) (record { state = state_of m' d; items = items (state_of m' d) })) → Has m m' effect items
  has_left files same panel come is = has_so panel come (λ u. omega (arith, ap (λ p. b.means.serial p u) same)) (ap b.means.most same) (subst (MayLose b.means m.pages) (sym same) (lost_none b.means m.pages)) (fits_still m m' files same) is

  -- the same effect
  pub has_as : (effect' : PlainState → Effect) → ((d : DrumWords) → effect' (state_of m d) ≡ effect (state_of m d)) → Has m m' effect items → Has m m' effect' items
  has_as effect' same has = record {
    each = λ d f. let e = has.each d f in (e.0, e.1 ∙ ap (λ x. x.state) (sym (same d)), e.2 ∙ ap (λ x. x.items) (sym (same d)));
    within = has.within;
    most = has.most;
    loses = has.loses;
  }

-- an effect that was had by the same tables
pub has_from : {P : Type 0} {b : _} (m n m' : System P b) (t : Tty) (j : Job) (effect : PlainState → PlainJob → Effect) (items : PlainState → List Item) → n.files ≡ m.files → n.pages ≡ m.pages → n.tree ≡ m.tree → n.jobs.items ≡ m.jobs.items → n.typed.items ≡ m.typed.items → n.panel ≡ m.panel
    → Has n m' (λ s. effect s (job_in n t j)) items → Has m m' (λ s. effect s (job_in m t j)) items
has_from {b = b} m n m' t j effect items files same tree jobs typed panel has = record {
  each = λ d f.
      let e = has.each d (fits_still m n files same d f) in
      let was = state_left m n files same tree jobs typed panel d in
      let had : effect (state_of n d) (job_in n t j) ≡ effect (state_of m d) (job_in m t j) = λ i. effect (was i) (plain_job (open_at (open_of (files i)) t.0) (typing_at (typed i) t.0) j) in
      (e.0, e.1 ∙ ap (λ x. x.state) had, e.2 ∙ ap (λ x. x.items) had);
  within = λ entries w. has.within entries (record {
    ticks = omega (arith, ap (λ (x : Panel). x.clock) panel, w.ticks);
    units = λ f lives. w.units f (ap (λ (x : PlainTree). map.get x.forks f.name) (sym tree) ∙ lives);
    serials = λ u. omega (arith, ap (λ p. b.means.serial p u) same, w.serials u);
  });
  most = has.most ∙ ap b.means.most same;
  loses = subst (λ p. MayLose b.means p m'.pages) same has.loses;
}

-- ---- trees

-- one fork changed, which stands where it stood
pub change_keeps : (tree : PlainTree) → IsTree tree → (n : ForkName) (change : Fork → Fork) → ((k : Fork) → IsMild change k) → Keep tree.forks (with_changed_of tree n change).forks
change_keeps tree is n change mild = changed_keeps tree.forks is.slotted.own change (map.get tree.forks n) (λ k e. (held_lives tree.forks is.slotted n k e, mild k))

-- ---- tables

-- each terminal has its JFNs
pub open_room : (files : FileTables) → length (open_of files) ≡ TERMINALS
open_room files = length-map files.jobs (open_named files.dir) ∙ files.sound.terminals

module _ {P : Type 0} (means : PagesMeaning P) (p q : P) (tree tree' : PlainTree) (jobs : List (Option Job)) (s : AreSound means p tree jobs) where
  -- a job is gone, with its forks
  module _ (t : ℕ) (j : Job) (at : job_at jobs t ≡ Some j) where
    gone_here : job_at (set jobs t None) t ≡ None
    gone_here = get_or-set_same jobs t None None (let job = s.each_job t j at in omega (arith, s.job_room, job.low))

    other_there : (u : ℕ) → (u ≡ t → ⊥) → job_at (set jobs t None) u ≡ job_at jobs u
    other_there u ne = get_or-set_other jobs t u None None ne

    pub sound_gone : LogoutLeaves means p q tree tree' j.top → AreSound means q tree' (set jobs t None)
    sound_gone left = record {
      holds = left.holds;
      job_room = length-set jobs t None ∙ s.job_room;
      each_fork = λ f lives. let c = left.kept f lives in c.within (s.each_fork c.before c.lived);
      each_job = λ u k e. elim (cases_eq u t) [
        | inl same ↦ absurd (let no : None ≡ Some k = sym gone_here ∙ ap (job_at (set jobs t None)) (sym same) ∙ e in cc no)
        | inr ne ↦
            let job = s.each_job u k (sym (other_there u ne) ∙ e) in
            let apart : k.top ≢ j.top = λ same. ne (sym job.terminal ∙ ap (λ n. n.tty.0) same ∙ (s.each_job t j at).terminal) in
            record { terminal = job.terminal; low = job.low; top = left.tops k.top apart job.top }
      ];
      nobody = λ u f e lives at_u. elim (cases_eq u t) [
        | inl same ↦ left.gone f lives (at_u ∙ same ∙ sym (s.each_job t j at).terminal)
        | inr ne ↦ let c = left.kept f lives in s.nobody u c.before (sym (other_there u ne) ∙ e) c.lived (ap (λ n. n.tty.0) (sym c.name) ∙ at_u)
      ];
    }

    pub unheld_gone : (held : List OpenFiles) → t < length held → AreUnheld held jobs → AreUnheld (set held t map.empty) (set jobs t None)
    unheld_gone held within none u e = elim (cases_eq u t) [
      | inl same ↦ ap (λ v. map.len (open_at (set held t map.empty) v)) same ∙ ap map.len (get_or-set_same held t map.empty map.empty within) ∙ map.len-empty nat_cmp OpenFile
      | inr ne ↦ ap map.len (get_or-set_other held t u map.empty map.empty ne) ∙ none u (sym (other_there u ne) ∙ e)
    ]
