-- Steps of a system, as steps of the plain machine.
use Rattle.std.proofs.Common.{◌≡◌, ℕ, ◌+◌, ◌*◌, ◌<◌, ◌≤◌, ◌^◌, is_some, List, Option, None, Some, refl, sym, ◌∙◌, ap, subst, arith, inl, inr, length-set}
use Rattle.std.specs.Option.{option_map, option_map_or}
use Rattle.std.specs.FinMap as map
use Rattle.machine_names.specs.declared.names.ForkName.{ForkName}
use Rattle.plain_model.specs.declared.fork.Fork.{Fork}
use Rattle.plain_model.specs.Forks.{change_fork, with_fork}
use Rattle.plain_model.specs.State.{PlainState}
use Rattle.plain_model.specs.Trees.{changed, PlainTree, with_changed_of}
use Rattle.machine_names.specs.declared.names.TheConstants.{ACCUMULATORS}
use Rattle.plain_model.specs.Commands.{restarted}
use Rattle.machine_names.specs.declared.names.Tty.{Tty}
use Rattle.std.proofs.lemmas.Bool.{cases_eq}
use Rattle.monitor_calls.specs.Makings.{Makes, most_makings}
use Rattle.console_access.specs.Writing.{with_accumulator}
use Rattle.fork_tree.specs.Trees.{IsTree, Lives}
use Rattle.fork_tree.proofs.Slots.{held_lives}
use Rattle.monitor_calls.specs.declared.job.Job.{Job}
use Rattle.monitor_core.specs.declared.system.System.{System}
use Rattle.console_access.specs.Holding.{Holds}
use Rattle.page_contracts.specs.DrumWords.{DrumWords}
use Rattle.page_contracts.specs.Pages.{MayLose}
use Rattle.ka10_spots.proofs.Stored.{lost_none}
use Rattle.plain_files.specs.OpenFiles.{OpenFiles}
use Rattle.plain_files.specs.NamedFiles.{AreFiled}
use Rattle.file_tables.specs.declared.tables.FileTables.{FileTables}
use Rattle.file_tables.specs.Tables.{files_of, open_of}
use Rattle.monitor_calls.specs.Jobs.{AreUnheld, job_at, jobs_of}
use Rattle.monitor_core.specs.Systems.{FitsPages, IsWithin, named, state_of}
use Rattle.monitor_calls.specs.Limits.{IsBody}
use Rattle.monitor_calls.specs.Sound.{AreSound}
use Rattle.monitor_calls.proofs.Sounds.{SameTops, lives_now, same_tops, sound_change, sound_same, split_at}

-- what a map of one value gives
pub mapped_some : {X Y : Type 0} (f : X → Y) (o : Option X) (y : Y) → option_map f o ≡ Some y → (x : X) × (o ≡ Some x) × (f x ≡ y)
mapped_some f None y e = absurd (cc e)
mapped_some f (Some x) y e = (x, refl, cc e)

-- a fork that is changed where it lives, as forks
pub change_is : (s : PlainState) (name : ForkName) (change : Fork → Fork) → ((f : Fork) → (change f).name ≡ f.name) → change_fork s name change ≡ record s { forks = changed s.forks change (map.get s.forks name) }
change_is s name change same = by (map.get s.forks name)
  where
    by : (o : Option Fork) → option_map_or (λ f. with_fork s (change f)) o s ≡ record s { forks = changed s.forks change o }
    by None = refl
    by (Some f) = λ i. record s { forks = map.insert s.forks (same f i) (change f) }

-- no JFN is held where no job is, nor where none was
pub unheld_still : (held : List OpenFiles) (jobs jobs' : List (Option Job)) → AreUnheld held jobs → SameTops jobs jobs' → AreUnheld held jobs'
unheld_still held jobs jobs' none tops t gone = none t (tops.none t gone)

-- pages that are as they were have lost nothing
pub lost_still : {P : Type 0} {b : _} (m m' : System P b) → m'.pages ≡ m.pages → MayLose b.means m.pages m'.pages
lost_still {P} {b} m m' same = subst (MayLose b.means m.pages) (sym same) (lost_none b.means m.pages)

module _ {P : Type 0} {b : _} (m m' : System P b) (files : m'.files ≡ m.files) where
  -- the drum fits where the pages of files are those that they were
  pub fits_left : (d : DrumWords) → b.means.fits m'.pages d → (b.means.plain m'.pages d).files ≡ (b.means.plain m.pages d).files → FitsPages m d → FitsPages m' d
  fits_left d fits same f = record {
    pages = fits;
    filed = subst (λ (t : FileTables). AreFiled t.dir (b.means.plain m'.pages d).files) (sym files) (subst (AreFiled m.files.dir) (sym same) f.filed);
  }

  module _ (same : m'.pages ≡ m.pages) where
    pub fits_still : (d : DrumWords) → FitsPages m d → FitsPages m' d
    fits_still d f = fits_left d (subst (λ p. b.means.fits p d) (sym same) f.pages) (ap (λ p. (b.means.plain p d).files) same) f

    -- a state of the same pages and files
    pub state_left : (tree : m'.tree ≡ m.tree) (jobs : m'.jobs.items ≡ m.jobs.items) (typed : m'.typed.items ≡ m.typed.items) (panel : m'.panel ≡ m.panel) (d : DrumWords) → state_of m' d ≡ state_of m d
    state_left tree jobs typed panel d = λ i. record (state_of m d) {
      pages = named (files i).dir (b.means.plain (same i) d);
      files = files_of (files i);
      jobs = jobs_of (open_of (files i)) (typed i) (jobs i);
      forks = (tree i).forks;
      fork_serials = (tree i).serials;
      clock = (panel i).clock;
      trace = (panel i).trace;
    }

module _ {P : Type 0} {b : _} where
  -- the top fork of a job lives
  pub top_fork_of : (m : System P b) (t : ℕ) (j : Job) → job_at m.jobs.items t ≡ Some j → (k : Fork) × (map.get m.tree.forks j.top ≡ Some k) × (k.slot ≡ 1)
  top_fork_of m t j at = mapped_some (λ f. f.slot) (map.get m.tree.forks j.top) 1 (m.sound.each_job t j at).top

  -- and is held by the pages
  pub holds_top : (m : System P b) → IsTree m.tree → (t : ℕ) (j : Job) → job_at m.jobs.items t ≡ Some j → Holds b.means m.pages j.top
  holds_top m is t j at =
      let job = m.sound.each_job t j at in
      let k = top_fork_of m t j at in
      record { lives = m.sound.holds.living j.top ∙ ap is_some k.1; terminal = omega (arith, job.terminal, job.low) }

  -- a fork that lives is held by the pages
  pub holds_fork : (m : System P b) → IsTree m.tree → (f : Fork) → Lives m.tree.forks f → Holds b.means m.pages f.name
  holds_fork m is f lives = record { lives = m.sound.holds.living f.name ∙ ap is_some lives; terminal = (is.slotted.named f lives).0 }

  -- the units of the forks where one of them is another
  pub units_changed : (m : System P b) (entries later : ℕ) (name : ForkName) (g : Fork) → IsWithin m entries → entries ≤ later → g.body.units ≤ later → (f : Fork) → Lives (map.insert m.tree.forks name g) f → f.body.units ≤ later
  units_changed m entries later name g w more few f e = elim (lives_now m.tree.forks name g f e) [
    | inl is ↦ subst (λ (x : Fork). x.body.units ≤ later) is few
    | inr old ↦ omega (arith, more, w.units f old)
  ]

  -- the same where it is changed, if it lives
  pub units_change : (m : System P b) (entries later : ℕ) (n : ForkName) (change : Fork → Fork) → IsTree m.tree → ((f : Fork) → (change f).body.units ≡ f.body.units) → IsWithin m entries → entries ≤ later
      → (f : Fork) → Lives (changed m.tree.forks change (map.get m.tree.forks n)) f → f.body.units ≤ later
  units_change m entries later n change is same w more f = by (map.get m.tree.forks n) refl
    where
      by : (o : Option Fork) → map.get m.tree.forks n ≡ o → Lives (changed m.tree.forks change o) f → f.body.units ≤ later
      by None e lives = omega (arith, more, w.units f lives)
      by (Some k) e lives = units_changed m entries later k.name (change k) w more (omega (arith, same k, w.units k (held_lives m.tree.forks is.slotted n k e), more)) f lives

  -- pages were made for an owner in an entry
  pub serials_made : (m m' : System P b) (entries : ℕ) (owner : Tty) → IsWithin m entries → Makes b.means m.pages m'.pages owner 2 → (u : Tty) → b.means.serial m'.pages u ≤ most_makings * (entries + 1) + 1
  serials_made m m' entries owner w made u = elim (cases_eq u.0 owner.0) [
    | inl same ↦ let is : u ≡ owner = λ i. record { 0 = same i } in omega (arith, ap (b.means.serial m'.pages) is, made.own, w.serials owner)
    | inr ne ↦ omega (arith, made.others u (λ h. ne (ap (λ x. x.0) h)), w.serials u)
  ]

  -- nothing is counted but an entry
  pub within_later : (m : System P b) (entries later : ℕ) → IsWithin m entries → entries ≤ later → IsWithin m later
  within_later m entries later w h = record {
    ticks = omega (arith, w.ticks, h);
    units = λ f e. omega (arith, w.units f e, h);
    serials = λ t. omega (arith, w.serials t, h);
  }

-- a fork with a word in an accumulator stays within its limits, and so does one that is started again
worded_body : (f : Fork) (at word : ℕ) → IsBody f.body → IsBody (with_accumulator at word f).body
worded_body f at word b = record { status = b.status; pc = b.pc; accumulators = length-set f.body.regs.ac at word ∙ b.accumulators }

pub restarted_body : (f : Fork) (address : ℕ) → address < 2 ^ 18 → IsBody f.body → IsBody (restarted address f).body
restarted_body f address low b = record { status = λ c h. absurd (cc h); pc = low; accumulators = b.accumulators }

-- a system with a word put at an address of a fork is sound
pub sound_poked : {P : Type 0} {b : _} (m : System P b) → IsTree m.tree → (q : P) (tree : PlainTree) (jobs : List (Option Job)) (name : ForkName) (address word : ℕ) → b.means.lives q ≡ b.means.lives m.pages → b.means.forks_of q ≡ b.means.forks_of m.pages → jobs ≡ m.jobs.items
    → (address < ACCUMULATORS → tree ≡ with_changed_of m.tree name (with_accumulator address word)) → (ACCUMULATORS ≤ address → tree ≡ m.tree) → AreSound b.means q tree jobs
sound_poked {b = b} m is q tree jobs name address word lives forks same low high =
    let tops = same_tops m.jobs.items jobs same in
    elim (split_at address ACCUMULATORS) [
      | inl small ↦
          subst (λ (x : PlainTree). AreSound b.means q x jobs) (sym (low small))
          (sound_change b.means m.pages q m.tree m.jobs.items jobs m.sound lives forks tops is name (with_accumulator address word) (λ f. refl) (λ f. refl) (λ f. refl) (λ f body. worded_body f address word body))
      | inr above ↦ subst (λ (x : PlainTree). AreSound b.means q x jobs) (sym (high above)) (sound_same b.means m.pages q m.tree m.jobs.items jobs m.sound lives forks tops)
    ]
