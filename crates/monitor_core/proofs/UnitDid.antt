-- Units of a system, as units of the plain machine.
use Rattle.std.proofs.Common.{◌≡◌, ℕ, ◌+◌, ◌*◌, ◌<◌, ◌≤◌, ◌&&◌, List, length, slice_set, Bool, true, false, cond, not, Option, None, Some, refl, sym, ◌∙◌, ap, subst, arith, inl, inr, ◌==◌}
use Rattle.std.proofs.lemmas.Bool.{cases_eq}
use Rattle.std.specs.Option.{option_map, option_map_or}
use Rattle.std.specs.Ordering.{nat_cmp}
use Rattle.std.specs.FinMap as fin
use Rattle.std.specs.Prelude.{IsSome}
use Rattle.machine_names.specs.declared.names.TheConstants.{MOST_FORKS, TERMINALS}
use Rattle.machine_names.specs.declared.names.Tty.{Tty}
use Rattle.plain_model.specs.declared.fork.Fork.{Fork}
use Rattle.script_texts.specs.declared.status.ForkStatus.TheVariants.{Run}
use Rattle.plain_model.specs.declared.fork.TerminalMode.TheVariants.{Command}
use Rattle.script_texts.specs.declared.event.Step.TheVariants.{Unit as AUnit}
use Rattle.machine_names.specs.declared.names.ForkName.{ForkName}
use Rattle.plain_model.specs.Forks.{is_frozen}
use Rattle.page_contracts.specs.DrumWords.{DrumWords}
use Rattle.page_contracts.specs.declared.answers.Need.{Need}
use Rattle.page_contracts.specs.Stores.{IsNeeded, StaysPlanned}
use Rattle.plain_model.specs.State.{PlainJob}
use Rattle.plain_model.specs.Trees.{PlainTree, next_name}
use Rattle.plain_model.proofs.ForkMaps.{AreOwn}
use Rattle.fork_tree.specs.Trees.{IsTree, Lives}
use Rattle.fork_tree.proofs.Slots.{some_of}
use Rattle.job_forks.specs.Holding.{IsNew, StaysHomed}
use Rattle.job_forks.specs.Limits.{AreWithin}
use Rattle.job_forks.proofs.Holdings.{holds_same}
use Rattle.job_forks.proofs.Places.{Keep, keep_itself}
use Rattle.monitor_core.specs.declared.panel.Panel.{Panel}
use Rattle.monitor_calls.specs.Limits.{unit_frames}
use Rattle.monitor_calls.specs.declared.job.Job.{Job}
use Rattle.step_shown.specs.declared.reply.Reply.TheVariants.{Ran}
use Rattle.step_shown.specs.declared.shown.Shown.{Shown}
use Rattle.step_shown.specs.declared.shown.Stop.{Stop}
use Rattle.step_shown.specs.declared.shown.Stop.TheVariants.{GoesOn}
use Rattle.monitor_core.specs.declared.system.System.{System}
use Rattle.monitor_calls.specs.declared.typing.Typing.{Typing}
use Rattle.monitor_calls.specs.declared.units.Units.{Units}
use Rattle.monitor_calls.specs.ForkUnit.{Behind, HasJob, LeavesForks, Tables, UnitWaits, UnitsRan, rest_of}
use Rattle.monitor_calls.specs.Jobs.{AreUnheld, job_at, jobs_left, jobs_of}
use Rattle.step_shown.specs.Runners.{told_at, told_where}
use Rattle.step_shown.specs.Replies.{FitsLine, line_before, ran_items}
use Rattle.step_shown.specs.Shown.{FitsShown, FitsStop, is_stop, seen_of}
use Rattle.monitor_calls.specs.Sound.{AreSound}
use Rattle.plain_files.specs.NamedFiles.{AreFiled, pages_named}
use Rattle.plain_files.specs.Sizes.{file_at}
use Rattle.file_tables.specs.declared.tables.FileTables.{FileTables}
use Rattle.file_tables.specs.Keys.{key_of}
use Rattle.plain_files.specs.OpenFiles.{OpenFiles}
use Rattle.file_tables.specs.Tables.{files_of, open_of}
use Rattle.monitor_core.specs.Systems.{DidAll, FitsPages, IsWithin, Waits, named, state_of}
use Rattle.monitor_calls.specs.Makings.{most_makings}
use Rattle.monitor_core.proofs.Told.{end_keeps}
use Rattle.monitor_calls.proofs.Lookups.{job_found, job_missing, jobs_set}
use Rattle.monitor_core.proofs.Rows.{Entries, units_as}
use Rattle.monitor_calls.proofs.Sounds.{SameTops, same_tops, same_tops_set}
use Rattle.monitor_core.proofs.Filed.{NamedFiles}
use Rattle.monitor_calls.proofs.JfnsAsked.{held_there}
use Rattle.monitor_calls.proofs.NamedKeys.{filed_now, keyed_named, named_now}
use Rattle.monitor_core.proofs.Systems.{fits_left, unheld_still}
use Rattle.monitor_core.proofs.UnitEffect.{Runs, behind_state, jobs_seen}

-- the tables of a system
abbrev pub tables_of : {P : Type 0} {b : _} → System P b → Tables
tables_of m = record { tree = m.tree; files = m.files; jobs = m.jobs.items; typed = m.typed.items; clock = m.panel.clock }

-- the jobs of which one gives its terminal to the monitor, as the plain state has them
module _ (held : List OpenFiles) (typed : List Typing) where
  pub jobs_left_seen : (jobs : List (Option Job)) (t : Tty) (stops : Bool) → t.0 < length jobs → jobs_of held typed (jobs_left jobs t.0 stops) ≡ jobs_seen (jobs_of held typed jobs) t stops
  jobs_left_seen jobs t false low = refl
  jobs_left_seen jobs t true low = by (job_at jobs t.0) refl
    where
      left : Option Job → List (Option Job)
      left o = option_map_or (λ (j : Job). slice_set jobs t.0 (Some (record j { mode = Command }))) o jobs

      seen : Option PlainJob → fin.FinMap nat_cmp PlainJob
      seen o = option_map_or (λ (j : PlainJob). fin.insert (jobs_of held typed jobs) t.0 (record j { mode = Command })) o (jobs_of held typed jobs)

      by : (o : Option Job) → job_at jobs t.0 ≡ o → jobs_of held typed (left o) ≡ seen (fin.get (jobs_of held typed jobs) t.0)
      by None none = ap seen (sym (job_missing held typed jobs t.0 none))
      by (Some j) there = jobs_set held typed jobs t.0 (record j { mode = Command }) low ∙ ap seen (sym (job_found held typed jobs t.0 j there))

-- and each terminal has the same top fork
pub tops_left : (jobs : List (Option Job)) (t : ℕ) (stops : Bool) → t < length jobs → SameTops jobs (jobs_left jobs t stops)
tops_left jobs t false low = same_tops jobs jobs refl
tops_left jobs t true low = by (job_at jobs t) refl
  where
    by : (o : Option Job) → job_at jobs t ≡ o → SameTops jobs (option_map_or (λ (j : Job). slice_set jobs t (Some (record j { mode = Command }))) o jobs)
    by None none = same_tops jobs jobs refl
    by (Some j) there = same_tops_set jobs t j (record j { mode = Command }) low there refl

pub seen_fits : (b : Bool) (stop : Stop) → FitsStop stop → FitsStop (cond b GoesOn stop)
seen_fits true stop fits = tt
seen_fits false stop fits = fits

-- the forks once it is told that one has ended, where it has stopped: each in its place, within its limits
told_keeps : (tree : PlainTree) → AreOwn tree.forks → (name : ForkName) (stops : Bool) → Keep tree.forks (told_at tree name stops).forks
told_keeps tree own name stops = by (fin.get tree.forks name)
  where
    where_keeps : (g : Fork) (b : Bool) → Keep tree.forks (told_where tree.forks g b)
    where_keeps g true = end_keeps tree.forks own g
    where_keeps g false = keep_itself tree.forks own

    by : (o : Option Fork) → Keep tree.forks (option_map_or (λ g. told_where tree.forks g stops) o tree.forks)
    by None = keep_itself tree.forks own
    by (Some g) = where_keeps g stops

-- and which they are
told_is : (tree : PlainTree) (name : ForkName) (stops : Bool) (g : Fork) → fin.get tree.forks name ≡ Some g → told_at tree name stops ≡ record tree { forks = told_where tree.forks g stops }
told_is tree name stops g there = ap (λ o. record tree { forks = option_map_or (λ h. told_where tree.forks h stops) o tree.forks }) there

module _ {P : Type 0} {b : _} (m : System P b) (f : Fork) (trees : IsTree m.tree) (lives : Lives m.tree.forks f) where
  low : f.name.tty.0 < TERMINALS
  low = (trees.slotted.named f lives).0

  within_jobs : f.name.tty.0 < length m.jobs.items
  within_jobs = omega (arith, m.sound.job_room, low)

  -- its terminal has a job
  pub has_job : HasJob m.files m.jobs.items m.typed.items f.name.tty
  has_job = record { terminal = low; room = m.sound.job_room; typing_room = m.typing_room; there = by (job_at m.jobs.items f.name.tty.0) refl; unheld = m.unheld }
    where
      by : (o : Option Job) → job_at m.jobs.items f.name.tty.0 ≡ o → IsSome (job_at m.jobs.items f.name.tty.0)
      by None none = absurd (m.sound.nobody f.name.tty.0 f none lives refl)
      by (Some j) there = subst IsSome (sym there) refl

  -- no JFN is held where no job is, whoever reads the terminal
  pub unheld_left : (files : FileTables) → AreUnheld (open_of files) m.jobs.items → {jobs' : List (Option Job)} (shown : Shown) → jobs' ≡ jobs_left m.jobs.items f.name.tty.0 (is_stop shown) → AreUnheld (open_of files) jobs'
  unheld_left files unheld shown jobs = subst (AreUnheld (open_of files)) (sym jobs) (unheld_still (open_of files) m.jobs.items (jobs_left m.jobs.items f.name.tty.0 (is_stop shown)) unheld (tops_left m.jobs.items f.name.tty.0 (is_stop shown) within_jobs))

  -- behind units of a fork, and once it is told that it has ended
  module _ (q : P) (left tree' : PlainTree) (count : ℕ) (leaves : LeavesForks b.means m.pages q m.tree left f count) (left_trees : IsTree left) (keeps : Keep left.forks tree'.forks) where
    left_within : AreWithin left.forks
    left_within g there = elim (leaves.kept g there) [
      | inl came ↦ came.within (m.sound.each_fork came.before came.lived)
      | inr new ↦ new.within
    ]

    -- a fork of a job has no more units
    few_units : (entries : ℕ) → IsWithin m entries → (g : Fork) → Lives tree'.forks g → g.body.units ≤ entries + count
    few_units entries w g there =
        let k = keeps.come g there in
        elim (leaves.kept k.before k.lived) [
          | inl came ↦ omega (arith, k.units, came.units, w.units came.before came.lived)
          | inr new ↦ omega (arith, k.units, new.units)
        ]

    -- nor has a terminal that has none now
    none_before : (t : ℕ) → ((g : Fork) → Lives m.tree.forks g → g.name.tty.0 ≡ t → ⊥) → (g : Fork) → Lives left.forks g → g.name.tty.0 ≡ t → ⊥
    none_before t none g there at = elim (leaves.kept g there) [
      | inl came ↦ none came.before came.lived (ap (λ (n : ForkName). n.tty.0) (sym came.name) ∙ at)
      | inr new ↦ made new (some_of g.superior new.below)
    ]
      where
        made : IsNew m.tree g → (slot : ℕ) × (g.superior ≡ Some slot) → ⊥
        made new over =
            let o = left_trees.superiors g over.0 there over.1 in
            elim (leaves.kept o.0 o.1.0) [
              | inl came ↦ none came.before came.lived (ap (λ (n : ForkName). n.tty.0) (sym came.name) ∙ o.1.1 ∙ at)
              | inr also ↦
                  let job : o.0.name.tty ≡ g.name.tty = λ i. record { 0 = o.1.1 i } in
                  let same : o.0.name.serial ≡ g.name.serial = ap (λ (n : ForkName). n.serial) (also.name ∙ ap (next_name m.tree) job ∙ sym new.name) in
                  omega (arith, same, o.2)
            ]

    -- the tables stay sound
    pub units_sound : IsTree tree' → (jobs' : List (Option Job)) (shown : Shown) → jobs' ≡ jobs_left m.jobs.items f.name.tty.0 (is_stop shown) → AreSound b.means q tree' jobs'
    units_sound now jobs' shown jobs =
        let tops = tops_left m.jobs.items f.name.tty.0 (is_stop shown) within_jobs in
        subst (AreSound b.means q tree') (sym jobs) (record {
          holds = holds_same b.means q left.forks tree'.forks left_trees.slotted now.slotted keeps.same leaves.holds;
          job_room = tops.room ∙ m.sound.job_room;
          each_fork = λ g there. let k = keeps.come g there in k.within (left_within k.before k.lived);
          each_job = λ t k e.
              let j = tops.tops t k e in
              let job = m.sound.each_job t j.0 j.1 in
              record {
                terminal = ap (λ n. n.tty.0) j.2 ∙ job.terminal;
                low = job.low;
                top = keeps.same k.top ∙ leaves.tops k.top (ap (λ n. option_map (λ f. f.slot) (fin.get m.tree.forks n)) j.2 ∙ job.top);
              };
          nobody = λ t g e there at.
              let k = keeps.come g there in
              none_before t (λ h lived. m.sound.nobody t h (tops.none t e) lived) k.before k.lived (ap (λ (n : ForkName). n.tty.0) (sym k.name) ∙ at);
        })

  -- the tables before the units, and behind them
  abbrev was : Tables
  was = tables_of m

  abbrev now : PlainTree → FileTables → List Typing → Tables
  now left files typed = record was { tree = left; files = files; typed = typed }

  module _ (q : P) (left tree' : PlainTree) (files : FileTables) (typed : List Typing) (units : Units) (ran : UnitsRan b.means m.pages q was (now left files typed) f units) (left_trees : IsTree left) (told : tree' ≡ told_at left f.name (is_stop units.shown)) where
    pub left_keeps : Keep left.forks tree'.forks
    left_keeps = subst (λ (x : PlainTree). Keep left.forks x.forks) (sym told) (told_keeps left left_trees.slotted.own f.name (is_stop units.shown))

    told_so : (d : DrumWords) → b.means.fits m.pages d → tree' ≡ record left { forks = told_where left.forks ran.after (is_stop units.shown) }
    told_so d fits = told ∙ told_is left f.name (is_stop units.shown) ran.after (ap (fin.get left.forks) (sym ran.keeps.name) ∙ ran.there d fits)

    module _ (m' : System P b) (files_are : m'.files ≡ files) (typed_are : m'.typed.items ≡ typed) (pages_are : m'.pages ≡ q) (tree_is : m'.tree ≡ tree') (shown : Shown) (runs : f.body.status ≡ Run) (thawed : is_frozen MOST_FORKS m.tree.forks (Some f) ≡ false)
        (seen : shown ≡ seen_of f.slot units.shown) (jobs : m'.jobs.items ≡ jobs_left m.jobs.items f.name.tty.0 (is_stop shown)) (panel : m'.panel ≡ m.panel) (some : 1 ≤ units.count)
        (line : Option ℕ) (line_is : line ≡ line_before m.panel.trace (Some f)) (single : IsSome line → units.count ≤ 1) where
      -- a row of units has no line
      quiet : 2 ≤ units.count → m.panel.trace ≡ false
      quiet more = by m.panel.trace refl
        where
          by : (b : Bool) → m.panel.trace ≡ b → b ≡ false
          by true on = absurd (let few = single (subst IsSome (sym (line_is ∙ ap (λ t. line_before t (Some f)) on)) refl) in omega (arith, few, more))
          by false off = refl

      line_fits : (b : Bool) → FitsLine (line_before b (Some f))
      line_fits true = (m.sound.each_fork f lives).pc
      line_fits false = tt

      module _ (d : DrumWords) (fits : FitsPages m d) where
        abbrev last : Behind
        last = record { rest = rest_of (now left files typed); fork = ran.after; pages = b.means.plain q d; shown = units.shown }

        -- the pages of files under names
        abbrev filed : NamedFiles
        filed = pages_named m.files.dir (b.means.plain m.pages d).files

        can_run : Runs (key_of m.files) filed (state_of m d) f (b.means.plain m.pages d)
        can_run = record { trees = trees; fork = lives; pages = refl; kept = keyed_named m.files.dir m.files.sound.numbers (file_at m.files.lengths) (b.means.plain m.pages d).files fits.filed; held = held_there was (b.means.plain m.pages d); runs = runs; thawed = thawed }

        entries : Entries (key_of m.files) filed (state_of m d) f (b.means.plain m.pages d) can_run units.count f.body.regs.pc last
        entries = units_as (key_of m.files) filed (state_of m d) f (b.means.plain m.pages d) can_run units.count last quiet (ran.told d fits.pages).1

        -- the pages of files that are left, under names
        left_named : entries.left ≡ pages_named files.dir (b.means.plain q d).files
        left_named = named_now m.files.dir files.dir m.files.sound.numbers files.sound.numbers (file_at m.files.lengths) (file_at files.lengths) (ran.numbers d fits.pages) (b.means.plain q d).files entries.left entries.kept

        left_filed : AreFiled files.dir (b.means.plain q d).files
        left_filed = filed_now m.files.dir files.dir m.files.sound.numbers files.sound.numbers (file_at m.files.lengths) (file_at files.lengths) (ran.numbers d fits.pages) (b.means.plain q d).files entries.left entries.kept

        state_is : state_of m' d ≡ behind_state entries.left (state_of m d) f last
        state_is =
            let held = open_of files in
            let jobs_are : jobs_of (open_of m'.files) m'.typed.items m'.jobs.items ≡ jobs_seen (jobs_of held typed m.jobs.items) f.name.tty (is_stop (seen_of f.slot units.shown)) =
            (λ i. jobs_of (open_of (files_are i)) (typed_are i) (jobs i)) ∙ jobs_left_seen held typed m.jobs.items f.name.tty (is_stop shown) within_jobs ∙ ap (λ x. jobs_seen (jobs_of held typed m.jobs.items) f.name.tty (is_stop x)) seen in
            let tree_so = tree_is ∙ told_so d fits.pages in
            (λ i. record (state_of m' d) { pages = named (files_are i).dir (b.means.plain (pages_are i) d); files = files_of (files_are i); jobs = jobs_are i; forks = (tree_so i).forks; fork_serials = (tree_so i).serials; clock = (panel i).clock; trace = (panel i).trace })
            ∙ ap (λ (x : NamedFiles). behind_state x (state_of m d) f last) (sym left_named)

        fits_now : FitsPages m' d
        fits_now = record {
          pages = subst (λ (x : P). b.means.fits x d) (sym pages_are) (ran.told d fits.pages).0;
          filed = subst (λ (x : FileTables). AreFiled x.dir (b.means.plain m'.pages d).files) (sym files_are) (subst (λ (x : P). AreFiled files.dir (b.means.plain x d).files) (sym pages_are) left_filed);
        }

      -- units that ran in a row
      pub did_units : DidAll m m' (AUnit f.name) units.count (Ran f.name line shown)
      did_units = record {
        fits = λ d fits. fits_now d fits;
        legal = λ d fits. (entries d fits).legal;
        state = λ d fits. state_is d fits ∙ sym (entries d fits).state;
        items = λ d fits. (λ i. ran_items f.name (line_is i) (seen i)) ∙ sym (entries d fits).items;
        runs = λ d fits. (entries d fits).runs;
        shown = (trees.slotted.named f lives, subst FitsLine (sym line_is) (line_fits m.panel.trace), subst FitsShown (sym seen) (let fits = ran.shown in (fits.0, seen_fits (is_stop units.shown && not (f.slot == 1)) units.shown.stop fits.1)));
        within = λ n w. record {
          ticks = omega (arith, ap (λ (x : Panel). x.clock) panel, w.ticks);
          units = λ g there. few_units q left tree' units.count ran.leaves left_trees left_keeps n w g (ap (λ (x : PlainTree). fin.get x.forks g.name) (sym tree_is) ∙ there);
          serials = λ u. subst (λ (x : P). b.means.serial x u ≤ most_makings * (n + units.count) + 1) (sym pages_are) (serials_left n w u);
        };
        most = ap b.means.most pages_are ∙ ran.leaves.made.most;
      }
        where
          serials_left : (n : ℕ) → IsWithin m n → (u : Tty) → b.means.serial q u ≤ most_makings * (n + units.count) + 1
          serials_left n w u = elim (cases_eq u.0 f.name.tty.0) [
            | inl same ↦ let is : u ≡ f.name.tty = λ i. record { 0 = same i } in omega (arith, ap (b.means.serial q) is, ran.leaves.made.serial, w.serials f.name.tty, some)
            | inr ne ↦ omega (arith, ran.leaves.made.serials u (λ h. ne (ap (λ x. x.0) h)), w.serials u)
          ]

  -- where the first unit needs something first
  module _ (q : P) (left : PlainTree) (files : FileTables) (typed : List Typing) (n : Need) (waits : UnitWaits b.means m.pages q was (now left files typed) f n) (left_trees : IsTree left) where
    pub waits_sound : AreSound b.means q left m.jobs.items
    waits_sound = units_sound q left left 0 waits.leaves left_trees (keep_itself left.forks left_trees.slotted.own) left_trees m.jobs.items (record { out = None; stop = GoesOn }) refl

    pub waits_unheld : AreUnheld (open_of files) m.jobs.items
    waits_unheld = subst (λ (x : FileTables). AreUnheld (open_of x) m.jobs.items) (sym waits.told.files) m.unheld

    pub waits_still : (m' : System P b) → m'.files ≡ files → m'.pages ≡ q → m'.tree ≡ left → m'.jobs ≡ m.jobs → m'.typed.items ≡ typed → m'.panel ≡ m.panel → Waits unit_frames m m' n
    waits_still m' files_are pages_are tree_is jobs_are typed_are panel = record {
      each = λ d fits.
          let t = waits.told.each d fits.pages in
          let files_same : m'.files ≡ m.files = files_are ∙ waits.told.files in
          let typed_same : m'.typed.items ≡ m.typed.items = typed_are ∙ waits.told.typed in
          let same : b.means.plain m'.pages d ≡ b.means.plain m.pages d = ap (λ (x : P). b.means.plain x d) pages_are ∙ t.1 in
          let tree_same = tree_is ∙ waits.told.tree in (
            fits_left m m' files_same d (subst (λ (x : P). b.means.fits x d) (sym pages_are) t.0) (ap (λ x. x.files) same) fits,
            λ i. record (state_of m' d) { pages = named (files_same i).dir (same i); files = files_of (files_same i); jobs = jobs_of (open_of (files_same i)) (typed_same i) (jobs_are i).items; forks = (tree_same i).forks; fork_serials = (tree_same i).serials; clock = (panel i).clock; trace = (panel i).trace },
          );
      within = λ entries w. record {
        ticks = omega (arith, ap (λ (x : Panel). x.clock) panel, w.ticks);
        units = λ g there. omega (arith, few_units q left left 0 waits.leaves left_trees (keep_itself left.forks left_trees.slotted.own) entries w g (ap (λ (x : PlainTree). fin.get x.forks g.name) (sym tree_is) ∙ there));
        serials = λ u. subst (λ (x : P). b.means.serial x u ≤ most_makings * entries + 1) (sym pages_are) (serials_still entries w u);
      };
      most = ap b.means.most pages_are ∙ waits.unmade.made.most;
      planned = subst (StaysPlanned b.means.store m.pages) (sym pages_are) waits.unmade.planned;
      beside = record { tree = tree_is ∙ waits.told.tree; files = files_are ∙ waits.told.files; jobs = ap (λ x. x.items) jobs_are; typed = typed_are ∙ waits.told.typed; panel = panel };
      pages = λ d fits. (let t = waits.told.each d fits in (subst (λ (x : P). b.means.fits x d) (sym pages_are) t.0, ap (λ (x : P). b.means.plain x d) pages_are ∙ t.1));
      homed = subst (StaysHomed b.means m.pages) (sym pages_are) waits.unmade.homed;
      needed = subst (λ (x : P). IsNeeded b.means.store unit_frames x n) (sym pages_are) waits.needed;
    }
      where
        serials_still : (entries : ℕ) → IsWithin m entries → (u : Tty) → b.means.serial q u ≤ most_makings * entries + 1
        serials_still entries w u = elim (cases_eq u.0 f.name.tty.0) [
          | inl same ↦ let is : u ≡ f.name.tty = λ i. record { 0 = same i } in omega (arith, ap (b.means.serial q) is, waits.unmade.made.serial, w.serials f.name.tty)
          | inr ne ↦ omega (arith, waits.unmade.made.serials u (λ h. ne (ap (λ x. x.0) h)), w.serials u)
        ]
