-- The steps that are no job's: TICK, TRACE and LOGIN.
use Rattle.std.proofs.Common.{◌≡◌, ℕ, ◌+◌, ◌<◌, ◌≤◌, [], ◌∷◌, List, length, set, Bool, true, false, cond, Option, None, Some, refl, sym, ◌∙◌, ap, arith, nat_lt, nat_le, is_some, slice_index}
use Rattle.std.proofs.lemmas.Bool.Decides.{nat_tests}
use Rattle.std.specs.Option.{option_map}
use Rattle.std.specs.FinMap as fin
use Rattle.word36.specs.Words.{right}
use Rattle.machine_names.specs.declared.names.TheConstants.{LAST_SERIAL}
use Rattle.machine_names.specs.declared.character.TheConstants.{PROMPT}
use Rattle.machine_names.specs.declared.names.Tty.{Tty}
use Rattle.plain_pages.specs.declared.map.NewMap.TheVariants.{Empty as EmptyMap}
use Rattle.plain_model.specs.declared.fork.TerminalMode.TheVariants.{Command}
use Rattle.script_texts.specs.declared.event.Event.TheVariants.{Login, Tick, Trace}
use Rattle.script_texts.specs.declared.event.Step.TheVariants.{Outer}
use Rattle.script_texts.specs.declared.event.Item.TheVariants.{Char}
use Rattle.script_texts.specs.declared.event.Refusal.TheVariants.{Busy, SerialsOut, Full}
use Rattle.machine_names.specs.Orders.{name_cmp}
use Rattle.page_contracts.specs.DrumWords.{DrumWords}
use Rattle.machine_names.specs.Bounds.{IsTerminal}
use Rattle.plain_pages.specs.Room.{live, HasRoom}
use Rattle.plain_model.specs.Forks.{top_fork}
use Rattle.plain_model.specs.Unit.{Effect, refused}
use Rattle.plain_model.specs.Trees.{PlainTree, next_name, sleepers_awoken, tree_of}
use Rattle.fork_tree.specs.Trees.{IsTree}
use Rattle.page_contracts.specs.Pages.{Agrees, MayLose}
use Rattle.plain_model.specs.Events.{with_job, new_job, outer}
use Rattle.plain_model.specs.State.{PlainState}
use Rattle.plain_pages.specs.NewMaps.{with_map}
use Rattle.plain_model.proofs.Equations.{apply_outer, outer_login, outer_tick}
use Rattle.plain_pages.proofs.Refiled.{live_refiled}
use Rattle.fork_tree.specs.Making.{with_new_in}
use Rattle.monitor_core.specs.declared.panel.Panel.{Panel}
use Rattle.monitor_calls.specs.declared.job.Job.{Job}
use Rattle.step_shown.specs.declared.reply.Reply.TheVariants.{Nothing, One}
use Rattle.monitor_core.specs.declared.system.System.{System}
use Rattle.monitor_calls.specs.Jobs.{jobs_of, job_at, plain_job}
use Rattle.monitor_calls.specs.Typings.{new_typing}
use Rattle.plain_files.specs.NamedFiles.{pages_named}
use Rattle.plain_files.specs.OpenFiles.{open_at}
use Rattle.file_tables.specs.Tables.{files_of, open_of}
use Rattle.monitor_core.specs.Systems.{named, state_of, FitsPages, Did}
use Rattle.monitor_calls.proofs.Lookups.{job_found, job_missing, jobs_put}
use Rattle.monitor_core.proofs.Sleepers.{sleepers_keep}
use Rattle.monitor_core.proofs.Systems.{fits_left, fits_still, lost_still, units_changed}
use Rattle.monitor_core.proofs.Rooms.{room_le, no_room_le, live_map, has_room}
use Rattle.monitor_core.proofs.NamedPages.{alike_named}

outer_trace : (s : PlainState) (on : Bool) → outer s (Trace on) ≡ (record { state = record s { trace = on }; items = [] })
unfolding outer
outer_trace s on = refl

module _ {P : Type 0} {b : _} (m m' : System P b) where
  pub did_tick : IsTree m.tree → m'.pages ≡ m.pages → m'.files ≡ m.files → m'.jobs.items ≡ m.jobs.items → m'.typed.items ≡ m.typed.items → m'.panel ≡ record m.panel { clock = m.panel.clock + 1 }
      → m'.tree ≡ record m.tree { forks = sleepers_awoken (m.panel.clock + 1) m.tree.forks } → Did m m' (Outer Tick) Nothing
  did_tick trees same files jobs typed panel tree = record {
    each = λ d f.
        let old = state_of m d in
        let effect = apply_outer old Tick ∙ outer_tick old in (
          fits_still m m' files same d f,
          (λ i. record old { pages = named (files i).dir (b.means.plain (same i) d); files = files_of (files i); jobs = jobs_of (open_of (files i)) (typed i) (jobs i); forks = (tree i).forks; fork_serials = (tree i).serials; clock = (panel i).clock; trace = (panel i).trace }) ∙ ap (λ e. e.state) (sym effect),
          ap (λ e. e.items) (sym effect),
        );
    shown = tt;
    within = λ entries w. record {
      ticks = omega (arith, ap (λ (x : Panel). x.clock) panel, w.ticks);
      units = λ f e.
          let came = (sleepers_keep (m.panel.clock + 1) m.tree.forks trees.slotted.own).come f (ap (λ (x : PlainTree). fin.get x.forks f.name) (sym tree) ∙ e) in
          omega (arith, came.units, w.units came.before came.lived);
      serials = λ t. omega (arith, ap (λ p. b.means.serial p t) same, w.serials t);
    };
    most = ap b.means.most same;
    loses = lost_still m m' same;
  }

  pub did_trace : (on : Bool) → m'.pages ≡ m.pages → m'.files ≡ m.files → m'.tree ≡ m.tree → m'.jobs.items ≡ m.jobs.items → m'.typed.items ≡ m.typed.items → m'.panel ≡ record m.panel { trace = on } → Did m m' (Outer (Trace on)) Nothing
  did_trace on same files tree jobs typed panel = record {
    each = λ d f.
        let old = state_of m d in
        let effect = apply_outer old (Trace on) ∙ outer_trace old on in (
          fits_still m m' files same d f,
          (λ i. record old { pages = named (files i).dir (b.means.plain (same i) d); files = files_of (files i); jobs = jobs_of (open_of (files i)) (typed i) (jobs i); forks = (tree i).forks; fork_serials = (tree i).serials; clock = (panel i).clock; trace = (panel i).trace }) ∙ ap (λ e. e.state) (sym effect),
          ap (λ e. e.items) (sym effect),
        );
    shown = tt;
    within = λ entries w. record {
      ticks = omega (arith, ap (λ (x : Panel). x.clock) panel, w.ticks);
      units = λ f e. omega (arith, w.units f (ap (λ (x : PlainTree). fin.get x.forks f.name) (sym tree) ∙ e));
      serials = λ t. omega (arith, ap (λ p. b.means.serial p t) same, w.serials t);
    };
    most = ap b.means.most same;
    loses = lost_still m m' same;
  }

pub missing : {X : Type 0} (o : Option X) → is_some o ≡ false → o ≡ None
missing None h = refl
missing (Some x) h = absurd (cc h)

over : (a b : ℕ) → a < b → nat_lt a b ≡ true
over a b h = grind (arith, nat_tests)

not_over : (a b : ℕ) → b ≤ a → nat_lt a b ≡ false
not_over a b h = grind (arith, nat_tests)

module _ {P : Type 0} {b : _} (m : System P b) (t : Tty) (user : List ℕ) where
  -- what LOGIN comes to, by its three questions
  abbrev asked : DrumWords → Bool → Bool → Bool → Effect
  asked d has out room =
      let old = state_of m d in
      cond has (refused old (Busy t)) (cond out (refused old (SerialsOut t)) (cond room (record { state = with_job old t user; items = Char t PROMPT ∷ [] }) (refused old (Full t))))

  abbrev room : DrumWords → Bool
  room d = HasRoom (with_map (state_of m d).pages (next_name (tree_of (state_of m d)) t) EmptyMap) t

  asks : (d : DrumWords) → outer (state_of m d) (Login t user) ≡ asked d (is_some (fin.get (state_of m d).jobs t.0)) (nat_lt LAST_SERIAL (slice_index m.tree.serials t.0)) (room d)
  asks d = outer_login (state_of m d) t user

  -- the terminal has a job
  pub is_busy : (d : DrumWords) → is_some (job_at m.jobs.items t.0) ≡ true → outer (state_of m d) (Login t user) ≡ refused (state_of m d) (Busy t)
  is_busy d has = asks d ∙ ap (λ h. asked d h (nat_lt LAST_SERIAL (slice_index m.tree.serials t.0)) (room d)) (there (job_at m.jobs.items t.0) refl has)
    where
      there : (o : Option Job) → job_at m.jobs.items t.0 ≡ o → is_some o ≡ true → is_some (fin.get (state_of m d).jobs t.0) ≡ true
      there None is h = absurd (cc h)
      there (Some j) is h = ap is_some (job_found (open_of m.files) m.typed.items m.jobs.items t.0 j is)

  module _ (free : job_at m.jobs.items t.0 ≡ None) where
    not_busy : (d : DrumWords) → outer (state_of m d) (Login t user) ≡ asked d false (nat_lt LAST_SERIAL (slice_index m.tree.serials t.0)) (room d)
    not_busy d = asks d ∙ ap (λ h. asked d h (nat_lt LAST_SERIAL (slice_index m.tree.serials t.0)) (room d)) (ap is_some (job_missing (open_of m.files) m.typed.items m.jobs.items t.0 free))

    -- its serials are used up
    pub serials_are_out : (d : DrumWords) → LAST_SERIAL < slice_index m.tree.serials t.0 → outer (state_of m d) (Login t user) ≡ refused (state_of m d) (SerialsOut t)
    serials_are_out d used = not_busy d ∙ ap (λ o. asked d false o (room d)) (over LAST_SERIAL (slice_index m.tree.serials t.0) used)

    module _ (d : DrumWords) (f : FitsPages m d) (a : Agrees b.means m.pages (b.means.plain m.pages d)) (dead : b.means.lives m.pages (next_name (tree_of (state_of m d)) t) ≡ false) (unused : slice_index m.tree.serials t.0 ≤ LAST_SERIAL) where
      room_is : room d ≡ nat_le (b.means.count m.pages + 1) (b.means.most m.pages)
      room_is =
          let p = b.means.plain m.pages d in
          let name = next_name (tree_of (state_of m d)) t in
          let none : fin.get p.maps name ≡ None = missing (fin.get p.maps name) (sym (a.living name) ∙ dead) in
          let counted : live (named m.files.dir p) ≡ b.means.count m.pages = live_refiled name_cmp p (pages_named m.files.dir p.files) (alike_named m.files.dir p m.files.sound.numbers f.filed) ∙ sym a.number in
          has_room (with_map (named m.files.dir p) name EmptyMap) t (b.means.count m.pages + 1) (b.means.most m.pages) (live_map (named m.files.dir p) name none ∙ ap (λ n. n + 1) counted) (sym a.bound)

      answered : (r : Bool) → nat_le (b.means.count m.pages + 1) (b.means.most m.pages) ≡ r → outer (state_of m d) (Login t user) ≡ asked d false false r
      answered r is =
          not_busy d ∙ ap (λ o. asked d false o (room d)) (not_over LAST_SERIAL (slice_index m.tree.serials t.0) unused) ∙ ap (asked d false false) (room_is ∙ is)

      -- there is no room
      pub is_full : b.means.most m.pages ≤ b.means.count m.pages → outer (state_of m d) (Login t user) ≡ refused (state_of m d) (Full t)
      is_full filled = answered false (no_room_le (b.means.count m.pages + 1) (b.means.most m.pages) (omega (arith, filled)))

      pub logs_in : b.means.count m.pages < b.means.most m.pages → ◌≡◌ {A = Effect} (outer (state_of m d) (Login t user)) (record { state = with_job (state_of m d) t user; items = Char t PROMPT ∷ [] })
      logs_in roomy = answered true (room_le (b.means.count m.pages + 1) (b.means.most m.pages) (omega (arith, roomy)))

    -- the job is made
    pub did_login : (m' : System P b) (k : Job) → IsTerminal t → slice_index m.tree.serials t.0 ≤ LAST_SERIAL → ((d : DrumWords) → b.means.fits m.pages d → Agrees b.means m.pages (b.means.plain m.pages d)) → b.means.lives m.pages (next_name m.tree t) ≡ false
        → b.means.count m.pages < b.means.most m.pages → m'.tree ≡ with_new_in m.tree t None 1 → m'.files ≡ m.files → m'.jobs.items ≡ set m.jobs.items t.0 (Some k) → m'.typed.items ≡ set m.typed.items t.0 new_typing → k.user ≡ user → k.mode ≡ Command → k.top ≡ next_name m.tree t → k.start ≡ None → m'.panel ≡ m.panel
        → ((d : DrumWords) → b.means.fits m.pages d → b.means.fits m'.pages d × (b.means.plain m'.pages d ≡ with_map (b.means.plain m.pages d) (next_name m.tree t) EmptyMap)) → b.means.serial m'.pages ≡ b.means.serial m.pages → b.means.most m'.pages ≡ b.means.most m.pages → MayLose b.means m.pages m'.pages
        → Did m m' (Outer (Login t user)) (One (Char t PROMPT))
    did_login m' k low unused agrees dead room tree files set_to typed_to user_is mode top start panel told pages most loses = record {
      each = λ d fits.
          let old = state_of m d in
          let added = told d fits.pages in
          let f = next_name m.tree t in
          let within : t.0 < length m.jobs.items = omega (arith, m.sound.job_room, low) in
          let room_typed : t.0 < length m.typed.items = omega (arith, m.typing_room, low) in
          let plain_k : plain_job (open_at (open_of m.files) t.0) new_typing k ≡ new_job user f = λ i. record (new_job user f) { user = user_is i; mode = mode i; top = top i; start = option_map right (start i); jfns = fin.empty_of_len (open_at (open_of m.files) t.0) (m.unheld t.0 free) i } in
          let jobs : jobs_of (open_of m'.files) m'.typed.items m'.jobs.items ≡ fin.insert old.jobs t.0 (new_job user f) = (λ i. jobs_of (open_of (files i)) (typed_to i) (set_to i)) ∙ jobs_put (open_of m.files) (open_of m.files) m.typed.items m.jobs.items t.0 new_typing k (λ u ne. refl) within room_typed ∙ ap (fin.insert old.jobs t.0) plain_k in
          let mine : state_of m' d ≡ with_job old t user = λ i. record old { pages = named (files i).dir (added.1 i); files = files_of (files i); jobs = jobs i; forks = (tree i).forks; fork_serials = (tree i).serials; clock = (panel i).clock; trace = (panel i).trace } in
          let effect = apply_outer old (Login t user) ∙ logs_in d fits (agrees d fits.pages) dead unused room in (
            fits_left m m' files d added.0 (ap (λ p. p.files) added.1) fits,
            mine ∙ ap (λ e. e.state) (sym effect),
            ap (λ e. e.items) (sym effect),
          );
      shown = (low, omega arith);
      within = λ entries w. record {
        ticks = omega (arith, ap (λ (x : Panel). x.clock) panel, w.ticks);
        units = λ f lives. units_changed m entries (entries + 1) (next_name m.tree t) (top_fork (next_name m.tree t)) w (omega arith) (omega arith) f (ap (λ (x : PlainTree). fin.get x.forks f.name) (sym tree) ∙ lives);
        serials = λ u. omega (arith, ap (λ s. s u) pages, w.serials u);
      };
      most = most;
      loses = loses;
    }
