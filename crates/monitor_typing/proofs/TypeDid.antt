-- A character that is typed, as the plain machine has it.
use Rattle.std.proofs.Common.{◌≡◌, ℕ, ◌<◌, [], ◌∷◌, ◌++◌, length, set, true, cond, Option, None, Some, refl, sym, ◌∙◌, ap, arith, nat_lt}
use Rattle.std.specs.Option.{option_map_or}
use Rattle.std.proofs.lemmas.Bool.Decides.{nat_tests}
use Rattle.std.specs.FinMap as fin
use Rattle.machine_names.specs.declared.character.TheConstants.{LINE_END}
use Rattle.machine_names.specs.declared.names.Tty.{Tty}
use Rattle.page_contracts.specs.DrumWords.{DrumWords}
use Rattle.plain_files.specs.OpenFiles.{open_at}
use Rattle.plain_typing.specs.declared.typed.TheConstants.{MOST_STORED}
use Rattle.plain_typing.specs.Commands.{command_of}
use Rattle.plain_typing.specs.declared.command.Command.{Command as ACommand}
use Rattle.plain_model.specs.declared.fork.TerminalMode.{TerminalMode}
use Rattle.plain_model.specs.declared.fork.TerminalMode.TheVariants.{Command, Program}
use Rattle.plain_model.specs.State.{PlainJob, PlainState}
use Rattle.plain_model.specs.Commands.{commanded, with_job_at}
use Rattle.plain_model.specs.Trees.{PlainTree, readers_woken, with_mark}
use Rattle.plain_model.specs.TypeEvents.{echo, interrupted, line_typed, rings, stopped_by, stored}
use Rattle.plain_model.specs.Unit.{Effect}
use Rattle.file_tables.specs.Tables.{files_of, open_of}
use Rattle.step_shown.specs.declared.echo.Echo.TheVariants.{Shows, Stops}
use Rattle.step_shown.specs.declared.echo.Told.TheVariants.{Nothing as Silent}
use Rattle.event_deeds.specs.Deeds.{DeedEffect, command_begun, for_job, goes_on, line_begun, over}
use Rattle.event_deeds.specs.declared.deed.Deed.{Deed}
use Rattle.ka10_spots.proofs.Stored.{lost_on}
use Rattle.monitor_typing.specs.Deeds.{Does, begins_with, line_end}
use Rattle.monitor_typing.proofs.Commanded.{begun_is}
use Rattle.step_shown.specs.declared.echo.Told.{Told}
use Rattle.monitor_calls.specs.declared.job.Job.{Job}
use Rattle.monitor_core.specs.declared.system.System.{System}
use Rattle.monitor_calls.specs.declared.typing.Typing.{Typing}
use Rattle.step_shown.specs.Echoes.{echo_items, told_items}
use Rattle.monitor_typing.specs.Effects.{Has, HasJobAt, job_in, stopped_tree}
use Rattle.monitor_calls.specs.Jobs.{jobs_of, job_at, plain_job}
use Rattle.monitor_core.specs.Systems.{FitsPages, named, state_of}
use Rattle.monitor_calls.specs.Typings.{typing_at}
use Rattle.monitor_calls.proofs.Lookups.{job_found, job_missing, jobs_put, jobs_typed}
use Rattle.monitor_core.proofs.Systems.{change_is}

module _ {P : Type 0} {b : _} (m m' : System P b) (t : Tty) (j : Job) (at : HasJobAt m t j) where
  abbrev was : PlainJob
  was = job_in m t j

  -- the terminal is one of the tables'
  pub low_job : t.0 < length m.jobs.items
  low_job = let job = m.sound.each_job t.0 j at in omega (arith, m.sound.job_room, job.low)

  pub low_typed : t.0 < length m.typed.items
  low_typed = let job = m.sound.each_job t.0 j at in omega (arith, m.typing_room, job.low)

  module _ (files : m'.files ≡ m.files) (same : m'.pages ≡ m.pages) (panel : m'.panel ≡ m.panel) (y : Typing) (typed : m'.typed.items ≡ set m.typed.items t.0 y) (d : DrumWords) where
    abbrev old : PlainState
    old = state_of m d

    -- what was typed is other, and so are job and tree
    pub typed_job : (k : Job) (tree : PlainTree) → m'.jobs.items ≡ set m.jobs.items t.0 (Some k) → m'.tree ≡ tree
        → state_of m' d ≡ record (with_job_at old t (plain_job (open_at (open_of m.files) t.0) y k)) { forks = tree.forks; fork_serials = tree.serials }
    typed_job k tree jobs tree_is =
        let now : jobs_of (open_of m'.files) m'.typed.items m'.jobs.items ≡ fin.insert old.jobs t.0 (plain_job (open_at (open_of m.files) t.0) y k) =
        (λ i. jobs_of (open_of (files i)) (typed i) (jobs i)) ∙ jobs_put (open_of m.files) (open_of m.files) m.typed.items m.jobs.items t.0 y k (λ u ne. refl) low_job low_typed in
        λ i. record old { pages = named (files i).dir (b.means.plain (same i) d); files = files_of (files i); jobs = now i; forks = (tree_is i).forks; fork_serials = (tree_is i).serials; clock = (panel i).clock; trace = (panel i).trace }

    -- the job is the same
    pub typed_alone : (tree : PlainTree) → m'.jobs.items ≡ m.jobs.items → m'.tree ≡ tree
        → state_of m' d ≡ record (with_job_at old t (plain_job (open_at (open_of m.files) t.0) y j)) { forks = tree.forks; fork_serials = tree.serials }
    typed_alone tree jobs tree_is =
        let now : jobs_of (open_of m'.files) m'.typed.items m'.jobs.items ≡ fin.insert old.jobs t.0 (plain_job (open_at (open_of m.files) t.0) y j) =
        (λ i. jobs_of (open_of (files i)) (typed i) (jobs i)) ∙ jobs_typed (open_of m.files) (open_of m.files) m.typed.items m.jobs.items t.0 y j (λ u ne. refl) low_job low_typed at in
        λ i. record old { pages = named (files i).dir (b.means.plain (same i) d); files = files_of (files i); jobs = now i; forks = (tree_is i).forks; fork_serials = (tree_is i).serials; clock = (panel i).clock; trace = (panel i).trace }

    -- control-C
    pub interrupts : y ≡ record (typing_at m.typed.items t.0) { line = record { items = [] } } → m'.jobs.items ≡ set m.jobs.items t.0 (Some (record j { mode = Command })) → m'.tree ≡ stopped_tree j.mode m.tree j.top
        → ◌≡◌ {A = Effect} (interrupted old t was) (record { state = state_of m' d; items = echo_items t Stops (state_of m' d) })
    interrupts line jobs tree =
        let now = typed_job (record j { mode = Command }) (stopped_tree j.mode m.tree j.top) jobs tree in
        let job : plain_job (open_at (open_of m.files) t.0) y (record j { mode = Command }) ≡ record was { mode = Command; line = [] } = ap (λ x. plain_job (open_at (open_of m.files) t.0) x (record j { mode = Command })) line in
        let mine : state_of m' d ≡ with_job_at (stopped_by j.mode old was) t (record was { mode = Command; line = [] }) = now ∙ ap (λ x. record (with_job_at old t x) { forks = (stopped_tree j.mode m.tree j.top).forks; fork_serials = (stopped_tree j.mode m.tree j.top).serials }) job ∙ stops j.mode in
        λ i. record { state = sym mine i; items = echo_items t Stops old }
      where
        stops : (mode : TerminalMode) → record (with_job_at old t (record was { mode = Command; line = [] })) { forks = (stopped_tree mode m.tree j.top).forks; fork_serials = (stopped_tree mode m.tree j.top).serials } ≡ with_job_at (stopped_by mode old was) t (record was { mode = Command; line = [] })
        stops Program = ap (λ (s : PlainState). with_job_at s t (record was { mode = Command; line = [] })) (sym (change_is old j.top (with_mark true) (λ f. refl)))
        stops Command = refl

    -- a character is stored
    pub stores : (code : ℕ) → y ≡ record (typing_at m.typed.items t.0) { input = record ((typing_at m.typed.items t.0).input) { input = (typing_at m.typed.items t.0).input.input ++ code ∷ [] } } → m'.jobs.items ≡ m.jobs.items
        → m'.tree ≡ record m.tree { forks = readers_woken m.tree.forks t } → ◌≡◌ {A = Effect} (stored old t was code) (record { state = state_of m' d; items = echo_items t (Shows code) (state_of m' d) })
    stores code input jobs tree =
        let now = typed_alone (record m.tree { forks = readers_woken m.tree.forks t }) jobs tree in
        let job : plain_job (open_at (open_of m.files) t.0) y j ≡ record was { input = was.input ++ code ∷ [] } = ap (λ x. plain_job (open_at (open_of m.files) t.0) x j) input in
        let mine = now ∙ ap (λ x. record (with_job_at old t x) { forks = readers_woken m.tree.forks t }) job in
        λ i. record { state = sym mine i; items = echo t code }

    -- a line is longer
    pub lengthens : (code : ℕ) → length (typing_at m.typed.items t.0).line.items < MOST_STORED → y ≡ record (typing_at m.typed.items t.0) { line = record { items = (typing_at m.typed.items t.0).line.items ++ code ∷ [] } } → m'.jobs.items ≡ m.jobs.items → m'.tree ≡ m.tree
        → ◌≡◌ {A = Effect} (line_typed old t was code) (record { state = state_of m' d; items = echo_items t (Shows code) (state_of m' d) })
    lengthens code room line jobs tree =
        let now = typed_alone m.tree jobs tree in
        let job : plain_job (open_at (open_of m.files) t.0) y j ≡ record was { line = was.line ++ code ∷ [] } = ap (λ x. plain_job (open_at (open_of m.files) t.0) x j) line in
        let mine = now ∙ ap (λ x. with_job_at old t x) job in
        let few : nat_lt (length was.line) MOST_STORED ≡ true = grind (arith, nat_tests) in
        ap (λ r. cond r (record { state = with_job_at old t (record was { line = was.line ++ code ∷ [] }); items = echo t code }) (rings old t)) few
        ∙ (λ i. record { state = sym mine i; items = echo t code })

    -- a line is taken
    pub takes_line : y ≡ record (typing_at m.typed.items t.0) { line = record { items = [] } } → m'.jobs.items ≡ m.jobs.items → m'.tree ≡ m.tree
        → ◌≡◌ {A = Effect} (record { state = with_job_at old t (record was { line = [] }); items = [] }) (record { state = state_of m' d; items = [] })
    takes_line line jobs tree =
        let now = typed_alone m.tree jobs tree in
        let job : plain_job (open_at (open_of m.files) t.0) y j ≡ record was { line = [] } = ap (λ x. plain_job (open_at (open_of m.files) t.0) x j) line in
        λ i. record { state = sym (now ∙ ap (λ x. with_job_at old t x) job) i; items = [] }

  -- a line is over, and its command was done, or begun
  module _ (mid : System P b) (first : Has m mid (λ s. record { state = with_job_at s t (record was { line = [] }); items = [] }) (λ s. [])) (left : job_in mid t j ≡ record was { line = [] }) where
    abbrev taken : PlainState → PlainState
    taken s = with_job_at s t (record was { line = [] })

    abbrev asked : ACommand
    asked = command_of j.user was.line

    begun_so : (next : Option Deed) → begins_with (files_of mid.files) t asked ≡ next → (d : DrumWords) → FitsPages m d
        → command_begun (taken (state_of m d)) t (record was { line = [] }) asked ≡ option_map_or (goes_on (state_of mid d)) next (over (commanded (state_of mid d) t (job_in mid t j) asked))
    begun_so next begins d f =
        let e = first.each d f in
        let now : state_of mid d ≡ taken (state_of m d) = e.1 in
        let files : files_of m.files ≡ files_of mid.files = ap (λ (s : PlainState). s.files) (sym now) in
        begun_is (taken (state_of m d)) t (record was { line = [] }) asked
        ∙ (λ i. option_map_or (goes_on (sym now i)) ((ap (λ x. begins_with x t asked) files ∙ begins) i) (over (commanded (sym now i) t (sym left i) asked)))

    line_so : (e : DeedEffect) (s : PlainState) → command_begun (taken s) t (record was { line = [] }) asked ≡ e → line_begun s t was ≡ record e { items = echo t LINE_END ++ e.items }
    line_so e s is = ap (λ (x : DeedEffect). record x { items = echo t LINE_END ++ x.items }) is

    pub line_done : (told : Told) → begins_with (files_of mid.files) t asked ≡ None → Has mid m' (λ s. commanded s t (job_in mid t j) asked) (told_items t told) → Does m m' (λ s. line_begun s t was) (line_end t told None)
    line_done told begins second = record {
      has = record {
        each = λ d f.
            let e = first.each d f in
            let g = second.each d e.0 in
            let is = line_so (over (commanded (state_of mid d) t (job_in mid t j) asked)) (state_of m d) (begun_so None begins d f) in
            (g.0, g.1 ∙ sym (ap (λ (x : DeedEffect). x.state) is), ap (λ x. echo t LINE_END ++ x) g.2 ∙ sym (ap (λ (x : DeedEffect). x.items) is));
        within = λ entries w. second.within entries (first.within entries w);
        most = second.most ∙ first.most;
        loses = lost_on b.means m.pages mid.pages m'.pages first.loses second.loses;
      };
      next = λ d f. sym (ap (λ (x : DeedEffect). x.next) (line_so (over (commanded (state_of mid d) t (job_in mid t j) asked)) (state_of m d) (begun_so None begins d f)));
    }

    pub line_goes : (next : Deed) → begins_with (files_of mid.files) t asked ≡ Some next → Does m mid (λ s. line_begun s t was) (line_end t Silent (Some next))
    line_goes next begins = record {
      has = record {
        each = λ d f.
            let e = first.each d f in
            let is = line_so (goes_on (state_of mid d) next) (state_of m d) (begun_so (Some next) begins d f) in
            (e.0, sym (ap (λ (x : DeedEffect). x.state) is), sym (ap (λ (x : DeedEffect). x.items) is));
        within = first.within;
        most = first.most;
        loses = first.loses;
      };
      next = λ d f. sym (ap (λ (x : DeedEffect). x.next) (line_so (goes_on (state_of mid d) next) (state_of m d) (begun_so (Some next) begins d f)));
    }

-- a deed of a terminal with a job, and without one
module _ {P : Type 0} {b : _} (m : System P b) (t : Tty) (act : PlainState → PlainJob → DeedEffect) (d : DrumWords) where
  pub acts_at : (j : Job) → HasJobAt m t j → for_job (state_of m d) t (act (state_of m d)) ≡ act (state_of m d) (job_in m t j)
  acts_at j at = ap (λ (o : Option PlainJob). option_map_or (act (state_of m d)) o (record { state = state_of m d; items = []; next = None })) (job_found (open_of m.files) m.typed.items m.jobs.items t.0 j at)

  pub acts_nowhere : job_at m.jobs.items t.0 ≡ None → for_job (state_of m d) t (act (state_of m d)) ≡ record { state = state_of m d; items = []; next = None }
  acts_nowhere none = ap (λ (o : Option PlainJob). option_map_or (act (state_of m d)) o (record { state = state_of m d; items = []; next = None })) (job_missing (open_of m.files) m.typed.items m.jobs.items t.0 none)
