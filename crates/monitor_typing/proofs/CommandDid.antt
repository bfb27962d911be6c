-- Commands of a terminal's job, as the plain machine has them.
use Rattle.std.proofs.Common.{◌≡◌, ℕ, ◌<◌, ◌^◌, List, [], ◌∷◌, Bool, true, false, cond, not, ◌&&◌, ◌||◌, ◌==◌, ◌++◌, length, subst, Option, Some, set, refl, sym, ◌∙◌, ap}
use Rattle.std.specs.Prelude.{codes, if◌then◌else◌}
use Rattle.std.specs.Option.{option_map, option_map_or}
use Rattle.std.specs.FinMap as fin
use Rattle.word36.specs.Words.{right}
use Rattle.machine_names.specs.declared.names.Tty.{Tty}
use Rattle.page_contracts.specs.DrumWords.{DrumWords}
use Rattle.plain_model.specs.declared.fork.Fork.{Fork}
use Rattle.plain_model.specs.declared.fork.TerminalMode.TheVariants.{Command, Program}
use Rattle.script_texts.specs.declared.status.ForkStatus.{ForkStatus}
use Rattle.script_texts.specs.declared.status.ForkStatus.TheVariants.{Run, Wait, Halted, Forced}
use Rattle.plain_model.specs.Forks.{ForkMap, with_fork}
use Rattle.plain_model.specs.Commands.{continued, go_on, in_program, is_forced, prompted, restarted, resumed, start_again, started, told, with_job_at, without_halt}
use Rattle.plain_model.specs.State.{PlainJob, PlainState}
use Rattle.plain_model.specs.Trees.{PlainTree, changed, readers_woken, unread, with_changed_of, with_mark, without_read}
use Rattle.plain_model.specs.Unit.{Effect}
use Rattle.file_tables.specs.Tables.{files_of, open_of}
use Rattle.job_forks.proofs.Places.{IsMild, Keep, came_itself, job_keeps, keep_itself}
use Rattle.fork_tree.specs.Trees.{IsTree}
use Rattle.plain_model.proofs.ForkMaps.{AreOwn}
use Rattle.monitor_typing.proofs.HasDone.{change_keeps, has_left}
use Rattle.job_forks.specs.Holding.{ComeFrom}
use Rattle.plain_typing.specs.declared.typed.TheConstants.{MOST_STORED}
use Rattle.plain_model.specs.TypeEvents.{interrupted, line_typed, stored, typed_so}
use Rattle.plain_typing.specs.declared.typed.Typed.{Typed}
use Rattle.plain_typing.specs.declared.typed.Typed.TheVariants.{ControlC, Stored}
use Rattle.script_texts.specs.declared.event.Item.{Item}
use Rattle.monitor_calls.specs.declared.typing.Typing.{Typing}
use Rattle.step_shown.specs.declared.echo.Echo.{Echo}
use Rattle.step_shown.specs.declared.echo.Echo.TheVariants.{Shows, Stops, Wakes}
use Rattle.monitor_typing.specs.Effects.{Has, stopped_tree, HasJobAt, job_in}
use Rattle.machine_names.specs.declared.names.ForkName.{ForkName}
use Rattle.script_texts.specs.declared.status.WaitOn.TheVariants as on
use Rattle.plain_model.specs.declared.fork.TerminalMode.{TerminalMode}
use Rattle.job_commands.specs.Going.{can_continue}
use Rattle.step_shown.specs.declared.echo.Complaint.TheVariants.{Cannot}
use Rattle.step_shown.specs.declared.echo.Told.TheVariants.{Nothing, Refused}
use Rattle.monitor_calls.specs.declared.job.Job.{Job}
use Rattle.monitor_core.specs.declared.system.System.{System}
use Rattle.step_shown.specs.Echoes.{echo_items, told_items}
use Rattle.monitor_calls.specs.Jobs.{jobs_of}
use Rattle.monitor_calls.specs.Limits.{FitsForced}
use Rattle.monitor_core.specs.Systems.{named, state_of}
use Rattle.monitor_calls.specs.Typings.{typing_at}
use Rattle.monitor_calls.proofs.Lookups.{jobs_set}
use Rattle.monitor_core.proofs.Systems.{change_is, restarted_body, state_left}
use Rattle.monitor_typing.proofs.TypeDid.{interrupts, lengthens, low_job, stores, takes_line}

-- ---- what stays of a fork

pub restarted_mild : (address : ℕ) → address < 2 ^ 18 → (f : Fork) → IsMild (restarted address) f
restarted_mild address low f = record { name = refl; slot = refl; superior = refl; units = refl; within = λ b. restarted_body f address low b }

halt_fits : (s : ForkStatus) → FitsForced s → FitsForced (without_halt s)
halt_fits Run h = h
halt_fits (Wait w) h = h
halt_fits Halted h = λ channel e. absurd (cc e)
halt_fits (Forced channel) h = h

pub resumed_mild : (f : Fork) → IsMild resumed f
resumed_mild f = record { name = refl; slot = refl; superior = refl; units = refl; within = λ b. record { status = halt_fits f.body.status b.status; pc = b.pc; accumulators = b.accumulators } }

pub marked_mild : (on : Bool) (f : Fork) → IsMild (with_mark on) f
marked_mild on f = record { name = refl; slot = refl; superior = refl; units = refl; within = λ b. b }

-- a job is stopped
pub stopped_keeps : (tree : PlainTree) → IsTree tree → (mode : TerminalMode) (top : ForkName) → Keep tree.forks (stopped_tree mode tree top).forks
stopped_keeps tree is Program top = change_keeps tree is top (with_mark true) (marked_mild true)
stopped_keeps tree is Command top = keep_itself tree.forks is.slotted.own

-- who waits for a character goes on
read_fits : (s : ForkStatus) → FitsForced s → FitsForced (without_read s)
read_fits Run h = h
read_fits Halted h = h
read_fits (Forced channel) h = h
read_fits (Wait on.Input) h = λ channel e. absurd (cc e)
read_fits (Wait on.Fork) h = h
read_fits (Wait (on.Sleep moment)) h = h

unread_mild : (f : Fork) → IsMild unread f
unread_mild f = record { name = refl; slot = refl; superior = refl; units = refl; within = λ b. record { status = read_fits f.body.status b.status; pc = b.pc; accumulators = b.accumulators } }

pub readers_keep : (forks : ForkMap) → AreOwn forks → (t : Tty) → Keep forks (readers_woken forks t)
unfolding readers_woken
readers_keep forks own t = job_keeps unread unread_mild t forks own

-- ---- START and CONTINUE

module _ {P : Type 0} {b : _} (m m' : System P b) (t : Tty) (j : Job) (at : HasJobAt m t j) where
  abbrev was : PlainJob
  was = job_in m t j

  module _ (files : m'.files ≡ m.files) (same : m'.pages ≡ m.pages) (panel : m'.panel ≡ m.panel) (typed : m'.typed.items ≡ m.typed.items) (jobs : m'.jobs.items ≡ set m.jobs.items t.0 (Some (record j { mode = Program }))) (d : DrumWords) where
    abbrev old : PlainState
    old = state_of m d

    in_program_now : (tree : PlainTree) → m'.tree ≡ tree → state_of m' d ≡ record (with_job_at old t (in_program was)) { forks = tree.forks; fork_serials = tree.serials }
    in_program_now tree tree_is =
        let now : jobs_of (open_of m'.files) m'.typed.items m'.jobs.items ≡ fin.insert old.jobs t.0 (in_program was) =
        (λ i. jobs_of (open_of (files i)) (typed i) (jobs i)) ∙ jobs_set (open_of m.files) m.typed.items m.jobs.items t.0 (record j { mode = Program }) (low_job m m' t j at) in
        λ i. record old { pages = named (files i).dir (b.means.plain (same i) d); files = files_of (files i); jobs = now i; forks = (tree_is i).forks; fork_serials = (tree_is i).serials; clock = (panel i).clock; trace = (panel i).trace }

    pub starts_again : (word : ℕ) → j.start ≡ Some word → m'.tree ≡ with_changed_of m.tree j.top (restarted (right word)) → ◌≡◌ {A = Effect} (start_again old t was) (record { state = state_of m' d; items = told_items t Nothing (state_of m' d) })
    starts_again word start tree =
        let mine : state_of m' d ≡ started old t (right word) was =
        in_program_now (with_changed_of m.tree j.top (restarted (right word))) tree ∙ ap (λ (s : PlainState). with_job_at s t (in_program was)) (sym (change_is old j.top (restarted (right word)) (λ f. refl))) in
        ap (λ (o : Option ℕ). option_map_or (λ address. record { state = started old t address was; items = [] }) (option_map right o) (told old t (codes "?NO PROGRAM"))) start ∙ (λ i. record { state = sym mine i; items = [] })

    pub goes_on : (k : Fork) → fin.get m.tree.forks j.top ≡ Some k → can_continue k ≡ true → m'.tree ≡ with_changed_of m.tree j.top resumed → ◌≡◌ {A = Effect} (go_on old t was) (record { state = state_of m' d; items = told_items t Nothing (state_of m' d) })
    goes_on k lives can tree =
        let mine : state_of m' d ≡ record (with_job_at old t (in_program was)) { forks = fin.insert m.tree.forks k.name (resumed k) } =
        in_program_now (with_changed_of m.tree j.top resumed) tree ∙ ap (λ o. record (with_job_at old t (in_program was)) { forks = changed m.tree.forks resumed o }) lives in
        asked k lives ∙ ap (λ r. cond r (told old t (codes "?CANNOT")) (record { state = record (with_job_at old t (in_program was)) { forks = fin.insert m.tree.forks k.name (resumed k) }; items = [] })) (neither (is_forced k.body.status) (k.body.units == 0) can)
        ∙ (λ i. record { state = sym mine i; items = [] })
      where
        asked : (k : Fork) → fin.get m.tree.forks j.top ≡ Some k → go_on old t was ≡ continued old t was k
        asked k lives = ap (λ o. option_map_or (continued old t was) o (prompted old t [])) lives

        neither : (x y : Bool) → (not x && not y) ≡ true → (x || y) ≡ false
        neither true y h = absurd (cc h)
        neither false true h = absurd (cc h)
        neither false false h = refl

  -- it can't
  pub stays : (d : DrumWords) (k : Fork) → fin.get m.tree.forks j.top ≡ Some k → can_continue k ≡ false → ◌≡◌ {A = Effect} (go_on (state_of m d) t was) (record { state = state_of m d; items = told_items t (Refused Cannot) (state_of m d) })
  stays d k lives can =
      ap (λ o. option_map_or (continued (state_of m d) t was) o (prompted (state_of m d) t [])) lives
      ∙ ap (λ r. cond r (told (state_of m d) t (codes "?CANNOT")) (record { state = with_job_at (with_fork (state_of m d) (resumed k)) t (in_program was); items = [] })) (either (is_forced k.body.status) (k.body.units == 0) can)
    where
      either : (x y : Bool) → (not x && not y) ≡ false → (x || y) ≡ true
      either true y h = refl
      either false true h = refl
      either false false h = absurd (cc h)

-- the same as effects that were had
module _ {P : Type 0} {b : _} (m m' : System P b) (t : Tty) (j : Job) (at : HasJobAt m t j) (files : m'.files ≡ m.files) (same : m'.pages ≡ m.pages) (panel : m'.panel ≡ m.panel) (typed : m'.typed.items ≡ m.typed.items) where
  module _ (jobs : m'.jobs.items ≡ set m.jobs.items t.0 (Some (record j { mode = Program }))) (is : IsTree m.tree) where
    pub has_started : (word : ℕ) → j.start ≡ Some word → right word < 2 ^ 18 → m'.tree ≡ with_changed_of m.tree j.top (restarted (right word)) → Has m m' (λ s. start_again s t (job_in m t j)) (told_items t Nothing)
    has_started word start low tree =
        let keep = change_keeps m.tree is j.top (restarted (right word)) (restarted_mild (right word) low) in
        has_left m m' (λ s. start_again s t (job_in m t j)) (told_items t Nothing) files same panel (subst (λ (x : PlainTree). ComeFrom m.tree.forks x.forks) (sym tree) keep.come) (λ d f. starts_again m m' t j at files same panel typed jobs d word start tree)

    pub has_gone_on : (k : Fork) → fin.get m.tree.forks j.top ≡ Some k → can_continue k ≡ true → m'.tree ≡ with_changed_of m.tree j.top resumed → Has m m' (λ s. go_on s t (job_in m t j)) (told_items t Nothing)
    has_gone_on k lives can tree =
        let keep = change_keeps m.tree is j.top resumed resumed_mild in
        has_left m m' (λ s. go_on s t (job_in m t j)) (told_items t Nothing) files same panel (subst (λ (x : PlainTree). ComeFrom m.tree.forks x.forks) (sym tree) keep.come) (λ d f. goes_on m m' t j at files same panel typed jobs d k lives can tree)

  pub has_stayed : m'.jobs.items ≡ m.jobs.items → (k : Fork) → fin.get m.tree.forks j.top ≡ Some k → can_continue k ≡ false → m'.tree ≡ m.tree → Has m m' (λ s. go_on s t (job_in m t j)) (told_items t (Refused Cannot))
  has_stayed jobs k lives can tree =
      has_left m m' (λ s. go_on s t (job_in m t j)) (told_items t (Refused Cannot)) files same panel (subst (λ (x : PlainTree). ComeFrom m.tree.forks x.forks) (sym tree) (came_itself m.tree.forks))
      (λ d f. stays m m' t j at d k lives can ∙ (λ i. record { state = sym (state_left m m' files same tree jobs typed panel d) i; items = told_items t (Refused Cannot) (state_of m d) }))

-- characters
module _ {P : Type 0} {b : _} (m m' : System P b) (t : Tty) (j : Job) (at : HasJobAt m t j) (is : IsTree m.tree) (files : m'.files ≡ m.files) (same : m'.pages ≡ m.pages) (panel : m'.panel ≡ m.panel) (y : Typing) (typed : m'.typed.items ≡ set m.typed.items t.0 y) where
  pub has_interrupted : y ≡ record (typing_at m.typed.items t.0) { line = record { items = [] } } → m'.jobs.items ≡ set m.jobs.items t.0 (Some (record j { mode = Command })) → m'.tree ≡ stopped_tree j.mode m.tree j.top → Has m m' (λ s. interrupted s t (job_in m t j)) (echo_items t Stops)
  has_interrupted line jobs tree =
      has_left m m' (λ s. interrupted s t (job_in m t j)) (echo_items t Stops) files same panel (subst (λ (x : PlainTree). ComeFrom m.tree.forks x.forks) (sym tree) (stopped_keeps m.tree is j.mode j.top).come)
      (λ d f. interrupts m m' t j at files same panel y typed d line jobs tree)

  module _ (jobs : m'.jobs.items ≡ m.jobs.items) where
    pub has_stored : (code : ℕ) → y ≡ record (typing_at m.typed.items t.0) { input = record ((typing_at m.typed.items t.0).input) { input = (typing_at m.typed.items t.0).input.input ++ code ∷ [] } } → m'.tree ≡ record m.tree { forks = readers_woken m.tree.forks t } → Has m m' (λ s. stored s t (job_in m t j) code) (echo_items t (Shows code))
    has_stored code input tree =
        has_left m m' (λ s. stored s t (job_in m t j) code) (echo_items t (Shows code)) files same panel (subst (λ (x : PlainTree). ComeFrom m.tree.forks x.forks) (sym tree) (readers_keep m.tree.forks is.slotted.own t).come)
        (λ d f. stores m m' t j at files same panel y typed d code input jobs tree)

    -- as what becomes of it
    pub has_kept : (shown code : ℕ) (fate : Typed) → shown ≡ code → Stored ≡ fate → y ≡ record (typing_at m.typed.items t.0) { input = record ((typing_at m.typed.items t.0).input) { input = (typing_at m.typed.items t.0).input.input ++ code ∷ [] } } → m'.tree ≡ record m.tree { forks = readers_woken m.tree.forks t }
        → Has m m' (λ s. typed_so fate s t (job_in m t j) code) (echo_items t (Shows shown))
    has_kept shown code fate shows is_stored input tree =
        subst (λ n. Has m m' (λ s. typed_so fate s t (job_in m t j) code) (echo_items t (Shows n))) (sym shows)
        (subst (λ f. Has m m' (λ s. typed_so f s t (job_in m t j) code) (echo_items t (Shows code))) is_stored (has_stored code input tree))

-- what is shown is the same, whether or not it woke anybody
pub has_shown : {P : Type 0} {b : _} (m m' : System P b) (change : PlainState → Effect) (t : Tty) (may : Bool) (code : ℕ) (shown : Echo) → shown ≡ (if may then Wakes code else Shows code)
    → Has m m' change (echo_items t (Shows code)) → Has m m' change (echo_items t shown)
has_shown m m' change t true code shown is has = subst (λ e. Has m m' change (echo_items t e)) (sym is) has
has_shown m m' change t false code shown is has = subst (λ e. Has m m' change (echo_items t e)) (sym is) has

-- control-C, as what becomes of a character
pub has_stopped : {P : Type 0} {b : _} (m m' : System P b) (t : Tty) (j : Job) (code : ℕ) (fate : Typed) (items : PlainState → List Item) → ControlC ≡ fate → Has m m' (λ s. interrupted s t (job_in m t j)) items → Has m m' (λ s. typed_so fate s t (job_in m t j) code) items
has_stopped m m' t j code fate items is has = subst (λ f. Has m m' (λ s. typed_so f s t (job_in m t j) code) items) is has

module _ {P : Type 0} {b : _} (m m' : System P b) (t : Tty) (j : Job) (at : HasJobAt m t j) (files : m'.files ≡ m.files) (same : m'.pages ≡ m.pages) (panel : m'.panel ≡ m.panel) (y : Typing) (typed : m'.typed.items ≡ set m.typed.items t.0 y) (jobs : m'.jobs.items ≡ m.jobs.items) (tree : m'.tree ≡ m.tree) where
  still_come : ComeFrom m.tree.forks m'.tree.forks
  still_come = subst (λ (x : PlainTree). ComeFrom m.tree.forks x.forks) (sym tree) (came_itself m.tree.forks)

  pub has_lengthened : (code : ℕ) → length (typing_at m.typed.items t.0).line.items < MOST_STORED → y ≡ record (typing_at m.typed.items t.0) { line = record { items = (typing_at m.typed.items t.0).line.items ++ code ∷ [] } } → Has m m' (λ s. line_typed s t (job_in m t j) code) (echo_items t (Shows code))
  has_lengthened code room line =
      has_left m m' (λ s. line_typed s t (job_in m t j) code) (echo_items t (Shows code)) files same panel still_come (λ d f. lengthens m m' t j at files same panel y typed d code room line jobs tree)

  pub has_taken : y ≡ record (typing_at m.typed.items t.0) { line = record { items = [] } } → Has m m' (λ s. record { state = with_job_at s t (record (job_in m t j) { line = [] }); items = [] }) (λ s. [])
  has_taken line =
      has_left m m' (λ s. record { state = with_job_at s t (record (job_in m t j) { line = [] }); items = [] }) (λ s. []) files same panel still_come (λ d f. takes_line m m' t j at files same panel y typed d line jobs tree)
