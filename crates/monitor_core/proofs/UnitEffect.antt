-- One unit of a fork, as an entry of the plain machine.
use Rattle.std.proofs.Common.{◌≡◌, ℕ, List, ◌&&◌, ◌++◌, [], Bool, true, false, cond, not, Option, None, Some, refl, sym, ◌∙◌, ap, ◌==◌, is_some}
use Rattle.std.proofs.lemmas.Bool.{cond_both, ne_eqb}
use Rattle.std.specs.Ordering.{nat_cmp}
use Rattle.std.specs.Cmp.{nat_cmp_total}
use Rattle.std.specs.Cmp.Lexicographic.{nat_list_cmp_total}
use Rattle.std.specs.Option.{option_map, option_map_or, unwrap_or}
use Rattle.std.specs.FinMap as fin
use Rattle.plain_model.specs.declared.call.End.{End}
use Rattle.plain_model.specs.declared.call.End.TheVariants as end
use Rattle.plain_units.specs.declared.channel.TheConstants.{ILLEGAL_INSTRUCTION}
use Rattle.script_texts.specs.declared.event.Step.TheVariants.{Unit as AUnit}
use Rattle.plain_model.specs.declared.fork.Fork.{Fork}
use Rattle.script_texts.specs.declared.status.ForkStatus.{ForkStatus}
use Rattle.script_texts.specs.declared.status.WaitOn.TheVariants.{Input, Fork as AFork, Sleep}
use Rattle.script_texts.specs.declared.status.ForkStatus.TheVariants.{Run, Wait, Forced as AForced, Halted as AHalted}
use Rattle.plain_model.specs.declared.fork.TerminalMode.TheVariants.{Command}
use Rattle.machine_names.specs.declared.names.TheConstants.{MOST_FORKS}
use Rattle.machine_names.specs.declared.names.Tty.{Tty}
use Rattle.plain_model.specs.ByteCalls.{ByteAsked, ByteTurn, byte_calls}
use Rattle.plain_model.specs.Calls.{Came, Turn, fork_behind, is_among, no_files, numbered, parts_behind, posted_if, turn_on, with_error}
use Rattle.plain_model.specs.Families.{Parts, Turned, behind as family_behind, print_calls, asks, asks_bytes, asks_clock, asks_jfns, asks_maps, bytes_changed, files_seen, forks_changed, interrupts_changed, jfns_changed, names_seen, call_turned}
use Rattle.plain_model.specs.FileCalls.{file_call, file_calls, jfn_call, jfn_calls}
use Rattle.plain_model.specs.ForkCalls.{fork_call, fork_calls}
use Rattle.plain_model.specs.Forks.{ForkMap, counted, is_frozen, with_fork, with_regs, with_status}
use Rattle.plain_model.specs.declared.interrupt.Inspected.{Inspected}
use Rattle.plain_model.specs.declared.interrupt.Inspected.TheVariants.{Nothing as Nought, Delivers, Forces}
use Rattle.plain_model.specs.Inspections.{delivered, inspected, inspected_by, is_interrupted, stored_word}
use Rattle.plain_model.specs.ClockCalls.{clock_calls, clock_changed}
use Rattle.plain_model.specs.InterruptCalls.{interrupt_calls}
use Rattle.plain_model.specs.Interrupts.{is_panic, listens, pended, posted, woken}
use Rattle.plain_model.specs.MapCalls.{map_call, map_calls}
use Rattle.plain_model.specs.StringCalls.{string_calls}
use Rattle.machine_names.specs.Orders.{name_cmp}
use Rattle.plain_model.specs.Run.{IsLegalStep, apply, unit_line}
use Rattle.plain_pages.specs.PlainPages.{NumberedPages}
use Rattle.plain_model.specs.State.{PlainJob, PlainState}
use Rattle.plain_units.specs.Steps.{Planned, call, done, need, pages_left, stopped as unit_stopped, trap}
use Rattle.plain_model.specs.Unit.{Effect, called, decided, in_command_mode, instruction_unit, interrupted_unit, over, printed, stop_text, stopped, turn_printed, turned, unit, unit_ended, went, with_parts}
use Rattle.plain_units.specs.Units.{unit_on}
use Rattle.plain_model.proofs.Calling.{MakesNone, bytes_behind, clock_makes_none, file_makes_none, forks_behind, interrupts_behind, jfns_behind, nothing_behind, pages_behind, print_makes_none, sleeps_behind}
use Rattle.plain_model.proofs.Equations.{apply_unit, unit_some}
use Rattle.plain_model.proofs.Posted.{posted_same}
use Rattle.plain_units.proofs.RefiledUnits.{left_refiled, refiled_plan}
use Rattle.plain_model.specs.Trees.{PlainTree, end_told, tree_of}
use Rattle.fork_tree.specs.Trees.{IsTree}
use Rattle.fork_tree.proofs.CanRun.{named_runs, runs_can}
use Rattle.step_shown.specs.declared.shown.Shown.{Shown}
use Rattle.step_shown.specs.declared.shown.Stop.{Stop}
use Rattle.step_shown.specs.declared.shown.Stop.TheVariants.{GoesOn, Halted, Forced}
use Rattle.monitor_calls.specs.ForkUnit.{Behind, Rest, behind, behind_decided, behind_instruction, behind_interrupted, behind_unit, called_behind, left_so, parts_in, post_shown, turn_behind}
use Rattle.step_shown.specs.Runners.{told_where}
use Rattle.step_shown.specs.Shown.{is_stop, is_stopped, nothing, seen_of, seen_stop, shown_items, stands, stop_items, stop_of}
use Rattle.monitor_core.proofs.CallerStays.{caller_stays, interrupter_stays, sleeper_stays}
use Rattle.monitor_core.proofs.Inspected.{inspected_files, inspected_keyed, word_files, word_keyed}
use Rattle.plain_pages.proofs.Refiled.{NameAlike}
use Rattle.plain_model.proofs.RefiledCalls.{AreHeld, TurnsFiled, call_refiled, refiled_all}
use Rattle.machine_names.proofs.OrderLemmas.{name_cmp_apart}
use Rattle.monitor_core.proofs.Filed.{AreKept, IsIn, NamedFiles, kept_alike, kept_still, keyed, unit_files, unit_keyed}
use Rattle.plain_model.specs.EachFamily.{own_changed, sleeps_changed, pages_changed}

-- the jobs once the monitor reads a terminal, if it does
abbrev pub jobs_seen : fin.FinMap nat_cmp PlainJob → Tty → Bool → fin.FinMap nat_cmp PlainJob
jobs_seen jobs t stops = cond stops (option_map_or (λ (j : PlainJob). fin.insert jobs t.0 (record j { mode = Command })) (fin.get jobs t.0) jobs) jobs

-- a fork before and behind a unit, but for its count, which shows this and prints nothing
record EndsAs (f g : Fork) (seen : Shown) : Type 0 where
  pub name : g.name ≡ f.name
  pub superior : g.superior ≡ f.superior
  pub shown : seen ≡ stands (stop_of g.body.status)

module _ (s : PlainState) (f : Fork) where
  -- the forks with one of them as it is left
  abbrev forks_with : Fork → ForkMap
  forks_with g = fin.insert s.forks g.name g

  -- what a terminal shows, and what is left, where a fork has stopped or not
  abbrev leaves_as : Fork → Stop → Bool → Effect
  leaves_as g seen stops = record { state = record s { jobs = jobs_seen s.jobs f.name.tty (is_stopped seen); forks = told_where (forks_with g) g stops }; items = stop_items f.name.tty seen }

  abbrev pub stands_as : Fork → Stop → Effect
  stands_as g stop = leaves_as g (seen_stop f.slot stop) (is_stopped stop)

  command_as : (t : Tty) (forks : ForkMap) → in_command_mode (record s { forks = forks }) t ≡ record s { jobs = jobs_seen s.jobs t true; forks = forks }
  command_as t forks = by (fin.get s.jobs t.0)
    where
      by : (o : Option PlainJob) → option_map_or (λ (j : PlainJob). record s { jobs = fin.insert s.jobs t.0 (record j { mode = Command }); forks = forks }) o (record s { forks = forks })
          ≡ record s { jobs = option_map_or (λ (j : PlainJob). fin.insert s.jobs t.0 (record j { mode = Command })) o s.jobs; forks = forks }
      by None = refl
      by (Some j) = refl

  -- a fork that stops prints and gives its terminal to the monitor where it is a top fork
  pub stops_as : (g : Fork) (stop : Stop) → g.name ≡ f.name → g.superior ≡ f.superior → is_some f.superior ≡ not (f.slot == 1) → is_stopped stop ≡ true → stop_items f.name.tty stop ≡ printed f.name.tty (stop_text g.body.status)
      → stopped s g ≡ stands_as g stop
  stops_as g stop name superior top stops text =
      (λ i. cond (is_some (superior i)) quietly (record { state = in_command_mode (record s { forks = told }) (name i).tty; items = printed (name i).tty (stop_text g.body.status) }))
      ∙ ap (λ b. cond b quietly aloud) top
      ∙ by (f.slot == 1)
      ∙ (λ i. leaves_as g (cond (sym stops i && not (f.slot == 1)) GoesOn stop) (sym stops i))
    where
      told : ForkMap
      told = end_told (forks_with g) g

      quietly : Effect
      quietly = record { state = record s { forks = end_told (forks_with g) g }; items = [] }

      aloud : Effect
      aloud = record { state = in_command_mode (record s { forks = end_told (forks_with g) g }) f.name.tty; items = printed f.name.tty (stop_text g.body.status) }

      by : (b : Bool) → cond (not b) quietly aloud ≡ leaves_as g (cond (true && not b) GoesOn stop) true
      by true = λ i. record { state = (command_as f.name.tty told ∙ ap (λ c. record s { jobs = jobs_seen s.jobs f.name.tty c; forks = told }) (sym stops)) i; items = sym text i }
      by false = refl

  -- whatever the status in which a unit leaves a fork
  ended_as : is_some f.superior ≡ not (f.slot == 1) → (g : Fork) → g.name ≡ f.name → g.superior ≡ f.superior → unit_ended s g g.body.status ≡ stands_as (counted g) (stop_of g.body.status)
  ended_as top g name superior = by g.body.status refl
    where
      by : (status : ForkStatus) → g.body.status ≡ status → unit_ended s g status ≡ stands_as (counted g) (stop_of status)
      by Run is = refl
      by (Wait on) is = refl
      by AHalted is = stops_as (counted g) Halted name superior top refl (ap (λ x. printed f.name.tty (stop_text x)) (sym is))
      by (AForced channel) is = stops_as (counted g) (Forced channel) name superior top refl (ap (λ x. printed f.name.tty (stop_text x)) (sym is))

-- a fork that runs, behind a channel that is posted to it
module _ (f : Fork) where
  posted_ends : (h : Fork) (channel : ℕ) → h.name ≡ f.name → h.superior ≡ f.superior → h.body.status ≡ Run → EndsAs f (posted h channel) (post_shown h.body.psi (Some channel))
  posted_ends h channel name superior runs = by (listens h.body.psi channel) (is_panic channel)
    where
      by : (takes panics : Bool) → EndsAs f (cond takes (pended h channel) (cond panics (with_status h (AForced channel)) h)) (stands (cond (not takes && panics) (Forced channel) GoesOn))
      by true panics = record { name = name; superior = superior; shown = ap (λ x. stands (stop_of (woken x))) (sym runs) }
      by false true = record { name = name; superior = superior; shown = refl }
      by false false = record { name = name; superior = superior; shown = ap (λ x. stands (stop_of x)) (sym runs) }

  posted_if_ends : (h : Fork) (post : Option ℕ) → h.name ≡ f.name → h.superior ≡ f.superior → h.body.status ≡ Run → EndsAs f (posted_if h post) (post_shown h.body.psi post)
  posted_if_ends h None name superior runs = record { name = name; superior = superior; shown = ap (λ x. stands (stop_of x)) (sym runs) }
  posted_if_ends h (Some channel) name superior runs = posted_ends h channel name superior runs

  -- a fork keeps its name and superior where a channel is posted to it, and behind a turn of a call
  abbrev Stays : Fork → Type 0
  Stays g = (g.name ≡ f.name) × (g.superior ≡ f.superior)

  posted_stays : (h : Fork) (channel : ℕ) → Stays h → Stays (posted h channel)
  posted_stays h channel stays = let same = posted_same h channel in (same.0 ∙ stays.0, same.2 ∙ stays.1)

  turn_stays : {C : Type 0} (g : Fork) → Stays g → (e : End C) → Stays (fork_behind g e)
  unfolding fork_behind
  turn_stays g stays (end.Done change regs out None) = stays
  turn_stays g stays (end.Done change regs out (Some channel)) = posted_stays (with_regs g regs) channel stays
  turn_stays g stays (end.Waits Input) = stays
  turn_stays g stays (end.Waits AFork) = stays
  turn_stays g stays (end.Waits (Sleep moment)) = stays
  turn_stays g stays end.Halts = stays
  turn_stays g stays (end.Refused code) = posted_stays (with_error g code) ILLEGAL_INSTRUCTION stays
  turn_stays g stays (end.Failed code) = stays
  turn_stays g stays (end.Trap channel) = posted_stays g channel stays

-- what a state has besides pages
abbrev pub rest_in_state : PlainState → Rest
rest_in_state s = record { tree = tree_of s; files = s.files; jobs = s.jobs; clock = s.clock }

-- a state of trees in which a fork can run, over these pages, with these pages of files; files have these numbers
pub record Runs (key : List ℕ → ℕ) (filed : NamedFiles) (s : PlainState) (f : Fork) (p : NumberedPages) : Type 0 where
  pub trees : IsTree (tree_of s)
  pub fork : fin.get s.forks f.name ≡ Some f
  pub pages : s.pages ≡ keyed filed p
  pub kept : AreKept (IsIn s.files) key p filed
  pub held : AreHeld (parts_in (rest_in_state s) p)
  pub runs : f.body.status ≡ Run
  pub thawed : is_frozen MOST_FORKS s.forks (Some f) ≡ false

-- the state behind a unit of a fork, and what it shows
abbrev pub behind_state : NamedFiles → PlainState → Fork → Behind → PlainState
behind_state filed s f b = record s {
  pages = keyed filed b.pages;
  files = b.rest.files;
  jobs = jobs_seen b.rest.jobs f.name.tty (is_stop (seen_of f.slot b.shown));
  forks = told_where b.rest.tree.forks b.fork (is_stop b.shown);
  fork_serials = b.rest.tree.serials;
}

-- its line stands before what it shows, where each unit is shown
abbrev pub lined : PlainState → Fork → Effect → Effect
lined s f e = record e { items = unit_line s f.name ++ e.items }

abbrev pub effect_of : NamedFiles → PlainState → Fork → Behind → Effect
effect_of filed s f b = record { state = behind_state filed s f b; items = shown_items f.name.tty (seen_of f.slot b.shown) }

-- an effect is that of what is behind the unit, with some pages of files, which are those under the numbers
pub record ComesTo (key : List ℕ → ℕ) (s : PlainState) (f : Fork) (x : Effect) (b : Behind) : Type 0 where
  pub filed : NamedFiles
  pub is : x ≡ effect_of filed s f b
  pub kept : AreKept (λ name. IsIn s.files name × IsIn b.rest.files name) key b.pages filed

-- so an entry of it, with its line
pub record StepsTo (key : List ℕ → ℕ) (s : PlainState) (f : Fork) (b : Behind) : Type 0 where
  pub filed : NamedFiles
  pub is : apply s (AUnit f.name) ≡ lined s f (effect_of filed s f b)
  pub kept : AreKept (λ name. IsIn s.files name × IsIn b.rest.files name) key b.pages filed

-- the forks without a superior are those in slot 1
pub top_slot : (tree : PlainTree) → IsTree tree → (f : Fork) → fin.get tree.forks f.name ≡ Some f → is_some f.superior ≡ not (f.slot == 1)
top_slot tree trees f there = by f.superior refl
  where
    tops : (f.superior ≡ None → f.slot ≡ 1) × (f.slot ≡ 1 → f.superior ≡ None)
    tops = let both = trees.tops f there in (both.0, both.1)

    by : (o : Option ℕ) → f.superior ≡ o → is_some o ≡ not (f.slot == 1)
    by None none = ap (λ n. not (n == 1)) (sym (tops.0 none))
    by (Some n) some = ap not (sym (ne_eqb f.slot 1 (λ first. let both : Some n ≡ None = sym some ∙ tops.1 first in cc both)))

module _ (key : List ℕ → ℕ) (filed : NamedFiles) (s : PlainState) (f : Fork) (p : NumberedPages) (t : Runs key filed s f p) where
  top : is_some f.superior ≡ not (f.slot == 1)
  top = top_slot (tree_of s) t.trees f t.fork

  abbrev rest : Rest
  rest = rest_in_state s

  abbrev Comes : Effect → Behind → Type 0
  Comes x b = ComesTo key s f x b

  on_pages : (q : NumberedPages) → q.files ≡ p.files → (g : Fork) (shown : Shown) → EndsAs f g shown → Comes (unit_ended (record s { pages = keyed filed q }) g g.body.status) (left_so rest (counted g) q shown)
  on_pages q same g shown e = record {
    filed = filed;
    is = ended_as (record s { pages = keyed filed q }) f top g e.name e.superior
        ∙ ap (λ x. effect_of filed s f (left_so rest (counted g) q x)) (sym e.shown);
    kept = kept_still (IsIn s.files) key p filed t.kept q same;
  }

  -- a turn of a monitor call
  module _ (number : ℕ) where
    abbrev asked_of : Parts nat_cmp
    asked_of = parts_in rest p

    abbrev gone : Turned nat_cmp
    gone = call_turned key asked_of f.name f.body.regs number

    -- the fork that called is among the forks that the turn leaves
    abbrev HasCaller : Turned nat_cmp → Type 0
    HasCaller r = (g : Fork) × (r.caller ≡ Some g) × Stays f g

    family_caller : {C : Type 0} (change : C → Parts nat_cmp → Parts nat_cmp) (came : Came nat_cmp C) (left : Parts nat_cmp) → parts_behind change asked_of (record asked_of { pages = came.pages }) came.end ≡ left → (g : Fork) → fin.get left.tree.forks f.name ≡ Some g → Stays f g
        → HasCaller (family_behind change asked_of f.name came)
    family_caller change came left same g there stays = (
      fork_behind g came.end,
      ap (λ (u : Parts nat_cmp). option_map (λ h. fork_behind h came.end) (fin.get u.tree.forks f.name)) same ∙ ap (option_map (λ h. fork_behind h came.end)) there,
      turn_stays f g stays came.end,
    )

    own_caller : (u : Turn ⊥ (Unit {0})) → MakesNone p u → HasCaller (family_behind own_changed asked_of f.name (turn_on no_files p u))
    own_caller u makes =
        let c = turn_on no_files p u in
        family_caller own_changed c asked_of
        (ap (λ (q : NumberedPages). parts_behind own_changed asked_of (record asked_of { pages = q }) c.end) makes ∙ nothing_behind asked_of c.end) f t.fork (refl, refl)

    fork_caller : HasCaller (family_behind forks_changed asked_of f.name (turn_on no_files p (fork_call number (asks asked_of f.name f.body.regs))))
    fork_caller =
        let c = turn_on no_files p (fork_call number (asks asked_of f.name f.body.regs)) in
        let g = caller_stays f (tree_of s) t.trees t.fork p number in
        family_caller forks_changed c _ (forks_behind asked_of c.pages c.end) g.0 g.1 (g.3, g.2)

    interrupt_caller : HasCaller (family_behind interrupts_changed asked_of f.name (turn_on no_files p (numbered interrupt_calls number (asks asked_of f.name f.body.regs))))
    interrupt_caller =
        let c = turn_on no_files p (numbered interrupt_calls number (asks asked_of f.name f.body.regs)) in
        let g = interrupter_stays f (tree_of s) t.trees t.fork s.jobs c.end in
        family_caller interrupts_changed c _ (interrupts_behind asked_of c.pages c.end) g.0 g.1 (g.3, g.2)

    clock_caller : HasCaller (family_behind sleeps_changed asked_of f.name (turn_on no_files p (numbered clock_calls number (asks_clock asked_of f.name f.body.regs))))
    clock_caller =
        let c = turn_on no_files p (numbered clock_calls number (asks_clock asked_of f.name f.body.regs)) in
        let g = sleeper_stays f (tree_of s) t.trees t.fork c.end in
        family_caller sleeps_changed c (record asked_of { tree = parts_behind clock_changed (tree_of s) (tree_of s) c.end })
        (ap (λ (q : NumberedPages). parts_behind sleeps_changed asked_of (record asked_of { pages = q }) c.end) (clock_makes_none p number (asks_clock asked_of f.name f.body.regs)) ∙ sleeps_behind asked_of c.end) g.0 g.1 (g.3, g.2)

    map_caller : HasCaller (family_behind (pages_changed key) asked_of f.name (turn_on (files_seen key asked_of f.name) p (map_call number (asks_maps asked_of f.name f.body.regs))))
    map_caller =
        let c = turn_on (files_seen key asked_of f.name) p (map_call number (asks_maps asked_of f.name f.body.regs)) in
        family_caller (pages_changed key) c _ (pages_behind key asked_of c.pages c.end) f t.fork (refl, refl)

    jfn_caller : HasCaller (family_behind (jfns_changed key) asked_of f.name (turn_on (names_seen asked_of f.name) p (jfn_call number (asks_jfns asked_of f.name f.body.regs))))
    jfn_caller =
        let c = turn_on (names_seen asked_of f.name) p (jfn_call number (asks_jfns asked_of f.name f.body.regs)) in
        family_caller (jfns_changed key) c _ (jfns_behind key asked_of c.pages c.end) f t.fork (refl, refl)

    byte_caller : (rows : List (ℕ × (ByteAsked → ByteTurn))) → HasCaller (family_behind (bytes_changed key) asked_of f.name (turn_on (files_seen key asked_of f.name) p (numbered rows number (asks_bytes key asked_of f.name f.body.regs))))
    byte_caller rows =
        let c = turn_on (files_seen key asked_of f.name) p (numbered rows number (asks_bytes key asked_of f.name f.body.regs)) in
        family_caller (bytes_changed key) c _ (bytes_behind key asked_of c.pages c.end) f t.fork (refl, refl)

    caller_there : HasCaller gone
    caller_there =
        cond_both (is_among print_calls number) _ _ HasCaller (λ is. own_caller (numbered print_calls number f.body.regs) (print_makes_none p number f.body.regs)) (λ n1.
        cond_both (is_among fork_calls number) _ _ HasCaller (λ is. fork_caller) (λ n2.
        cond_both (is_among interrupt_calls number) _ _ HasCaller (λ is. interrupt_caller) (λ n8.
        cond_both (is_among clock_calls number) _ _ HasCaller (λ is. clock_caller) (λ n9.
        cond_both (is_among map_calls number) _ _ HasCaller (λ is. map_caller) (λ n3.
        cond_both (is_among file_calls number) _ _ HasCaller (λ is. own_caller (file_call number (asks asked_of f.name f.body.regs)) (file_makes_none p number (asks asked_of f.name f.body.regs))) (λ n4.
        cond_both (is_among jfn_calls number) _ _ HasCaller (λ is. jfn_caller) (λ n5.
        cond_both (is_among byte_calls number) _ _ HasCaller (λ is. byte_caller byte_calls) (λ n6.
        cond_both (is_among string_calls number) _ _ HasCaller (λ is. byte_caller string_calls) (λ n7.
        (posted f ILLEGAL_INSTRUCTION, ap (option_map (λ g. posted g ILLEGAL_INSTRUCTION)) t.fork, posted_stays f f ILLEGAL_INSTRUCTION (refl, refl)))))))))))

    -- the same turn where files are known by their names
    abbrev named : Turned name_cmp
    named = call_turned (λ name. name) (refiled_all name_cmp filed asked_of) f.name f.body.regs number

    named_turns : TurnsFiled name_cmp key (λ name. name) asked_of gone named
    named_turns = call_refiled nat_cmp_total fin.nat_cmp-IsAntisymmetric nat_list_cmp_total name_cmp_apart key (λ name. name) filed asked_of t.kept f.name t.held f.body.regs number

    called_as : Comes (called s f number) (called_behind key rest f p number)
    called_as =
        let g = caller_there.0 in
        let stays = caller_there.2 in
        let left_files = named.parts.pages.files in
        let left : PlainState = with_parts s (refiled_all name_cmp left_files gone.parts) in
        let behind_is : called_behind key rest f p number ≡ turn_behind gone.parts gone.out g = ap (λ (o : Option Fork). turn_behind gone.parts gone.out (unwrap_or o f)) caller_there.1 in
        record {
          filed = left_files;
          is = ap (λ q. turned s f.name.tty (call_turned (λ (name : List ℕ). name) (record { tree = tree_of s; pages = q; files = s.files; jobs = s.jobs; clock = s.clock }) f.name f.body.regs number)) t.pages
              ∙ ap (turned s f.name.tty) named_turns.same
              ∙ ap (λ (o : Option Fork). turned s f.name.tty (record { parts = refiled_all name_cmp left_files gone.parts; caller = o; out = gone.out })) caller_there.1
              ∙ ap (λ (e : Effect). record e { items = turn_printed f.name.tty gone.out ++ e.items }) (ended_as left f top g stays.0 stays.1)
              ∙ ap (effect_of left_files s f) (sym behind_is);
          kept = named_turns.keyed;
        }

  over_as : (x : Planned nat_cmp ⊥) → unit_on f.name p f.body.regs ≡ x → Comes (over s f (refiled_plan name_cmp filed x)) (behind key rest f p x)
  over_as (done u e) runs =
      let c = on_pages (pages_left f.name u e) (unit_files p f.name f.body.regs u e runs) (posted_if (with_regs f e.regs) e.post) (post_shown f.body.psi e.post) (posted_if_ends f (with_regs f e.regs) e.post refl refl t.runs) in
      record { filed = c.filed; is = ap (λ q. went s f q e) (left_refiled name_cmp filed f.name u e) ∙ c.is; kept = c.kept }
  over_as (unit_stopped (trap channel)) runs =
      let c = on_pages p refl (posted f channel) (post_shown f.body.psi (Some channel)) (posted_ends f f channel refl refl t.runs) in
      record { filed = c.filed; is = ap (λ q. unit_ended (record s { pages = q }) (posted f channel) (posted f channel).body.status) t.pages ∙ c.is; kept = c.kept }
  over_as (unit_stopped (need none)) runs = absurd none
  over_as (call number) runs = called_as number

  -- each page is named as often under the names of files
  alike : NameAlike name_cmp p filed
  alike = kept_alike (IsIn s.files) key p filed t.kept

  instruction_as : Comes (instruction_unit s f) (behind_instruction key rest f p)
  instruction_as =
      let c = over_as (unit_on f.name p f.body.regs) refl in
      record {
        filed = c.filed;
        is = ap (λ q. over s f (unit_on f.name q f.body.regs)) t.pages ∙ ap (over s f) (unit_keyed filed p alike f.name f.body.regs) ∙ c.is;
        kept = c.kept;
      }

  -- an inspection that made these pages of a state, and came to this
  decided_as : (q : NumberedPages) → q.files ≡ p.files → (what : Inspected) → Comes (decided s f (keyed filed q) what) (behind_decided key rest f p q what)
  decided_as q same Nought = instruction_as
  decided_as q same (Delivers d) =
      let stored_files = word_files q f d ∙ same in
      let c = on_pages (stored_word q f d) stored_files (delivered f d) nothing (record { name = refl; superior = refl; shown = ap (λ x. stands (stop_of x)) (sym t.runs) }) in
      record {
        filed = c.filed;
        is = (λ i. record { state = with_fork (record s { pages = word_keyed filed q f d i }) (counted (delivered f d)); items = [] })
            ∙ ap (unit_ended (record s { pages = keyed filed (stored_word q f d) }) (delivered f d)) (sym t.runs) ∙ c.is;
        kept = c.kept;
      }
  decided_as q same (Forces channel) =
      let c = on_pages p refl (with_status f (AForced channel)) (stands (Forced channel)) (record { name = refl; superior = refl; shown = refl }) in
      record { filed = c.filed; is = ap (λ r. unit_ended (record s { pages = r }) (with_status f (AForced channel)) (AForced channel)) t.pages ∙ c.is; kept = c.kept }

  interrupted_as : Comes (interrupted_unit s f) (behind_interrupted key rest f p)
  interrupted_as =
      let came = inspected f p in
      let c = decided_as came.pages (inspected_files p f) (inspected_by came.end) in
      record {
        filed = c.filed;
        is = ap (λ r. let found = inspected f r in decided s f found.pages (inspected_by found.end)) t.pages
            ∙ ap (λ (found : Came name_cmp Inspected). decided s f found.pages (inspected_by found.end)) (inspected_keyed filed p alike f)
            ∙ c.is;
        kept = c.kept;
      }

  unit_as : Comes (unit s f.name) (behind_unit key rest f p)
  unit_as =
      let c = by (is_interrupted f.body.psi) in
      record { filed = c.filed; is = unit_some s f.name f t.fork ∙ c.is; kept = c.kept }
    where
      by : (b : Bool) → Comes (cond b (interrupted_unit s f) (instruction_unit s f)) (cond b (behind_interrupted key rest f p) (behind_instruction key rest f p))
      by true = interrupted_as
      by false = instruction_as

  -- an entry of the fork
  pub step_as : StepsTo key s f (behind_unit key rest f p)
  step_as =
      let c = unit_as in
      record { filed = c.filed; is = apply_unit s f.name ∙ ap (lined s f) c.is; kept = c.kept }

  -- which is legal
  pub step_legal : (auto : Bool) → IsLegalStep auto s (AUnit f.name)
  step_legal auto = named_runs s.forks f.name f t.fork (runs_can s.forks f (t.runs, t.thawed))
