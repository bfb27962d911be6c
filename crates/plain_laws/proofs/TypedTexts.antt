-- What is typed at a program, and control-C.
use Rattle.std.proofs.Common.{◌≡◌, ◌≢◌, ◌⊎◌, inl, inr, ℕ, ◌+◌, ◌<◌, ◌≤◌, ◌&&◌, ◌||◌, Bool, true, false, not, List, [], ◌∷◌, ◌++◌, length, All, Option, None, Some, refl, sym, ◌∙◌, ap, subst, arith}
use Rattle.std.specs.Prelude.{◌==◌, if◌then◌else◌, is_none, map, nat_lt}
use Rattle.std.specs.Option.{option_map_or}
use Rattle.std.specs.Cmp.{nat_cmp_total}
use Rattle.std.specs.FinMap as map_of
use Rattle.std.specs.FinMap.{nat_cmp-IsAntisymmetric}
use Rattle.std.proofs.lemmas.Bool.Decides.{eqb_tells, nat_tests}
use Rattle.std.proofs.lemmas.List.{append_assoc, length-append}
use Rattle.std.proofs.lemmas.List.Elements.{All-head, All-tail}
use Rattle.machine_names.proofs.Keys.{get_put, get_put_other}
use Rattle.machine_names.specs.declared.character.TheConstants.{CARRIAGE_RETURN, LINE_END}
use Rattle.machine_names.specs.declared.names.ForkName.{ForkName}
use Rattle.machine_names.specs.declared.names.TheConstants.{MOST_FORKS}
use Rattle.machine_names.specs.declared.names.Tty.{Tty}
use Rattle.machine_names.specs.Orders.{same_fork}
use Rattle.plain_typing.specs.declared.typed.Typed.TheVariants.{Stored, Dropped, ControlC}
use Rattle.plain_typing.specs.declared.typed.TheConstants.{CONTROL_C, MOST_STORED}
use Rattle.plain_typing.specs.Characters.{read_as}
use Rattle.plain_typing.specs.Lines.{InputLine}
use Rattle.plain_typing.specs.Typing.{fate_of, is_input, posted_or_stored}
use Rattle.script_texts.specs.declared.status.ForkStatus.{ForkStatus}
use Rattle.script_texts.specs.declared.status.ForkStatus.TheVariants.{Run, Wait, Halted, Forced}
use Rattle.script_texts.specs.declared.status.WaitOn.TheVariants as on
use Rattle.plain_model.specs.declared.fork.Fork.{Fork}
use Rattle.plain_model.specs.declared.fork.TerminalMode.{TerminalMode}
use Rattle.plain_model.specs.declared.fork.TerminalMode.TheVariants.{Command, Program}
use Rattle.plain_model.specs.ByteCalls.{input_at}
use Rattle.plain_model.specs.Commands.{with_job_at}
use Rattle.plain_model.specs.Forks.{IsRunnable, any_upward, is_frozen, superior_of, with_fork, with_status}
use Rattle.plain_model.specs.State.{PlainState, PlainJob}
use Rattle.plain_model.specs.Trees.{tree_of, unread, with_mark, without_read}
use Rattle.plain_model.specs.TypeEvents.{echo, line_of, stopped_by, stored, typed_all, typed_at, typed_one, typed_so}
use Rattle.plain_model.specs.Unit.{Effect, printed}
use Rattle.fork_tree.specs.Trees.{Lives as LivesIn}
use Rattle.fork_tree.proofs.CanRun.{runs_as}
use Rattle.fork_tree.proofs.Leaves.{inferior_is}
use Rattle.fork_tree.proofs.Slots.{held_lives, names_same}
use Rattle.fork_tree.proofs.Upward.{ancestor_any, ancestor_lives, any_ancestor, any_whole}
use Rattle.fork_tree.proofs.Waking.{all_read, others_keep}
use Rattle.plain_model.proofs.ForkMaps.{get_put as fork_put}
use Rattle.plain_laws.specs.TypeLaws.{HasJob, StoresText, at_prompt, control_c_shown, echoes, typed}
use Rattle.plain_laws.specs.Whole.{IsWholeMachine}
use Rattle.plain_laws.proofs.LoneTops.{within}
use Rattle.plain_laws.proofs.TypedLines.{at_here, first_typed, one_typed, typed_here}
use Rattle.plain_laws.proofs.WholeTyped.{typed_at_whole, typed_whole}

-- a character that goes to the program is stored, where there is room
goes_in : (line : InputLine) (code : ℕ) → is_input line.codes code ≡ true → length line.input < MOST_STORED → fate_of line code ≡ Stored
goes_in line code goes room = by (code == CONTROL_C) (map_of.get line.codes code) goes
  where
    fits : nat_lt (length line.input) MOST_STORED ≡ true
    fits = grind (arith, nat_tests, room)

    by : (b : Bool) (o : Option (ForkName × ℕ)) → (not b && is_none o) ≡ true → (if b then ControlC else posted_or_stored o line.input) ≡ Stored
    by true o h = absurd (cc h)
    by false (Some assigned) h = absurd (cc h)
    by false None h = ap (λ b. if b then Stored else Dropped) fits

-- who was woken isn't waiting
twice : (f : Fork) → unread (unread f) ≡ unread f
twice f = by f.body.status
  where
    by : (x : ForkStatus) → with_status f (without_read (without_read x)) ≡ with_status f (without_read x)
    by Run = refl
    by (Wait on.Input) = refl
    by (Wait on.Fork) = refl
    by (Wait (on.Sleep moment)) = refl
    by Halted = refl
    by (Forced channel) = refl

-- a job that stores a character more
abbrev with_one : PlainJob → ℕ → PlainJob
with_one j code = record j { input = j.input ++ code ∷ [] }

-- characters that all go to the program, and have room
pub record GoIn (j : PlainJob) (text : List ℕ) : Type 0 where
  pub mode : j.mode ≡ Program
  pub each : All (λ c. is_input j.codes (read_as c) ≡ true) text
  pub room : length j.input + length text ≤ MOST_STORED

rest_goes_in : (j : PlainJob) (c : ℕ) (cs : List ℕ) → GoIn j (c ∷ cs) → GoIn (with_one j (read_as c)) cs
rest_goes_in j c cs g = record {
  mode = g.mode;
  each = All-tail (λ x. is_input j.codes (read_as x) ≡ true) c cs g.each;
  room = omega (arith, g.room, length-append j.input (read_as c ∷ []));
}

module _ (t : Tty) where
  one_stored : (s : PlainState) (j : PlainJob) (c : ℕ) (cs : List ℕ) → HasJob s t j → GoIn j (c ∷ cs) → typed_at s t c ≡ stored s t j (read_as c)
  unfolding typed_one
  one_stored s j c cs is g =
      at_here s t j is c ∙ ap (λ m. typed_one m s t j (read_as c)) g.mode
      ∙ ap (λ f. typed_so f s t j (read_as c)) (goes_in (line_of j) (read_as c) (All-head (λ x. is_input j.codes (read_as x) ≡ true) c cs g.each) (omega (arith, g.room)))

  job_stores : (s : PlainState) (j : PlainJob) (code : ℕ) → HasJob (stored s t j code).state t (with_one j code)
  job_stores s j code = get_put nat_cmp_total nat_cmp-IsAntisymmetric s.jobs t.0 t.0 (with_one j code) refl

  stores_one : (s : PlainState) → IsWholeMachine s → (j : PlainJob) (c : ℕ) → StoresText s (stored s t j (read_as c)).state t j (c ∷ [])
  stores_one s w j c = record {
    job = job_stores s j (read_as c);
    jobs = λ u other. get_put_other nat_cmp_total nat_cmp-IsAntisymmetric s.jobs t.0 u (with_one j (read_as c)) other;
    readers = λ f lives job. all_read (tree_of s) w.tree t f lives job;
    forks = λ f lives other. others_keep (tree_of s) w.tree t f lives other;
    rest = refl;
  }

  then_stores : (s u v : PlainState) (j : PlainJob) (c : ℕ) (cs : List ℕ) → StoresText s u t j (c ∷ []) → StoresText u v t (with_one j (read_as c)) cs → StoresText s v t j (c ∷ cs)
  then_stores s u v j c cs first later = record {
    job = later.job ∙ ap (λ i. Some (record j { input = i })) (append_assoc j.input (read_as c ∷ []) (map read_as cs));
    jobs = λ k other. later.jobs k other ∙ first.jobs k other;
    readers = λ f lives job. later.readers (unread f) (first.readers f lives job) job ∙ ap Some (twice f);
    forks = λ f lives other. later.forks f (first.forks f lives other) other;
    rest = later.rest ∙ (λ i. record (first.rest i) { jobs = v.jobs; forks = v.forks });
  }

  -- CHARACTERS ARE STORED
  pub text_stored : (cs : List ℕ) (c : ℕ) (s : PlainState) (j : PlainJob) → IsWholeMachine s → HasJob s t j → GoIn j (c ∷ cs) → StoresText s (typed_all s t (c ∷ cs)).state t j (c ∷ cs)
  text_stored [] c s j w is g = subst (λ (e : Effect). StoresText s e.state t j (c ∷ [])) (sym (one_typed s t c ∙ one_stored s j c [] is g)) (stores_one s w j c)
  text_stored (d ∷ ds) c s j w is g =
      let e = one_stored s j c (d ∷ ds) is g in
      let u = (stored s t j (read_as c)).state in
      let whole : IsWholeMachine u = subst (λ (x : Effect). IsWholeMachine x.state) e (typed_at_whole s w t c) in
      let k = with_one j (read_as c) in
      let later = text_stored ds d u k whole (job_stores s j (read_as c)) (rest_goes_in j c (d ∷ ds) g) in
      subst (λ (x : Effect). StoresText s x.state t j (c ∷ d ∷ ds)) (sym (first_typed s t c (d ∷ ds) (stored s t j (read_as c)) e)) (then_stores s u (typed_all u t (d ∷ ds)).state j c (d ∷ ds) (stores_one s w j c) later)

  pub text_shown : (text : List ℕ) (s : PlainState) (j : PlainJob) → HasJob s t j → GoIn j text → (typed_all s t text).items ≡ echoes t text
  unfolding typed_all
  text_shown [] s j is g = refl
  text_shown (c ∷ cs) s j is g =
      ap (λ (e : Effect). e.items) (first_typed s t c cs (stored s t j (read_as c)) (one_stored s j c cs is g))
      ∙ ap (λ x. echo t (read_as c) ++ x) (text_shown cs (stored s t j (read_as c)).state (with_one j (read_as c)) (job_stores s j (read_as c)) (rest_goes_in j c cs g))

  pub input_grows : (old new : PlainState) (j : PlainJob) (text : List ℕ) → HasJob old t j → StoresText old new t j text → input_at new.jobs t ≡ input_at old.jobs t ++ map read_as text
  input_grows old new j text is stores =
      ap (λ (o : Option PlainJob). option_map_or (λ k. k.input) o []) stores.job ∙ ap (λ (o : Option PlainJob). option_map_or (λ k. k.input) o [] ++ map read_as text) (sym is)

  pub read_itself : (c : ℕ) → c ≢ CARRIAGE_RETURN → c ≢ LINE_END → (read_as c ≡ c) × (echo t (read_as c) ≡ printed t (c ∷ []))
  read_itself c other more = by (eqb_tells c CARRIAGE_RETURN) (eqb_tells c LINE_END)
    where
      by : (((c == CARRIAGE_RETURN) ≡ true) × (c ≡ CARRIAGE_RETURN)) ⊎ (((c == CARRIAGE_RETURN) ≡ false) × (c ≢ CARRIAGE_RETURN)) → (((c == LINE_END) ≡ true) × (c ≡ LINE_END)) ⊎ (((c == LINE_END) ≡ false) × (c ≢ LINE_END))
          → (read_as c ≡ c) × (echo t (read_as c) ≡ printed t (c ∷ []))
      by (inl a) b = absurd (other a.1)
      by (inr a) (inl b) = absurd (more b.1)
      by (inr a) (inr b) =
          let same : read_as c ≡ c = ap (λ x. if x then LINE_END else c) a.0 in
          (same, ap (echo t) same ∙ ap (λ x. printed t (if x then 13 ∷ 10 ∷ [] else c ∷ [])) b.0)

  -- CONTROL-C
  module _ (s : PlainState) (j : PlainJob) (is : HasJob s t j) where
    abbrev interrupts : TerminalMode → Effect
    interrupts m = record { state = with_job_at (stopped_by m s j) t (record j { mode = Command; line = [] }); items = control_c_shown t }

    typed_c : typed s t (CONTROL_C ∷ []) ≡ typed_one j.mode s t j CONTROL_C
    typed_c = typed_here s t j is (CONTROL_C ∷ []) ∙ one_typed s t CONTROL_C ∙ at_here s t j is CONTROL_C

    pub command_stops : j.mode ≡ Command → typed s t (CONTROL_C ∷ []) ≡ record { state = at_prompt s t j; items = control_c_shown t }
    unfolding typed_one
    command_stops mode = typed_c ∙ ap (λ m. typed_one m s t j CONTROL_C) mode ∙ ap interrupts mode

    pub program_stops : (f : Fork) → j.mode ≡ Program → map_of.get s.forks j.top ≡ Some f → typed s t (CONTROL_C ∷ []) ≡ record { state = at_prompt (with_fork s (with_mark true f)) t j; items = control_c_shown t }
    unfolding typed_one
    program_stops f mode there =
        typed_c ∙ ap (λ m. typed_one m s t j CONTROL_C) mode ∙ ap interrupts mode
        ∙ ap (λ (o : Option Fork). record { state = at_prompt (option_map_or (λ k. with_fork s (with_mark true k)) o s) t j; items = control_c_shown t }) there

-- no fork of a job runs whose top fork has the freeze mark
module _ (s : PlainState) (w : IsWholeMachine s) (top : Fork) (lives : LivesIn s.forks top) (first : top.slot ≡ 1) (mark : top.frozen ≡ true) where
  abbrev frozen : Fork → Bool
  frozen k = k.frozen

  upward : (f : Fork) → LivesIn s.forks f → f.name.tty.0 ≡ top.name.tty.0 → is_frozen MOST_FORKS s.forks (Some f) ≡ true
  upward f there job = elim (within (tree_of s) w.tree top lives first (f.name.serial + 1) f there job (omega arith)) [
    | inl e ↦ ap (λ b. b || any_upward frozen 29 s.forks (superior_of s.forks f)) (ap frozen e ∙ mark)
    | inr below ↦
        let named = λ (k : Fork). same_fork k.name top.name in
        let a = any_ancestor (tree_of s) w.tree named MOST_FORKS f (sym (inferior_is s.forks top.name f.name f there) ∙ below) in
        let over = ancestor_lives (tree_of s) w.tree named a.1.0 f a.0 there a.1.1 in
        let both : Some a.0 ≡ Some top = sym over.0 ∙ ap (map_of.get s.forks) (names_same a.0.name top.name a.2) ∙ lives in
        let one : a.0 ≡ top = cc both in
        let above : any_upward frozen MOST_FORKS s.forks (superior_of s.forks f) ≡ true = ancestor_any (tree_of s) w.tree frozen a.1.0 f a.0 there a.1.1 (ap frozen one ∙ mark) in
        or_true f.frozen (any_upward frozen 29 s.forks (superior_of s.forks f)) (any_whole (tree_of s) w.tree frozen f there ∙ above)
  ]
    where
      or_true : (a b : Bool) → b ≡ true → (a || b) ≡ true
      or_true true b h = refl
      or_true false b h = h

  pub none_runs_below : (name : ForkName) → name.tty.0 ≡ top.name.tty.0 → IsRunnable s.forks name → ⊥
  none_runs_below name job runs =
      let r = runs_as s.forks name runs in
      let own = w.tree.slotted.own name r.0 r.1 in
      let no : true ≡ false = sym (upward r.0 (held_lives s.forks w.tree.slotted name r.0 r.1) (ap (λ (n : ForkName). n.tty.0) own ∙ job)) ∙ r.3 in
      cc no

-- so it is behind control-C
pub none_runs_behind : (s : PlainState) (t : Tty) (j : PlainJob) (name : ForkName) → IsWholeMachine s → HasJob s t j → j.mode ≡ Program → name.tty.0 ≡ t.0 → IsRunnable (typed s t (CONTROL_C ∷ [])).state.forks name → ⊥
none_runs_behind s t j name w is mode job runs =
    let top = w.tops t.0 j is in
    let f = top.0 in
    let own = w.tree.slotted.own j.top f top.1 in
    let stops = program_stops t s j is f mode top.1 in
    let u = at_prompt (with_fork s (with_mark true f)) t j in
    let whole : IsWholeMachine u = subst (λ (e : Effect). IsWholeMachine e.state) (sym (typed_here s t j is (CONTROL_C ∷ [])) ∙ stops) (typed_whole s w t (CONTROL_C ∷ [])) in
    none_runs_below u whole (with_mark true f) (fork_put s.forks f.name f.name (with_mark true f) refl) top.2 refl name (job ∙ sym (w.own_tops t.0 j is) ∙ ap (λ (n : ForkName). n.tty.0) (sym own))
    (subst (λ (e : Effect). IsRunnable e.state.forks name) stops runs)
