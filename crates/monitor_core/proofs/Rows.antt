-- Units of a fork in a row, as entries of the plain machine.
use Rattle.std.proofs.Common.{◌≡◌, ℕ, List, zero, suc, ◌+◌, ◌∷◌, ◌++◌, [], ◌<◌, ◌≤◌, Bool, true, false, not, ◌&&◌, cond, Option, None, Some, inl, inr, refl, sym, ◌∙◌, ap, subst, arith, replicate}
use Rattle.std.proofs.lemmas.Bool.{cases_eq}
use Rattle.std.proofs.lemmas.List.{append-nil, replicate-append-replicate}
use Rattle.std.specs.Ordering.{nat_cmp}
use Rattle.std.specs.FinMap as fin
use Rattle.script_texts.specs.declared.event.Step.TheVariants.{Unit as AUnit}
use Rattle.plain_model.specs.declared.fork.Fork.{Fork}
use Rattle.machine_names.specs.declared.names.TheConstants.{MOST_FORKS}
use Rattle.plain_model.specs.Forks.{can_run, counted, is_run, runs_in, with_regs}
use Rattle.plain_model.specs.Inspections.{is_interrupted}
use Rattle.std.specs.Option.{option_map_or}
use Rattle.script_texts.specs.declared.event.Item.TheVariants.{UnitLine}
use Rattle.plain_model.specs.Run.{AreLegal, apply, items_of, state_after, unit_line}
use Rattle.plain_pages.specs.PlainPages.{NumberedPages}
use Rattle.plain_model.specs.State.{PlainState}
use Rattle.machine_names.specs.declared.names.ForkName.{ForkName}
use Rattle.plain_units.specs.declared.registers.Regs.{Regs}
use Rattle.machine_names.proofs.OrderLemmas.{fork_cmp_total, fork_cmp_apart}
use Rattle.plain_model.proofs.Runs.{AreLegal-append, items_of-append, state_after-append}
use Rattle.plain_model.specs.Trees.{changed, tree_of, with_body}
use Rattle.plain_model.proofs.ForkMaps.{cases_name}
use Rattle.ka10_spots.specs.Once.{After, in_a_row, once}
use Rattle.fork_tree.proofs.Kept.{changed_tree}
use Rattle.fork_tree.proofs.Slots.{get_put}
use Rattle.monitor_calls.specs.ForkUnit.{Behind, RanUnits, Rest, behind_unit, left_so, put_in, ran_on}
use Rattle.step_shown.specs.Replies.{line_items, ran_items}
use Rattle.step_shown.specs.Shown.{nothing, seen_of, shown_items}
use Rattle.fork_calls.proofs.Frozen.{still_frozen}
use Rattle.fork_calls.proofs.OtherRuns.{body_runs}
use Rattle.monitor_calls.proofs.Maps.{insert_again, insert_twice}
use Rattle.monitor_calls.proofs.Silent.{once_as, row_more, silent_unit}
use Rattle.monitor_core.proofs.Filed.{AreKept, IsIn, NamedFiles, kept_on, kept_once, kept_still, keyed, unit_files}
use Rattle.monitor_core.proofs.UnitEffect.{Runs, behind_state, effect_of, lined, rest_in_state, step_as, step_legal}

-- one more of the same
one_more : {X : Type 0} (n : ℕ) (x : X) → replicate (suc n) x ≡ replicate n x ++ x ∷ []
one_more n x = let more : suc n ≡ n + 1 = omega arith in ap (λ k. replicate k x) more ∙ sym (replicate-append-replicate n 1 x)

-- a unit that goes through in place leaves the pages of files
once_files : (f : ForkName) (p : NumberedPages) (regs : Regs) (a : After nat_cmp) → once f p regs ≡ Some a → a.pages.files ≡ p.files
once_files f p regs a went =
    let o = once_as f p regs a went in
    ap (λ (x : After nat_cmp). x.pages.files) (sym o.3) ∙ unit_files p f regs o.0 o.1 o.2

module _ (key : List ℕ → ℕ) (filed : NamedFiles) (s : PlainState) (f : Fork) (p : NumberedPages) (t : Runs key filed s f p) where
  abbrev rest : Rest
  rest = rest_in_state s

  -- the state behind units in a row that post nothing
  abbrev row_state : ℕ → After nat_cmp → PlainState
  row_state n a = record s { pages = keyed filed a.pages; forks = fin.insert s.forks f.name (ran_on f n a.regs) }

  -- behind so many of them, and behind fewer, the same forks can run
  abbrev pub RunAsBefore : ℕ → Type 0
  RunAsBefore n = (k : ℕ) → k ≤ n → (g : ForkName) → runs_in (state_after s (replicate k (AUnit f.name))).forks g ≡ runs_in s.forks g

  -- so many units in a row as entries
  pub record RowDone (n : ℕ) (a : After nat_cmp) : Type 0 where
    pub state : state_after s (replicate n (AUnit f.name)) ≡ row_state n a
    pub items : items_of s (replicate n (AUnit f.name)) ≡ []
    pub legal : AreLegal true s (replicate n (AUnit f.name))
    pub files : a.pages.files ≡ p.files
    pub runs : RunAsBefore n

  -- behind them the fork can run as before
  runs_on : (n : ℕ) (a : After nat_cmp) → a.pages.files ≡ p.files → Runs key filed (row_state n a) (ran_on f n a.regs) a.pages
  runs_on n a files = record {
    trees = changed_tree (tree_of s) f (ran_on f n a.regs) t.trees t.fork refl refl refl;
    fork = get_put s.forks f.name f.name (ran_on f n a.regs) refl;
    pages = refl;
    kept = kept_on (IsIn s.files) key p filed t.kept a.pages files;
    held = t.held;
    runs = t.runs;
    thawed = still_frozen (tree_of s) t.trees f (ran_on f n a.regs) t.fork refl refl refl refl MOST_FORKS ∙ t.thawed;
  }

  -- so can each other
  run_before : (n : ℕ) (a : After nat_cmp) (g : ForkName) → runs_in (row_state n a).forks g ≡ runs_in s.forks g
  run_before n a g = elim (cases_name g f.name) [
    | inl same ↦ ap (runs_in (row_state n a).forks) same
        ∙ ap (λ o. option_map_or (can_run (row_state n a).forks) o false) (get_put s.forks f.name f.name now refl)
        ∙ ap (λ b. is_run f.body.status && not b) (still_frozen (tree_of s) t.trees f now t.fork refl refl refl refl MOST_FORKS)
        ∙ sym (ap (λ o. option_map_or (can_run s.forks) o false) t.fork) ∙ ap (runs_in s.forks) (sym same)
    | inr other ↦ sym (body_runs (tree_of s) t.trees f.name now.body g other
        ∙ ap (λ (o : Option Fork). runs_in (changed s.forks (with_body now.body) o) g) t.fork)
  ]
    where
      now : Fork
      now = ran_on f n a.regs

  -- one more, behind which the same forks can run
  run_more : (n : ℕ) (a : After nat_cmp) → RunAsBefore n → state_after s (replicate (suc n) (AUnit f.name)) ≡ row_state (suc n) a → RunAsBefore (suc n)
  run_more n a before is k less g = elim (cases_eq k (suc n)) [
    | inl last ↦ ap (λ i. runs_in (state_after s (replicate i (AUnit f.name))).forks g) last ∙ ap (λ (x : PlainState). runs_in x.forks g) is ∙ run_before (suc n) a g
    | inr fewer ↦ before k (omega (arith, less, fewer)) g
  ]

  -- the line before a unit of the fork at this program counter, where each unit is shown
  abbrev line_at : ℕ → Option ℕ
  line_at pc = cond s.trace (Some pc) None

  line_shown : (pc : ℕ) (b : Bool) → cond b (UnitLine f.name pc ∷ []) [] ≡ line_items f.name (cond b (Some pc) None)
  line_shown pc true = refl
  line_shown pc false = refl

  -- what so many entries of the fork leave and show, as what is behind the last of them, which began at this program counter, with these
  -- pages of files
  pub record Entries (count : ℕ) (pc : ℕ) (last : Behind) : Type 0 where
    pub left : NamedFiles
    pub state : state_after s (replicate count (AUnit f.name)) ≡ behind_state left s f last
    pub items : items_of s (replicate count (AUnit f.name)) ≡ ran_items f.name (line_at pc) (seen_of f.slot last.shown)
    pub legal : AreLegal true s (replicate count (AUnit f.name))
    pub kept : AreKept (λ name. IsIn s.files name × IsIn last.rest.files name) key last.pages left
    pub runs : (k : ℕ) → k < count → (g : ForkName) → runs_in (state_after s (replicate k (AUnit f.name))).forks g ≡ runs_in s.forks g

  -- one more entry behind them
  behind_row : (n : ℕ) (a : After nat_cmp) (e : Behind) → RowDone n a → behind_unit key (put_in rest (ran_on f n a.regs)) (ran_on f n a.regs) a.pages ≡ e → Entries (suc n) a.regs.pc e
  behind_row n a e d is =
      let runs = runs_on n a d.files in
      let ran = ran_on f n a.regs in
      let unit = AUnit f.name in
      let went = step_as key filed (row_state n a) ran a.pages runs in
      let step = went.is ∙ ap (λ (x : Behind). lined (row_state n a) ran (effect_of went.filed (row_state n a) ran x)) is in
      let line : unit_line (row_state n a) f.name ≡ line_items f.name (line_at a.regs.pc) =
      ap (λ o. cond s.trace (option_map_or (λ (k : Fork). UnitLine f.name k.body.regs.pc ∷ []) o []) []) (get_put s.forks f.name f.name ran refl) ∙ line_shown a.regs.pc s.trace in
      let more = one_more n unit in
      let here = d.state in
      record {
        left = went.filed;
        state = ap (state_after s) more ∙ state_after-append s (replicate n unit) (unit ∷ []) ∙ ap (λ x. (apply x unit).state) here ∙ ap (λ x. x.state) step;
        items = ap (items_of s) more ∙ items_of-append s (replicate n unit) (unit ∷ []) ∙ ap (λ is. is ++ items_of (state_after s (replicate n unit)) (unit ∷ [])) d.items
            ∙ ap (λ x. (apply x unit).items ++ []) here ∙ append-nil (apply (row_state n a) unit).items ∙ ap (λ x. x.items) step
            ∙ ap (λ is. is ++ shown_items f.name.tty (seen_of f.slot e.shown)) line;
        legal = subst (AreLegal true s) (sym more) (AreLegal-append true s (replicate n unit) (unit ∷ []) d.legal (subst (λ x. AreLegal true x (unit ∷ [])) (sym here) (step_legal key filed (row_state n a) ran a.pages runs true, tt)));
        kept = subst (λ (x : Behind). AreKept (λ name. IsIn s.files name × IsIn x.rest.files name) key x.pages went.filed) is went.kept;
        runs = λ k less. d.runs k (omega (arith, less));
      }

  no_row : RowDone zero (record { pages = p; regs = f.body.regs; post = None })
  no_row =
      let none : f.body.units + 0 ≡ f.body.units = omega arith in
      let same : ran_on f 0 f.body.regs ≡ f = λ i. record f { body = record f.body { units = none i } } in
      let forks : fin.insert s.forks f.name (ran_on f 0 f.body.regs) ≡ s.forks = ap (fin.insert s.forks f.name) same ∙ insert_again fork_cmp_total fork_cmp_apart s.forks f.name f t.fork in
      record { state = λ i. record s { pages = t.pages i; forks = sym forks i }; items = refl; legal = tt; files = refl; runs = λ k less g. let none : k ≡ 0 = omega (arith, less) in ap (λ i. runs_in (state_after s (replicate i (AUnit f.name))).forks g) none }

  first_row : (a : After nat_cmp) → in_a_row f.name zero p f.body.regs ≡ Some a → RowDone zero a
  unfolding in_a_row
  first_row a is = let same : record { pages = p; regs = f.body.regs; post = None } ≡ a = cc is in subst (RowDone zero) same no_row

  -- units in a row, as entries
  row_done : (n : ℕ) → (1 ≤ n → is_interrupted f.body.psi ≡ false) → (1 ≤ n → s.trace ≡ false) → (a : After nat_cmp) → in_a_row f.name n p f.body.regs ≡ Some a → RowDone n a
  row_done zero alone quiet a is = first_row a is
  row_done (suc n) alone quiet b is =
      let more = row_more f.name n p f.body.regs b is in
      let a = more.before in
      let off = alone (omega arith) in
      let hushed = quiet (omega arith) in
      let d = row_done n (λ some. off) (λ some. hushed) a more.row in
      let ran = ran_on f n a.regs in
      let left = put_in rest ran in
      let went = counted (with_regs ran b.regs) in
      let last = behind_row n a (left_so left went b.pages nothing) d (silent_unit key left ran a.pages b off more.unit more.silent) in
      let files = once_files f.name a.pages a.regs b more.unit ∙ d.files in
      let same : last.left ≡ filed = kept_once (λ name. IsIn s.files name × IsIn s.files name) key b.pages last.left filed last.kept (kept_still (IsIn s.files) key p filed t.kept b.pages files) in
      let counts : f.body.units + n + 1 ≡ f.body.units + suc n = omega arith in
      let state = last.state ∙ ap (λ (x : NamedFiles). behind_state x s f (left_so left went b.pages nothing)) same ∙ ap (λ forks. record s { pages = keyed filed b.pages; forks = forks }) (insert_twice fork_cmp_total fork_cmp_apart s.forks f.name ran went)
      ∙ (λ i. record s { pages = keyed filed b.pages; forks = fin.insert s.forks f.name (record f { body = record f.body { regs = b.regs; units = counts i } }) }) in
      record {
        state = state;
        items = last.items ∙ ap (λ b. ran_items f.name (cond b (Some a.regs.pc) None) (seen_of f.slot nothing)) hushed;
        legal = last.legal;
        files = files;
        runs = run_more n b d.runs state;
      }

  -- the line before the last of them, where each unit is shown: there is no other
  last_line : (n : ℕ) (a : After nat_cmp) → in_a_row f.name n p f.body.regs ≡ Some a → (1 ≤ n → s.trace ≡ false) → line_at a.regs.pc ≡ line_at f.body.regs.pc
  unfolding in_a_row
  last_line zero a is quiet = let same : ◌≡◌ {A = After nat_cmp} (record { pages = p; regs = f.body.regs; post = None }) a = cc is in ap (λ (x : After nat_cmp). line_at x.regs.pc) (sym same)
  last_line (suc n) a is quiet =
      let hushed = quiet (omega arith) in
      ap (λ b. cond b (Some a.regs.pc) None) hushed ∙ sym (ap (λ b. cond b (Some f.body.regs.pc) None) hushed)

  -- units in a row, and the last behind them: one alone, where each is shown
  pub units_as : (count : ℕ) (e : Behind) → (2 ≤ count → s.trace ≡ false) → RanUnits key rest f p count e → Entries count f.body.regs.pc e
  units_as count e quiet r =
      let hushed : 1 ≤ r.before → s.trace ≡ false = λ some. quiet (omega (arith, some, r.counts)) in
      let row = behind_row r.before r.after e (row_done r.before r.alone hushed r.after r.row) r.ends in
      let all : Entries (suc r.before) f.body.regs.pc e = record {
        left = row.left;
        state = row.state;
        items = row.items ∙ ap (λ line. ran_items f.name line (seen_of f.slot e.shown)) (last_line r.before r.after r.row hushed);
        legal = row.legal;
        kept = row.kept;
        runs = row.runs;
      } in
      subst (λ n. Entries n f.body.regs.pc e) (sym r.counts) all
