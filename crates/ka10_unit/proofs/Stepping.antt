-- The words of a unit, one behind the other.
use Rattle.std.proofs.Common.{◌≡◌, ℕ, suc, ◌-◌, ◌<◌, Bool, true, false, cond, List, [], None, Some, refl, sym, ◌∙◌, ap, arith}
use Rattle.std.specs.Prelude.{Result, Ok, Err}
use Rattle.std.specs.Ordering.{nat_cmp}
use Rattle.ka10_table.specs.declared.families.Family.{Family}
use Rattle.ka10_table.specs.declared.families.Family.TheVariants.{Illegal, Local, Monitor, ByteOp, Move, Imul, Mul, Idiv, Div, Shift, Jffo, DoubleShift, Exch, Blt, Aobj, Jrst, Jfcl, Xct, Pushj, PushPop, Popj, JsrJsp, JsaJra, AddSub, Compare, JumpSkip, AddOne, SubOne, Boolean, Half, Test}
use Rattle.ka10_table.specs.declared.families.TableRow.{TableRow}
use Rattle.ka10_table.specs.Rows.{row_of}
use Rattle.plain_units.specs.declared.channel.TheConstants.{ILLEGAL_INSTRUCTION}
use Rattle.machine_names.specs.declared.names.ForkName.{ForkName}
use Rattle.machine_names.specs.declared.names.Kind.TheVariants.{Execute, Write}
use Rattle.plain_units.specs.declared.registers.Regs.{Regs}
use Rattle.plain_units.specs.Steps.{Progress, Steps, refers, keeps, stopped, traps, calls, run, begun}
use Rattle.plain_units.specs.Addressing.{opcode, ac_field}
use Rattle.plain_units.specs.Instructions.{execute, executes, does, instruction, local_word, LOCAL_CALL, LOCAL_HANDLER}
use Rattle.ka10_deeds.specs.declared.word_fields.Address.{Address}
use Rattle.ka10_unit.specs.declared.ends.Ending.{Ending}
use Rattle.ka10_unit.specs.declared.plans.Next.{Next}
use Rattle.ka10_unit.specs.declared.plans.WordStep.{WordStep}
use Rattle.ka10_unit.specs.declared.plans.WordStep.TheVariants as step
use Rattle.ka10_unit.specs.declared.plans.Planned.{Planned}
use Rattle.ka10_unit.specs.declared.plans.Planned.TheVariants as planned
use Rattle.ka10_unit.specs.declared.taken.Taken.{Taken}
use Rattle.ka10_unit.specs.declared.taken.Stop.{Stop}
use Rattle.ka10_unit.specs.declared.taken.Stop.TheVariants.{Trap, Need}
use Rattle.page_gather.specs.Gathering.{Gathers, after_all}
use Rattle.ka10_unit.specs.Gathers.{Framed}
use Rattle.ka10_unit.specs.Taking.{CanWrite, Follows, Stands, progress, run_over, so_far, stop_of}
use Rattle.ka10_unit.specs.Planning.{CanDo, Concludes, Ends, Plans, StepsOn, as_step, calls_local, does_at, is_illegal, planned_as, reached, stopped_by, unit_over}
use Rattle.ka10_unit.proofs.Plainly.{plain_of}

-- an instruction is illegal, or takes its address first
pub executes_is : (family : Family) (row : TableRow) (is_local : Bool) (regs : Regs) (w : ℕ) (next : Bool → ℕ → Steps)
    → executes family row is_local regs w next ≡ cond (is_illegal family is_local (ac_field w)) (traps ILLEGAL_INSTRUCTION) (reached regs.ac w (λ a. does_at family row is_local regs w a next))
executes_is Illegal row is_local regs w next = refl
executes_is Local row is_local regs w next = refl
executes_is Monitor row is_local regs w next = refl
executes_is ByteOp row is_local regs w next = refl
executes_is Move row is_local regs w next = refl
executes_is Imul row is_local regs w next = refl
executes_is Mul row is_local regs w next = refl
executes_is Idiv row is_local regs w next = refl
executes_is Div row is_local regs w next = refl
executes_is Shift row is_local regs w next = refl
executes_is Jffo row is_local regs w next = refl
executes_is DoubleShift row is_local regs w next = refl
executes_is Exch row is_local regs w next = refl
executes_is Blt row is_local regs w next = refl
executes_is Aobj row is_local regs w next = refl
executes_is Jrst row is_local regs w next = refl
executes_is Jfcl row is_local regs w next = refl
executes_is Xct row is_local regs w next = refl
executes_is Pushj row is_local regs w next = refl
executes_is PushPop row is_local regs w next = refl
executes_is Popj row is_local regs w next = refl
executes_is JsrJsp row is_local regs w next = refl
executes_is JsaJra row is_local regs w next = refl
executes_is AddSub row is_local regs w next = refl
executes_is Compare row is_local regs w next = refl
executes_is JumpSkip row is_local regs w next = refl
executes_is AddOne row is_local regs w next = refl
executes_is SubOne row is_local regs w next = refl
executes_is Boolean row is_local regs w next = refl
executes_is Half row is_local regs w next = refl
executes_is Test row is_local regs w next = refl

-- most instructions take one word at most, and store one at most
pub does_ordinary : (family : Family) → (family ≡ Monitor → ⊥) → (family ≡ Xct → ⊥) → (family ≡ Local → ⊥) → (family ≡ ByteOp → ⊥) → (row : TableRow) (is_local : Bool) (regs : Regs) (w : ℕ) (a : Address) (next : Bool → ℕ → Steps)
    → does_at family row is_local regs w a next ≡ does row (opcode w) regs (ac_field w) a.e a.last
does_ordinary Monitor m x l b row is_local regs w a next = absurd (m refl)
does_ordinary Xct m x l b row is_local regs w a next = absurd (x refl)
does_ordinary Local m x l b row is_local regs w a next = absurd (l refl)
does_ordinary ByteOp m x l b row is_local regs w a next = absurd (b refl)
does_ordinary Illegal m x l b row is_local regs w a next = refl
does_ordinary Move m x l b row is_local regs w a next = refl
does_ordinary Imul m x l b row is_local regs w a next = refl
does_ordinary Mul m x l b row is_local regs w a next = refl
does_ordinary Idiv m x l b row is_local regs w a next = refl
does_ordinary Div m x l b row is_local regs w a next = refl
does_ordinary Shift m x l b row is_local regs w a next = refl
does_ordinary Jffo m x l b row is_local regs w a next = refl
does_ordinary DoubleShift m x l b row is_local regs w a next = refl
does_ordinary Exch m x l b row is_local regs w a next = refl
does_ordinary Blt m x l b row is_local regs w a next = refl
does_ordinary Aobj m x l b row is_local regs w a next = refl
does_ordinary Jrst m x l b row is_local regs w a next = refl
does_ordinary Jfcl m x l b row is_local regs w a next = refl
does_ordinary Pushj m x l b row is_local regs w a next = refl
does_ordinary PushPop m x l b row is_local regs w a next = refl
does_ordinary Popj m x l b row is_local regs w a next = refl
does_ordinary JsrJsp m x l b row is_local regs w a next = refl
does_ordinary JsaJra m x l b row is_local regs w a next = refl
does_ordinary AddSub m x l b row is_local regs w a next = refl
does_ordinary Compare m x l b row is_local regs w a next = refl
does_ordinary JumpSkip m x l b row is_local regs w a next = refl
does_ordinary AddOne m x l b row is_local regs w a next = refl
does_ordinary SubOne m x l b row is_local regs w a next = refl
does_ordinary Boolean m x l b row is_local regs w a next = refl
does_ordinary Half m x l b row is_local regs w a next = refl
does_ordinary Test m x l b row is_local regs w a next = refl

-- a plan that stops stores nothing, and is as it stops
stopped_puts : (f : ForkName) (p : Framed) (e : Stop) → CanDo f p (stopped_by e)
stopped_puts f p (Trap channel) = tt
stopped_puts f p (Need n) = tt

stopped_as : (p : Framed) (ac : List ℕ) (t : Taken) (e : Stop) → stopped (stop_of e) ≡ planned_as p ac t (stopped_by e)
stopped_as p ac t (Trap channel) = refl
stopped_as p ac t (Need n) = refl

one_less : (n : ℕ) → 0 < n → n ≡ suc (n - 1)
one_less n h = omega arith

module _ (f : ForkName) (p : Framed) (ac : List ℕ) where
  -- ---- one word

  pub steps_stop : {A : Type 0} (t new : Taken) (part : (A → Steps) → Steps) (rest : (Bool → ℕ → Steps) → A → Steps) (stop : Stop) → Follows f p ac t new part (Err stop) → StepsOn f p ac t new (λ next. part (rest next)) (Err stop)
  steps_stop t new part rest stop h = record { stands = h.stands; put = tt; runs = λ next. h.runs (rest next) }

  pub steps_at : {A : Type 0} (t mid new : Taken) (part : (A → Steps) → Steps) (rest : (Bool → ℕ → Steps) → A → Steps) (x : A) (result : Result WordStep Stop) → Follows f p ac t mid part (Ok x) → StepsOn f p ac mid new (λ next. rest next x) result
      → StepsOn f p ac t new (λ next. part (rest next)) result
  steps_at t mid new part rest x result h k = record { stands = k.stands; put = k.put; runs = λ next. h.runs (rest next) ∙ k.runs next }

  pub steps_ended : (t new : Taken) (left : Steps) (result : Result Ending Stop) → Ends f p ac t new left result → StepsOn f p ac t new (λ next. left) (as_step result)
  steps_ended t new left (Ok x) h = record { stands = h.stands; put = h.put; runs = λ next. h.runs }
  steps_ended t new left (Err e) h = record { stands = h.stands; put = tt; runs = λ next. h.runs }

  pub steps_ordinary : (t new : Taken) (row : TableRow) (is_local : Bool) (regs : Regs) (w : ℕ) (a : Address) (result : Result WordStep Stop) → (row.family ≡ Monitor → ⊥) → (row.family ≡ Xct → ⊥) → (row.family ≡ Local → ⊥) → (row.family ≡ ByteOp → ⊥)
      → StepsOn f p ac t new (λ next. does row (opcode w) regs (ac_field w) a.e a.last) result → StepsOn f p ac t new (does_at row.family row is_local regs w a) result
  steps_ordinary t new row is_local regs w a result m x l b h = record { stands = h.stands; put = h.put; runs = λ next. rw (does_ordinary row.family m x l b row is_local regs w a next) (h.runs next) }

  pub steps_on : (t new : Taken) (at w : ℕ) (is_local : Bool) → Follows f p ac t new (refers at Execute) (Ok w) → StepsOn f p ac t new (λ next. refers at Execute (next is_local)) (Ok (step.Goes (record { is_local = is_local; word = w })))
  steps_on t new at w is_local h = record { stands = h.stands; put = tt; runs = λ next. h.runs (next is_local) }

  pub steps_call : (t : Taken) (n : ℕ) → Stands f p t → StepsOn f p ac t t (λ next. calls n) (Ok (step.Calls n))
  unfolding run
  steps_call t n s = record { stands = s; put = tt; runs = λ next. refl }

  -- the word of a local call is kept
  pub local_stands : (t kept : Taken) (v w : ℕ) → kept.fork ≡ t.fork → kept.gather ≡ t.gather → kept.kept ≡ Some (record { at = LOCAL_CALL; word = w }) → Stands f p t → CanWrite {A = ℕ} f p t LOCAL_CALL (Ok v) → Stands f p kept
  local_stands t kept v w same gather put s may = record { fork = same ∙ s.fork; gathers = rw gather s.gathers; kept = rw (put, gather) (may refl) }

  pub local_goes : (t mid kept new : Taken) (w e v stored : ℕ) (result : Result WordStep Stop) → kept.gather ≡ mid.gather → kept.refs.items ≡ mid.refs.items → kept.kept ≡ Some (record { at = LOCAL_CALL; word = stored }) → stored ≡ local_word w e
      → Follows f p ac t mid (refers LOCAL_CALL Write) (Ok v) → StepsOn f p ac kept new (λ next. refers LOCAL_HANDLER Execute (next true)) result → StepsOn f p ac t new (calls_local w e) result
  unfolding run
  local_goes t mid kept new w e v stored result gather refs put is h k =
      let now : progress p ac kept ≡ record (progress p ac mid) { kept = Some (record { at = LOCAL_CALL; word = local_word w e }) } = rw (gather, refs, put, is) refl in
      record {
        stands = k.stands;
        put = k.put;
        runs = λ next. h.runs (λ x. keeps LOCAL_CALL (local_word w e) (refers LOCAL_HANDLER Execute (next true))) ∙ ap (λ (y : Progress nat_cmp). run_over f p (refers LOCAL_HANDLER Execute (next true)) y) (sym now) ∙ k.runs next;
      }

  module _ (regs : Regs) (w : ℕ) (is_local : Bool) (row : TableRow) where
    -- an illegal word
    pub refuses : (t : Taken) → Stands f p t → is_illegal row.family is_local (ac_field w) ≡ true → StepsOn f p ac t t (executes row.family row is_local regs w) (Err (Trap ILLEGAL_INSTRUCTION))
    unfolding run
    refuses t s is = record { stands = s; put = tt; runs = λ next. rw (executes_is row.family row is_local regs w next, is) refl }

    -- a word that takes its address
    pub takes_address : (t new : Taken) (result : Result WordStep Stop) → is_illegal row.family is_local (ac_field w) ≡ false → StepsOn f p ac t new (λ next. reached regs.ac w (λ a. does_at row.family row is_local regs w a next)) result
        → StepsOn f p ac t new (executes row.family row is_local regs w) result
    takes_address t new result is h = record { stands = h.stands; put = h.put; runs = λ next. rw (executes_is row.family row is_local regs w next, is) (h.runs next) }

module _ (f : ForkName) (p : Framed) (regs : Regs) where
  -- ---- all words

  pub out_of_words : (t : Taken) (left w : ℕ) (is_local : Bool) → left ≡ 0 → Stands f p t → Concludes f p regs.ac t t (execute left is_local regs w) (planned.Trap ILLEGAL_INSTRUCTION)
  unfolding execute run
  out_of_words t left w is_local none s = record { stands = s; put = tt; runs = rw none refl }

  module _ (t new : Taken) (left w : ℕ) (is_local : Bool) (more : 0 < left) where
    pub word_stops : (e : Stop) → StepsOn f p regs.ac t new (executes (row_of (opcode w)).family (row_of (opcode w)) is_local regs w) (Err e) → Concludes f p regs.ac t new (execute left is_local regs w) (stopped_by e)
    unfolding execute
    word_stops e h = record { stands = h.stands; put = stopped_puts f (so_far p new) e; runs = rw (one_less left more) (h.runs (λ l v. execute (left - 1) l regs v) ∙ stopped_as p regs.ac new e) }

    pub word_calls : (n : ℕ) → StepsOn f p regs.ac t new (executes (row_of (opcode w)).family (row_of (opcode w)) is_local regs w) (Ok (step.Calls n)) → Concludes f p regs.ac t new (execute left is_local regs w) (planned.Call n)
    unfolding execute
    word_calls n h = record { stands = h.stands; put = tt; runs = rw (one_less left more) (h.runs (λ l v. execute (left - 1) l regs v)) }

    pub word_ends : (x : Ending) → StepsOn f p regs.ac t new (executes (row_of (opcode w)).family (row_of (opcode w)) is_local regs w) (Ok (step.Ends x)) → Concludes f p regs.ac t new (execute left is_local regs w) (planned.Do x)
    unfolding execute
    word_ends x h = record { stands = h.stands; put = h.put; runs = rw (one_less left more) (h.runs (λ l v. execute (left - 1) l regs v)) }

    pub word_goes : (last : Taken) (n : Next) (result : Planned) → StepsOn f p regs.ac t new (executes (row_of (opcode w)).family (row_of (opcode w)) is_local regs w) (Ok (step.Goes n))
        → Concludes f p regs.ac new last (execute (left - 1) n.is_local regs n.word) result → Concludes f p regs.ac t last (execute left is_local regs w) result
    unfolding execute
    word_goes last n result h k = record { stands = k.stands; put = k.put; runs = rw (one_less left more) (h.runs (λ l v. execute (left - 1) l regs v) ∙ k.runs) }

  -- ---- the fetch

  -- nothing is taken
  pub none_stands : (t : Taken) → t.fork ≡ f → Gathers p.pages p.scene t.gather → t.kept ≡ None → Stands f p t
  none_stands t fork gathers kept = record { fork = fork; gathers = gathers; kept = rw kept tt }

  none_begun : (t : Taken) → t.gather.references ≡ [] → t.refs.items ≡ [] → t.kept ≡ None → progress p regs.ac t ≡ begun p.pages regs.ac
  unfolding after_all
  none_begun t gather refs kept = rw (gather, refs, kept) refl

  -- what is planned is what the unit comes to
  plans_as : (t : Taken) (result : Planned) → Stands f p t → CanDo f (so_far p t) result → unit_over f p regs ≡ planned_as p regs.ac t result → Plans f p regs t result
  plans_as t result stands put is = record { stands = stands; put = put; is = is; plain = plain_of f p (instruction regs) (begun p.pages regs.ac) (planned_as p regs.ac t result) is }

  pub plan_stops : (t new : Taken) (e : Stop) → t.gather.references ≡ [] → t.refs.items ≡ [] → t.kept ≡ None → Follows f p regs.ac t new (refers regs.pc Execute) (Err e) → Plans f p regs new (stopped_by e)
  unfolding instruction
  plan_stops t new e gather refs kept h = plans_as new (stopped_by e) h.stands (stopped_puts f (so_far p new) e) is
    where
      is : unit_over f p regs ≡ planned_as p regs.ac new (stopped_by e)
      is = rw (← none_begun t gather refs kept) (h.runs (execute 17 false regs)) ∙ stopped_as p regs.ac new e

  pub plan_goes : (t mid new : Taken) (w : ℕ) (result : Planned) → t.gather.references ≡ [] → t.refs.items ≡ [] → t.kept ≡ None → Follows f p regs.ac t mid (refers regs.pc Execute) (Ok w) → Concludes f p regs.ac mid new (execute 17 false regs w) result → Plans f p regs new result
  unfolding instruction
  plan_goes t mid new w result gather refs kept h k = plans_as new result k.stands k.put is
    where
      is : unit_over f p regs ≡ planned_as p regs.ac new result
      is = rw (← none_begun t gather refs kept) (h.runs (execute 17 false regs) ∙ k.runs)
