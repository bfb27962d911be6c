-- The unit of a fork that looks at its channels, and of one that doesn't; what posting does, and characters that are assigned.
use Rattle.std.proofs.Common.{◌≡◌, ◌≢◌, ◌+◌, ◌<◌, ◌≤◌, ◌||◌, ℕ, zero, suc, Bool, true, false, cond, [], ◌∷◌, Option, Some, inl, inr, refl, sym, ◌∙◌, ap, arith}
use Rattle.std.specs.Prelude.{◌&&◌, IsSome, is_some}
use Rattle.std.specs.List.{list_any, range_with_len}
use Rattle.std.specs.Option.{option_map_or}
use Rattle.std.specs.FinMap as map
use Rattle.std.proofs.lemmas.Bool.{cases_Bool, cond_both, ne_eqb}
use Rattle.machine_names.specs.declared.names.ForkName.{ForkName}
use Rattle.machine_names.specs.declared.names.Tty.{Tty}
use Rattle.plain_typing.specs.Characters.{read_as}
use Rattle.plain_typing.specs.Typing.{fate_of, posted_or_stored}
use Rattle.plain_typing.specs.declared.typed.TheConstants.{CONTROL_C}
use Rattle.plain_typing.specs.declared.typed.Typed.{Typed}
use Rattle.plain_typing.specs.declared.typed.Typed.TheVariants.{Posts, ControlC}
use Rattle.script_texts.specs.declared.status.ForkStatus.TheVariants.{Forced, Wait, Run}
use Rattle.script_texts.specs.declared.status.WaitOn.{WaitOn}
use Rattle.plain_model.specs.declared.fork.Fork.{Fork}
use Rattle.plain_model.specs.declared.fork.Psi.{Psi}
use Rattle.plain_model.specs.declared.fork.TerminalMode.TheVariants.{Program}
use Rattle.plain_model.specs.declared.interrupt.Inspected.{Inspected}
use Rattle.plain_model.specs.declared.interrupt.TheConstants.{CHANNELS}
use Rattle.plain_model.specs.Forks.{with_fork, with_status}
use Rattle.plain_model.specs.Inspections.{is_interrupted, is_wanted, wants_one}
use Rattle.plain_model.specs.Interrupts.{forces, is_panic, listens, pended, posted, woken}
use Rattle.plain_model.specs.State.{PlainJob, PlainState}
use Rattle.plain_model.specs.TypeEvents.{channel_posted, line_of, typed_one, typed_so}
use Rattle.plain_model.specs.Unit.{Effect, decided, instruction_unit, interrupted_unit, stopped, unit}
use Rattle.plain_model.proofs.Equations.{unit_some}
use Rattle.plain_laws.specs.InterruptLaws.{Finds, Wants, pages_then}
use Rattle.plain_laws.specs.JfnLaws.{Lives}
use Rattle.plain_laws.specs.TypeLaws.{HasJob, typed}
use Rattle.plain_laws.proofs.TypedLines.{at_here, one_typed, typed_here}

-- ---- whether a fork looks at its channels

-- a number that passes a test, of so many
range_tells : (p : ℕ → Bool) (from n : ℕ) → list_any p (range_with_len from n) ≡ true → (k : ℕ) × (k < from + n) × (p k ≡ true)
range_tells p from zero h = absurd (cc h)
range_tells p from (suc n) h = by (λ f. range_tells p f n) (p from) refl h
  where
    by : ((f : ℕ) → list_any p (range_with_len f n) ≡ true → (k : ℕ) × (k < f + n) × (p k ≡ true)) → (b : Bool) → p from ≡ b → (b || list_any p (range_with_len (from + 1) n)) ≡ true → (k : ℕ) × (k < from + suc n) × (p k ≡ true)
    by rest true is e = (from, omega arith, is)
    by rest false is e = (let r = rest (from + 1) e in (r.0, omega (arith, r.1), r.2))

range_has : (p : ℕ → Bool) (from n k : ℕ) → from ≤ k → k < from + n → p k ≡ true → list_any p (range_with_len from n) ≡ true
range_has p from zero k low below is = absurd (omega (arith, low, below))
range_has p from (suc n) k low below is = by (λ f. range_has p f n k) (p from) refl
  where
    by : ((f : ℕ) → f ≤ k → k < f + n → p k ≡ true → list_any p (range_with_len f n) ≡ true) → (b : Bool) → p from ≡ b → (b || list_any p (range_with_len (from + 1) n)) ≡ true
    by rest true here = refl
    by rest false here = rest (from + 1) (above (from ≢ k) (λ e. (let no : true ≡ false = sym is ∙ ap p (sym e) ∙ here in cc no))) (omega (arith, below)) is
      where
        above : (P : Type 0) → (from ≢ k) → from + 1 ≤ k
        above P ne = omega (arith, low, ne)

pub wants_so : (psi : Psi) → Wants psi → wants_one psi ≡ true
wants_so psi w = range_has (is_wanted psi) 0 CHANNELS w.0 (omega arith) (omega (arith, w.1)) w.2

pub wants_tells : (psi : Psi) → wants_one psi ≡ true → Wants psi
wants_tells psi h = (let r = range_tells (is_wanted psi) 0 CHANNELS h in (r.0, omega (arith, r.1), r.2))

pub looks_so : (psi : Psi) → psi.on ≡ true → IsSome psi.table → Wants psi → is_interrupted psi ≡ true
unfolding is_interrupted
looks_so psi on table w = ap (λ b. b && is_some psi.table && wants_one psi) on ∙ ap (λ b. b && wants_one psi) table ∙ wants_so psi w

pub looks_tells : (psi : Psi) → is_interrupted psi ≡ true → (psi.on ≡ true) × IsSome psi.table × Wants psi
unfolding is_interrupted
looks_tells psi h = by psi.on (is_some psi.table) refl refl h
  where
    by : (a b : Bool) → psi.on ≡ a → is_some psi.table ≡ b → (a && b && wants_one psi) ≡ true → (psi.on ≡ true) × IsSome psi.table × Wants psi
    by true true x y e = (x, y, wants_tells psi e)
    by true false x y e = absurd (cc e)
    by false b x y e = absurd (cc e)

-- it doesn't, where one of these is not so
pub looks_not : (psi : Psi) → ((psi.on ≡ true) × IsSome psi.table × Wants psi → ⊥) → is_interrupted psi ≡ false
looks_not psi never = elim (cases_Bool (is_interrupted psi)) [
  | inl looks ↦ absurd (never (looks_tells psi looks))
  | inr is ↦ is
]

-- ---- units

module _ (s : PlainState) (f : Fork) (there : Lives s f) where
  pub unit_found : (what : Inspected) → is_interrupted f.body.psi ≡ true → Finds s f what → unit s f.name ≡ decided s f (pages_then s f) what
  unit_found what on is = unit_some s f.name f there ∙ ap (λ b. cond b (interrupted_unit s f) (instruction_unit s f)) on ∙ ap (decided s f (pages_then s f)) is

  pub unit_instruction : is_interrupted f.body.psi ≡ false → unit s f.name ≡ instruction_unit s f
  unit_instruction off = unit_some s f.name f there ∙ ap (λ b. cond b (interrupted_unit s f) (instruction_unit s f)) off

-- ---- posting

module _ (f : Fork) (channel : ℕ) where
  pub posted_pending : listens f.body.psi channel ≡ true → posted f channel ≡ pended f channel
  posted_pending takes = ap (λ b. cond b (pended f channel) (cond (is_panic channel) (with_status f (Forced channel)) f)) takes

  pub posted_forced : listens f.body.psi channel ≡ false → is_panic channel ≡ true → posted f channel ≡ with_status f (Forced channel)
  posted_forced misses panics = ap (λ b. cond b (pended f channel) (cond (is_panic channel) (with_status f (Forced channel)) f)) misses ∙ ap (λ b. cond b (with_status f (Forced channel)) f) panics

  pub posted_dropped : listens f.body.psi channel ≡ false → is_panic channel ≡ false → posted f channel ≡ f
  posted_dropped misses drops = ap (λ b. cond b (pended f channel) (cond (is_panic channel) (with_status f (Forced channel)) f)) misses ∙ ap (λ b. cond b (with_status f (Forced channel)) f) drops

  -- the registers stay
  pub posted_regs : (posted f channel).body.regs ≡ f.body.regs
  posted_regs = cond_both (listens f.body.psi channel) (pended f channel) _ (λ (g : Fork). g.body.regs ≡ f.body.regs) (λ takes. refl)
      (λ misses. cond_both (is_panic channel) (with_status f (Forced channel)) f (λ (g : Fork). g.body.regs ≡ f.body.regs) (λ panics. refl) (λ drops. refl))

  -- who waited runs
  pub posted_wakes : (on : WaitOn) → f.body.status ≡ Wait on → listens f.body.psi channel ≡ true → (posted f channel).body.status ≡ Run
  posted_wakes on waits takes = ap (λ (g : Fork). g.body.status) (posted_pending takes) ∙ ap woken waits

-- ---- characters that are assigned

module _ (s : PlainState) (t : Tty) (j : PlainJob) (c channel : ℕ) (f : Fork) (is : HasJob s t j) (mode : j.mode ≡ Program) (other : read_as c ≢ CONTROL_C) (assigned : map.get j.codes (read_as c) ≡ Some (f.name, channel)) (lives : Lives s f) where
  fate_so : fate_of (line_of j) (read_as c) ≡ Posts f.name channel
  fate_so = ap (λ b. cond b ControlC (posted_or_stored (map.get j.codes (read_as c)) j.input)) (ne_eqb (read_as c) CONTROL_C other) ∙ ap (λ (o : Option (ForkName × ℕ)). posted_or_stored o j.input) assigned

  pub assigned_so : typed s t (c ∷ []) ≡ channel_posted s channel f
  unfolding typed_one
  assigned_so =
      typed_here s t j is (c ∷ []) ∙ one_typed s t c ∙ at_here s t j is c ∙ ap (λ m. typed_one m s t j (read_as c)) mode ∙ ap (λ (x : Typed). typed_so x s t j (read_as c)) fate_so
      ∙ ap (λ (o : Option Fork). option_map_or (channel_posted s channel) o (record { state = s; items = [] })) lives

  abbrev either : Bool → Effect
  either b = cond b (stopped s (posted f channel)) (record { state = with_fork s (posted f channel); items = [] })

  pub assigned_goes : forces f.body.psi channel ≡ false → typed s t (c ∷ []) ≡ record { state = with_fork s (posted f channel); items = [] }
  assigned_goes goes = assigned_so ∙ ap either goes

  pub assigned_stops : forces f.body.psi channel ≡ true → typed s t (c ∷ []) ≡ stopped s (posted f channel)
  assigned_stops stops = assigned_so ∙ ap either stops
