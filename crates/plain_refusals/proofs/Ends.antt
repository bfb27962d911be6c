-- How the turn of a call may end, whatever it is told.
use Rattle.std.proofs.Common.{◌≡◌, ℕ, Bool, true, List, length, Option, Some, Result, Ok, Err, refl, sym, subst, zero, suc, [], ◌∷◌, ◌++◌, Ordering}
use Rattle.std.specs.Prelude.{nat_le}
use Rattle.std.specs.Option.{option_map, option_map_or}
use Rattle.std.proofs.lemmas.Bool.{and_from, cond_both}
use Rattle.machine_names.specs.declared.names.ForkName.{ForkName}
use Rattle.machine_names.specs.declared.names.Kind.{Kind}
use Rattle.machine_names.specs.declared.names.Kind.TheVariants.{Read, Write, Execute}
use Rattle.machine_names.specs.declared.names.PageName.{PageName}
use Rattle.machine_names.specs.declared.names.Tty.{Tty}
use Rattle.machine_names.specs.Orders.{FilePage}
use Rattle.plain_pages.specs.declared.map.MapEntry.{MapEntry}
use Rattle.plain_pages.specs.PlainPages.{PlainPages}
use Rattle.plain_pages.specs.References.{Referred, Spot, denied, full, granted, in_file, in_map, reference, slot_at}
use Rattle.plain_units.specs.declared.channel.TheConstants.{ILLEGAL_INSTRUCTION}
use Rattle.plain_units.specs.declared.registers.Regs.{Regs}
use Rattle.plain_units.specs.declared.unit.TheConstants.{MOST_REFERENCES}
use Rattle.plain_units.specs.Addressing.{address, address_within, most_words, indexed, is_indirect, last_taken}
use Rattle.plain_units.specs.Blocks.{block_steps, next_address, steps_on}
use Rattle.plain_units.specs.Steps.{Asked, Ending, Planned, Progress, Steps, asked_at, begun, call, calls, denied_channel, done, ends as steps_end, goes, goes_on, is_accumulator, keeps, need, pages_left, plain_asked, plainly, referred, refers, run, stopped, stops, trap, traps as steps_trap, widened, widens, word_taken}
use Rattle.plain_model.specs.declared.call.End.{End}
use Rattle.plain_model.specs.declared.call.End.TheVariants.{Trap}
use Rattle.plain_model.specs.declared.call.Touched.{Touched}
use Rattle.plain_model.specs.declared.call.Touched.TheVariants.{Granted, Denied, Full}
use Rattle.plain_model.specs.Calls.{Sight, Turn, adds, and_then, ends, finds, given, looks, makes, reads, sees, spot_of, stepped, takes, touched, touches, turn_on}
use Rattle.plain_model.specs.PointedTexts.{address_steps}
use Rattle.plain_model.specs.Readings.{Reading, ends_with, read, with_reading, words}
use Rattle.plain_refusals.specs.CallAnswers.{answer_by, fails, refuses}
use Rattle.plain_refusals.specs.CallTable.{CallRow, allows, is_one_of, reference_traps}
use Rattle.plain_refusals.proofs.EventsRefused.{written_in_file}

-- ---- traps of steps

-- a trap with one of the channels of a reference
abbrev pub IsTrap : ℕ → Type 0
IsTrap channel = is_one_of reference_traps channel ≡ true

-- steps that trap by themselves only so
abbrev pub TrapsSo : Steps → Type 0
TrapsSo (refers a kind next) = (w : ℕ) → TrapsSo (next w)
TrapsSo (widens a next) = TrapsSo next
TrapsSo (keeps a w next) = TrapsSo next
TrapsSo (steps_end e) = Unit {0}
TrapsSo (steps_trap channel) = IsTrap channel
TrapsSo (calls number) = Unit {0}

module _ {K : Type 0} {file_cmp : K → K → Ordering} where
  abbrev StopsSo : Asked ⊥ (PlainPages file_cmp) → Type 0
  StopsSo (goes p) = Unit {0}
  StopsSo (stops (trap channel)) = IsTrap channel
  StopsSo (stops (need none)) = Unit {0}

  abbrev pub PlannedSo : Planned file_cmp ⊥ → Type 0
  PlannedSo (done t e) = Unit {0}
  PlannedSo (stopped (trap channel)) = IsTrap channel
  PlannedSo (stopped (need none)) = Unit {0}
  PlannedSo (call number) = Unit {0}

  module _ (f : ForkName) where
    asked_so : (p : PlainPages file_cmp) (a : ℕ) (kind : Kind) → StopsSo (asked_at (plainly f) f p a kind)
    asked_so p a kind = cond_both (is_accumulator a) _ _ StopsSo (λ low. tt) (λ high. by (reference p (in_map (slot_at f a)) kind f.tty))
      where
        denies : (k : Kind) → IsTrap (denied_channel k)
        denies Read = refl
        denies Write = refl
        denies Execute = refl

        by : (r : Referred file_cmp) → StopsSo (plain_asked r)
        by (granted q) = tt
        by (denied k) = denies k
        by full = refl

    goes_so : (r : Asked ⊥ (PlainPages file_cmp)) → StopsSo r → (next : PlainPages file_cmp → Planned file_cmp ⊥) → ((p : PlainPages file_cmp) → PlannedSo (next p)) → PlannedSo (goes_on r next)
    goes_so (goes p) so next rest = rest p
    goes_so (stops (trap channel)) so next rest = so
    goes_so (stops (need none)) so next rest = tt

    pub run_so : (steps : Steps) → TrapsSo steps → (t : Progress file_cmp) → PlannedSo (run (plainly f) f steps t)
    unfolding run
    run_so (refers a kind next) so t =
        cond_both (nat_le MOST_REFERENCES (length t.refs)) _ _ PlannedSo (λ most. refl)
        (λ few. goes_so (asked_at (plainly f) f t.pages a kind) (asked_so t.pages a kind) _ (λ p. run_so (next (word_taken f (referred t a kind p) a)) (so (word_taken f (referred t a kind p) a)) (referred t a kind p)))
    run_so (widens a next) so t = goes_so (asked_at (plainly f) f t.pages a Write) (asked_so t.pages a Write) _ (λ p. run_so next so (widened t a p))
    run_so (keeps a w next) so t = run_so next so (record t { kept = Some (record { at = a; word = w }) })
    run_so (steps_end e) so t = tt
    run_so (steps_trap channel) so t = so
    run_so (calls number) so t = tt

-- ---- ends of turns

-- what a reference may come to: a write to a file's page is never denied
abbrev pub MayCome : {F : Type 0} → Spot F → Kind → Touched → Type 0
MayCome (in_file f) Write Denied = ⊥
MayCome at kind what = Unit {0}

granted_may : {F : Type 0} (at : Spot F) (kind : Kind) → MayCome at kind Granted
granted_may (in_map s) kind = tt
granted_may (in_file f) Read = tt
granted_may (in_file f) Write = tt
granted_may (in_file f) Execute = tt

full_may : {F : Type 0} (at : Spot F) (kind : Kind) → MayCome at kind Full
full_may (in_map s) kind = tt
full_may (in_file f) Read = tt
full_may (in_file f) Write = tt
full_may (in_file f) Execute = tt

-- what is read in the space of a fork traps only so
abbrev pub ReadsSo : {A : Type 0} → Reading A → Type 0
ReadsSo (words steps rest) = TrapsSo steps × ((w : ℕ) → ReadsSo (rest w))
ReadsSo (read found) = Unit {0}

-- an error that was named is such
abbrev pub OnErr : {A : Type 0} → (ℕ → Type 0) → Result A ℕ → Type 0
OnErr Fits (Ok a) = Unit {0}
OnErr Fits (Err code) = Fits code

-- ENDS OF A KIND: a turn that takes words of its fork's space is one that may
module _ (Refers : Type 0) {F C : Type 0} (Good : End C → Type 0) where
  -- a turn that ends so, whatever it is told
  abbrev pub EndsWith : Turn F C → Type 0
  EndsWith (sees s next) = (e : MapEntry) → EndsWith (next e)
  EndsWith (finds at next) = (n : Option PageName) → EndsWith (next n)
  EndsWith (reads f offset next) = (w : ℕ) → EndsWith (next w)
  EndsWith (touches owner at kind next) = (what : Touched) → MayCome at kind what → EndsWith (next what)
  EndsWith (takes f regs steps next) = Refers × TrapsSo steps × ((e : Ending) → EndsWith (next e))
  EndsWith (adds f entries next) = (room : Bool) → EndsWith (next room)
  EndsWith (looks name next) = (there : Bool) → EndsWith (next there)
  EndsWith (makes name next) = (room : Bool) → EndsWith (next room)
  EndsWith (ends e) = Good e

  module _ (traps_so : Refers → (channel : ℕ) → IsTrap channel → Good (Trap channel))
      {K : Type 0} {file_cmp : K → K → Ordering} (sight : Sight F K) (knows : (f : F) → (k : K) × (sight.file_of f ≡ Some k)) where
    abbrev ComesSo : PlainPages file_cmp → Turn F C → Type 0
    ComesSo p t = Good (turn_on sight p t).end

    denied_may : (p : PlainPages file_cmp) (f : FilePage F) (g : FilePage K) (owner : Tty) (kind k : Kind) → reference p (in_file g) kind owner ≡ denied k → MayCome (in_file f) kind Denied
    denied_may p f g owner Read k is = tt
    denied_may p f g owner Write k is = written_in_file p g owner k is
    denied_may p f g owner Execute k is = tt

    -- what a reference comes to
    module _ (p : PlainPages file_cmp) (at : Spot F) (kind : Kind) (next : Touched → Turn F C) (so : (what : Touched) → MayCome at kind what → EndsWith (next what))
        (rest : (q : PlainPages file_cmp) (what : Touched) → EndsWith (next what) → ComesSo q (next what)) where
      touched_so : (r : Referred file_cmp) → ((k : Kind) → r ≡ denied k → MayCome at kind Denied) → Good (touched p r (λ q what. turn_on sight q (next what))).end
      touched_so (granted q) may = rest q Granted (so Granted (granted_may at kind))
      touched_so (denied k) may = rest p Denied (so Denied (may k refl))
      touched_so full may = rest p Full (so Full (full_may at kind))

    spot_so : (p : PlainPages file_cmp) (owner : Tty) (at : Spot F) (kind : Kind) (next : Touched → Turn F C) → ((what : Touched) → MayCome at kind what → EndsWith (next what))
        → ((q : PlainPages file_cmp) (what : Touched) → EndsWith (next what) → ComesSo q (next what))
        → Good (touched p (option_map_or (λ s. reference p s kind owner) (spot_of sight at) (denied kind)) (λ q what. turn_on sight q (next what))).end
    spot_so p owner (in_map s) kind next so rest = touched_so p (in_map s) kind next so rest (reference p (in_map s) kind owner) (λ k is. tt)
    spot_so p owner (in_file f) kind next so rest =
        let known = knows f.file in
        let g : FilePage K = record { file = known.0; page = f.page } in
        subst (λ (o : Option K). Good (touched p (option_map_or (λ s. reference p s kind owner) (option_map (λ k. in_file (record { file = k; page = f.page })) o) (denied kind)) (λ q what. turn_on sight q (next what))).end) (sym known.1)
        (touched_so p (in_file f) kind next so rest (reference p (in_file g) kind owner) (denied_may p f g owner kind))

    -- steps of the fork go on, or trap
    stepped_so : (p : PlainPages file_cmp) (f : ForkName) (r : Planned file_cmp ⊥) → PlannedSo r → Refers → (next : Ending → Turn F C) → ((q : PlainPages file_cmp) (e : Ending) → ComesSo q (next e))
        → Good (stepped f r (λ q e. turn_on sight q (next e)) (λ channel. record { end = Trap channel; pages = p })).end
    stepped_so p f (done t e) so may next rest = rest (pages_left f t e) e
    stepped_so p f (stopped (trap channel)) so may next rest = traps_so may channel so
    stepped_so p f (stopped (need none)) so may next rest = absurd none
    stepped_so p f (call number) so may next rest = traps_so may ILLEGAL_INSTRUCTION refl

    -- HOWEVER IT COMES OUT
    pub comes_so : (t : Turn F C) → EndsWith t → (p : PlainPages file_cmp) → ComesSo p t
    unfolding turn_on
    comes_so (sees s next) so p = comes_so (next _) (so _) p
    comes_so (finds at next) so p = comes_so (next _) (so _) p
    comes_so (reads f offset next) so p = comes_so (next _) (so _) p
    comes_so (touches owner at kind next) so p = spot_so p owner at kind next so (λ q what here. comes_so (next what) here q)
    comes_so (takes f regs steps next) so p = stepped_so p f (steps_on f regs steps p) (run_so f steps so.1 (begun p regs.ac)) so.0 next (λ q e. comes_so (next e) (so.2 e) q)
    comes_so (adds f entries next) so p = comes_so (next _) (so _) _
    comes_so (looks name next) so p = comes_so (next _) (so _) p
    comes_so (makes name next) so p = comes_so (next _) (so _) p
    comes_so (ends e) so p = so

  -- what is read in the space of a fork
  pub reading_with : {A : Type 0} → Refers → (f : ForkName) (regs : Regs) (r : Reading A) (next : A → Turn F C) → ReadsSo r → ((a : A) → EndsWith (next a)) → EndsWith (with_reading f regs r next)
  unfolding with_reading
  reading_with may f regs (words steps rest) next reads_so so = (may, reads_so.0, λ e. reading_with may f regs (rest _) next (reads_so.1 _) so)
  reading_with may f regs (read found) next reads_so so = so found

-- ---- ends that a row allows

module _ (row : CallRow) where
  abbrev pub IsEnd : {C : Type 0} → End C → Type 0
  IsEnd e = allows row (answer_by e) ≡ true

  -- an error of a call with one return, and of one with two
  abbrev pub Refuses : ℕ → Type 0
  Refuses code = allows row (refuses code) ≡ true

  abbrev pub Fails : ℕ → Type 0
  Fails code = allows row (fails code) ≡ true

  module _ {F C : Type 0} where
    abbrev pub EndsSo : Turn F C → Type 0
    EndsSo t = EndsWith (row.refers ≡ true) (λ (e : End C). allows row (answer_by e) ≡ true) t

    pub ends_so : {K : Type 0} {file_cmp : K → K → Ordering} (sight : Sight F K) → ((f : F) → (k : K) × (sight.file_of f ≡ Some k)) → (t : Turn F C) → EndsSo t → (p : PlainPages file_cmp) → IsEnd (turn_on sight p t).end
    ends_so sight knows t so p =
        comes_so (row.refers ≡ true) (λ (e : End C). allows row (answer_by e) ≡ true) (λ may channel is. and_from row.refers (is_one_of reference_traps channel) may is) sight knows t so p

    pub given_so : {A : Type 0} (r : Result A ℕ) (next : A → Turn F C) → OnErr Refuses r → ((a : A) → EndsSo (next a)) → EndsSo (given r next)
    given_so (Ok a) next errs so = so a
    given_so (Err code) next errs so = errs

    pub reading_so : {A : Type 0} → row.refers ≡ true → (f : ForkName) (regs : Regs) (r : Reading A) (next : A → Turn F C) → ReadsSo r → ((a : A) → EndsSo (next a)) → EndsSo (with_reading f regs r next)
    reading_so may f regs r next reads_so so = reading_with (row.refers ≡ true) (λ (e : End C). allows row (answer_by e) ≡ true) may f regs r next reads_so so

-- ---- what was named, or an error, after another

pub and_then_so : {A B : Type 0} (Fits : ℕ → Type 0) (r : Result A ℕ) (next : A → Result B ℕ) → OnErr Fits r → ((a : A) → OnErr Fits (next a)) → OnErr Fits (and_then r next)
and_then_so Fits (Ok a) next errs so = so a
and_then_so Fits (Err code) next errs so = errs

-- ---- steps of calls

pub block_so : (n a : ℕ) (kind : Kind) (ws : List ℕ) (regs : Regs) → TrapsSo (block_steps n a kind ws regs)
block_so zero a kind ws regs = tt
block_so (suc n) a kind ws regs = λ w. block_so n (next_address a) kind (ws ++ w ∷ []) regs

within_so : (n : ℕ) (ac : List ℕ) (w : ℕ) (next : ℕ → ℕ → Steps) → ((e last : ℕ) → TrapsSo (next e last)) → TrapsSo (address_within n ac w next)
unfolding address_within
within_so zero ac w next so = refl
within_so (suc n) ac w next so = cond_both (is_indirect w) _ _ TrapsSo (λ indirect v. within_so n ac v next so) (λ direct. so (indexed ac w) (last_taken ac w))

pub address_so : (regs : Regs) (p : ℕ) → TrapsSo (address_steps regs p)
unfolding address
address_so regs p = within_so most_words regs.ac p (λ e last. ends_with regs e) (λ e last. tt)
