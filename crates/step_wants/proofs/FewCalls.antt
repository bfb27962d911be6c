-- The turn of each call refers to few pages beside the maps of its caller's terminal.
use Rattle.std.proofs.Common.{◌≡◌, ℕ, zero, suc, ◌+◌, ◌≤◌, List, [], ◌∷◌, ◌++◌, Bool, true, false, cond, Option, None, Some, Result, Ok, Err, refl, arith}
use Rattle.std.specs.Prelude.{◌==◌, ◌&&◌, ◌||◌, nat_lt, nat_le}
use Rattle.std.specs.Option.{option_and_then, option_map_or}
use Rattle.std.specs.FinMap as map
use Rattle.word36.specs.Bytes.{incremented, loaded}
use Rattle.word36.specs.Words.{bit, left, right}
use Rattle.machine_names.specs.FileNames.{file_named}
use Rattle.machine_names.specs.declared.names.ForkName.{ForkName}
use Rattle.machine_names.specs.declared.names.Kind.{Kind}
use Rattle.machine_names.specs.declared.names.Kind.TheVariants.{Read}
use Rattle.machine_names.specs.declared.names.Tty.{Tty}
use Rattle.plain_files.specs.Bytes.{most_bytes}
use Rattle.plain_files.specs.OpenFiles.{OpenFile, free_jfn}
use Rattle.plain_units.specs.declared.channel.TheConstants.{ILLEGAL_INSTRUCTION}
use Rattle.plain_units.specs.declared.registers.Regs.{Regs}
use Rattle.plain_units.specs.Addressing.{address, address_within, indexed, is_indirect, last_taken, most_words}
use Rattle.plain_units.specs.Blocks.{block_steps, next_address}
use Rattle.plain_units.specs.Deeds.{in_ac}
use Rattle.plain_units.specs.Steps.{Steps, refers}
use Rattle.plain_model.specs.declared.call.TheConstants.{BAD_CODE, BAD_NAME, TERMINAL_INPUT, TERMINAL_OUTPUT}
use Rattle.plain_model.specs.declared.call.End.{End}
use Rattle.plain_model.specs.declared.interrupt.TheConstants.{CHANNELS}
use Rattle.plain_model.specs.declared.call.End.TheVariants as end
use Rattle.plain_model.specs.declared.call.ByteChange.{ByteChange}
use Rattle.plain_model.specs.declared.call.ByteChange.TheVariants as on_bytes
use Rattle.plain_model.specs.declared.call.FileChange.{FileChange}
use Rattle.plain_model.specs.declared.call.InterruptChange.{InterruptChange}
use Rattle.plain_model.specs.declared.call.InterruptChange.TheVariants.{Assign, Become, Unassign}
use Rattle.plain_model.specs.declared.call.SleepChange.{SleepChange}
use Rattle.plain_model.specs.declared.call.SleepChange.TheVariants as sleeps
use Rattle.plain_model.specs.declared.fork.Fork.{Fork}
use Rattle.plain_model.specs.ByteCalls as byte
use Rattle.plain_model.specs.Calls.{Asked, Turn, ends, given, returning, numbered}
use Rattle.plain_model.specs.ClockCalls.{ClockAsked, clock_calls, disms, sleep_of, sleeping}
use Rattle.plain_model.specs.MapCalls.{is_read, is_written}
use Rattle.plain_model.specs.FileCalls.{JfnAsked, found_or_made, made_for, jfn_calls, file_calls, taking, gtjfn}
use Rattle.plain_model.specs.Families.{print_calls}
use Rattle.plain_model.specs.ForkCalls.{own_named}
use Rattle.plain_model.specs.InterruptCalls.{ati, debrk, dismissed, dismissed_if, dti, is_bad_code, interrupt_calls, level_to_end, restored, without_level, word_stored}
use Rattle.plain_model.specs.PointedTexts.{address_steps, byte_at, bytes_from, full_pointer, pointing_to, text_at}
use Rattle.plain_model.specs.Readings.{Reading, read, with_reading, word_steps}
use Rattle.plain_model.specs.StringCalls as text
use Rattle.step_wants.proofs.Bounded.{ReadsAtMost, StepsAtMost, TurnAtMost, reading_at_most}

-- whichever a test chooses
pub chosen : {A : Type 0} (P : A → Type 0) (b : Bool) (x y : A) → P x → P y → P (cond b x y)
chosen P true x y p q = p
chosen P false x y p q = q

-- ---- steps

within_at_most : (n : ℕ) (ac : List ℕ) (w : ℕ) (next : ℕ → ℕ → Steps) → ((m e last : ℕ) → StepsAtMost m (next e last)) → StepsAtMost n (address_within n ac w next)
unfolding address_within
within_at_most zero ac w next each = tt
within_at_most (suc n) ac w next each = by (is_indirect w) (λ v. within_at_most n ac v next each)
  where
    by : (b : Bool) → ((v : ℕ) → StepsAtMost n (address_within n ac v next)) → StepsAtMost (suc n) (cond b (refers (indexed ac w) Read (λ v. address_within n ac v next)) (next (indexed ac w) (last_taken ac w)))
    by true rest = rest
    by false rest = each (suc n) (indexed ac w) (last_taken ac w)

pub address_at_most : (regs : Regs) (p : ℕ) → StepsAtMost 17 (address_steps regs p)
unfolding address
address_at_most regs p = within_at_most most_words regs.ac p _ (λ m e last. tt)

pub word_at_most : (regs : Regs) (a : ℕ) → StepsAtMost 1 (word_steps regs a)
word_at_most regs a = λ w. tt

pub block_at_most : (n a : ℕ) (kind : Kind) (got : List ℕ) (regs : Regs) → StepsAtMost n (block_steps n a kind got regs)
block_at_most zero a kind got regs = tt
block_at_most (suc n) a kind got regs = λ w. block_at_most n (next_address a) kind _ regs

-- ---- readings

bytes_at_most : (n : ℕ) (regs : Regs) (p : ℕ) (got : List ℕ) → ReadsAtMost n (bytes_from n regs p got)
unfolding bytes_from
bytes_at_most zero regs p got = tt
bytes_at_most (suc n) regs p got = (1, n, omega arith, word_at_most regs (right p), λ w. let c = loaded p w in chosen (ReadsAtMost n) (c == 0) (read (Some got)) (bytes_from n regs (incremented p) (got ++ c ∷ [])) tt (bytes_at_most n regs (incremented p) (got ++ c ∷ [])))

pub text_at_most : (regs : Regs) (p : ℕ) → ReadsAtMost 57 (text_at regs p)
text_at_most regs p = let first = incremented (full_pointer p) in (17, 40, omega arith, address_at_most regs first, λ e. bytes_at_most 40 regs (pointing_to first e) [])

byte_at_most : (regs : Regs) (p : ℕ) → ReadsAtMost 18 (byte_at regs p)
byte_at_most regs p = (17, 1, omega arith, address_at_most regs p, λ e. (1, 0, omega arith, word_at_most regs e, λ w. tt))

-- ---- turns whose ends refer to nothing

-- an end that refers to nothing
abbrev pub NoneMore : {C : Type 0} → ℕ → End C → Type 0
NoneMore n e = Unit {0}

module _ (t : Tty) {F C : Type 0} where
  abbrev Few : ℕ → Turn F C → Type 0
  Few n turn = TurnAtMost t NoneMore n turn

  pub reading_few : {A : Type 0} (f : ForkName) (regs : Regs) (next : A → Turn F C) → f.tty ≡ t → (n k : ℕ) → ((x : A) (m : ℕ) → n ≤ m → Few m (next x)) → (r : Reading A) → ReadsAtMost k r → Few (n + k) (with_reading f regs r next)
  reading_few f regs next same n k each r low = reading_at_most t NoneMore f regs next n same each k r low

  given_few : {A : Type 0} (n : ℕ) (r : Result A ℕ) (next : A → Turn F C) → ((x : A) → Few n (next x)) → Few n (given r next)
  given_few n (Ok x) next each = each x
  given_few n (Err code) next each = tt

  option_few : {A : Type 0} (n : ℕ) (o : Option A) (next : A → Turn F C) (other : Turn F C) → ((x : A) → Few n (next x)) → Few n other → Few n (option_map_or next o other)
  option_few n None next other each none = none
  option_few n (Some x) next other each none = each x

  by_number_few : (n number : ℕ) (input output file : Turn F C) → Few n input → Few n output → Few n file → Few n (byte.by_number number input output file)
  by_number_few n number input output file x y z = chosen (Few n) (number == TERMINAL_INPUT) input (cond (number == TERMINAL_OUTPUT) output file) x (chosen (Few n) (number == TERMINAL_OUTPUT) output file y z)

  -- the turns of calls with their numbers
  abbrev pub AllFew : {A : Type 0} → ℕ → List (ℕ × (A → Turn F C)) → A → Type 0
  AllFew n [] a = Unit {0}
  AllFew n (row ∷ rows) a = Few n (row.1 a) × AllFew n rows a

  pub numbered_few : {A : Type 0} (n : ℕ) (rows : List (ℕ × (A → Turn F C))) (number : ℕ) (a : A) → AllFew n rows a → Few n (numbered rows number a)
  numbered_few n [] number a all = tt
  numbered_few n (row ∷ rows) number a all = chosen (Few n) (row.0 == number) (row.1 a) (numbered rows number a) all.0 (numbered_few n rows number a all.1)

-- ---- strings

module _ (a : byte.ByteAsked) where
  abbrev FewBytes : ℕ → byte.ByteTurn → Type 0
  FewBytes n turn = TurnAtMost a.who.tty NoneMore n turn

  takes_next_few : (n : ℕ) (change : ByteChange) (c : ℕ) → 19 ≤ n → FewBytes n (text.takes_next a change c)
  takes_next_few n change c le = (17, 2, omega (arith, le), refl, address_at_most a.regs (text.next_pointer (in_ac a.regs 2)), λ e. (2, 0, omega arith, refl, (λ w. tt), λ f. tt))

  character_few : (input : List ℕ) → FewBytes 57 (text.takes_character a input)
  character_few [] = tt
  character_few (c ∷ cs) = takes_next_few 57 (on_bytes.Take a.who.tty) c (omega arith)

  from_few : (j : OpenFile) → FewBytes 57 (text.takes_from a j)
  from_few j = chosen (FewBytes 57) (nat_le (byte.end_for a j) j.at) _ _ tt
      (50, omega arith, λ w. takes_next_few 50 (on_bytes.Move a.who.tty (byte.jfn_number a) (j.at + 1)) (loaded (byte.byte_pointer j) w) (omega arith))

  sin_few : FewBytes 57 (text.sin a)
  sin_few = by_number_few a.who.tty 57 (byte.jfn_number a) _ _ _ (character_few a.input) tt (given_few a.who.tty 57 (byte.jfn_open is_read a) (text.takes_from a) from_few)

  next_few : (next : ℕ → ℕ → byte.ByteTurn) (n : ℕ) → n + 18 ≤ 57 → ((p c m : ℕ) → n ≤ m → FewBytes m (next p c)) → FewBytes (n + 18) (text.with_next a next)
  next_few next n le each = let p = text.next_pointer (in_ac a.regs 2) in reading_few a.who.tty a.who a.regs (next p) refl n 18 (λ x m more. each p x m more) (byte_at a.regs p) (byte_at_most a.regs p)

  sout_few : FewBytes 57 (text.sout a)
  sout_few = by_number_few a.who.tty 57 (byte.jfn_number a) _ _ _ tt
      (next_few (text.prints_byte a) 39 (omega arith) (λ p c m le. chosen (FewBytes m) ((in_ac a.regs 3 == 0) && (c == 0)) _ _ tt tt))
      (given_few a.who.tty 57 (byte.jfn_open is_written a) _ (λ j. chosen (FewBytes 57) (nat_lt j.at (most_bytes j.size)) _ _
      (next_few (text.puts_byte a j) 39 (omega arith) (λ p c m le. chosen (FewBytes m) ((in_ac a.regs 3 == 0) && (c == 0)) _ _ tt (0, omega (arith, le), λ what. tt))) tt))

  prints_so : (m p c : ℕ) → FewBytes m (ends (text.prints_next a p c))
  prints_so m p c = tt

  pub strings_few : (number : ℕ) → FewBytes 57 (text.string_call number a)
  strings_few number = numbered_few a.who.tty 57 text.string_calls number a
      (sin_few, (sout_few, (let p = text.next_pointer (in_ac a.regs 1) in reading_few a.who.tty a.who a.regs (λ c. ends (text.prints_next a p c)) refl 39 18 (λ x m le. prints_so m p x) (byte_at a.regs p) (byte_at_most a.regs p), tt)))

  -- ---- bytes

  fails_few : {A : Type 0} (r : Result A ℕ) (next : A → End ByteChange) → FewBytes 57 (byte.given_or_fails r next)
  fails_few (Ok x) next = tt
  fails_few (Err code) next = tt

  bin_few : FewBytes 57 (byte.bin a)
  bin_few = by_number_few a.who.tty 57 (byte.jfn_number a) _ _ _ tt tt (given_few a.who.tty 57 (byte.jfn_open is_read a) (byte.next_byte a) (λ j. chosen (FewBytes 57) (nat_le (byte.end_for a j) j.at) _ _ tt (0, omega arith, λ w. tt)))

  bout_few : FewBytes 57 (byte.bout a)
  bout_few = by_number_few a.who.tty 57 (byte.jfn_number a) _ _ _ tt tt (given_few a.who.tty 57 (byte.jfn_open is_written a) (byte.put_byte a) (λ j. chosen (FewBytes 57) (nat_lt j.at (most_bytes j.size)) _ _ (0, omega arith, λ what. tt) tt))

  pub bytes_few : (number : ℕ) → FewBytes 57 (byte.byte_call number a)
  bytes_few number = numbered_few a.who.tty 57 byte.byte_calls number a (fails_few (byte.jfn_open byte.is_open a) _, (fails_few (byte.jfn_held a) _, (fails_few (byte.jfn_open byte.is_open a) _, (bin_few, (bout_few, (tt, tt))))))

-- ---- JFNs, errors, the clock and what is printed

module _ (a : JfnAsked) where
  abbrev FewFiles : ℕ → Turn ⊥ FileChange → Type 0
  FewFiles n turn = TurnAtMost a.who.tty NoneMore n turn

  made_so : (n jfn : ℕ) (name : List ℕ) (room : Bool) → FewFiles n (ends (made_for a jfn name room))
  made_so n jfn name room = tt

  made_few : (n jfn : ℕ) (name : List ℕ) (there : Bool) → FewFiles n (found_or_made a jfn name there)
  made_few n jfn name there = chosen (FewFiles n) there _ _ tt (chosen (FewFiles n) (bit (in_ac a.regs 1) 0 == 1) _ _ (λ b. made_so n jfn name b) tt)

  taking_few : (n : ℕ) (name : List ℕ) → FewFiles n (taking a name)
  taking_few n name = λ there. option_few a.who.tty n (free_jfn a.held) _ _ (λ jfn. made_few n jfn name there) tt

  pub gtjfn_few : FewFiles 57 (gtjfn a)
  gtjfn_few = reading_few a.who.tty a.who a.regs (λ text. option_map_or (taking a) (option_and_then (file_named a.user []) text) (ends (end.Failed BAD_NAME))) refl 0 57 (λ text m le. option_few a.who.tty m (option_and_then (file_named a.user []) text) (taking a) (ends (end.Failed BAD_NAME)) (λ name. taking_few m name) tt) (text_at a.regs (in_ac a.regs 2)) (text_at_most a.regs (in_ac a.regs 2))

  pub jfns_few : (number : ℕ) → FewFiles 57 (numbered jfn_calls number a)
  jfns_few number = numbered_few a.who.tty 57 jfn_calls number a (gtjfn_few, (tt, (tt, (tt, (tt, tt)))))

module _ (a : Asked) where
  pub errors_few : (number : ℕ) → TurnAtMost a.who.tty NoneMore 57 (numbered file_calls number a)
  errors_few number = numbered_few a.who.tty 57 file_calls number a (given_few a.who.tty 57 (own_named a) _ (λ f. tt), tt)

  -- ---- interrupts

  abbrev FewInterrupts : ℕ → Turn ⊥ InterruptChange → Type 0
  FewInterrupts n turn = TurnAtMost a.who.tty NoneMore n turn

  dismissed_few : (f : Fork) (table level : ℕ) → FewInterrupts 57 (dismissed a f table level)
  dismissed_few f table level =
      reading_few a.who.tty a.who a.regs (λ w. ends (end.Done (Become f.name (without_level f.body level)) (restored a.regs w) None None)) refl 55 2 (λ x m le. tt) (word_stored a.regs table level) (1, 1, omega arith, (λ v. tt), λ w. (1, 0, omega arith, (λ v. tt), λ v. tt))

  debrk_few : FewInterrupts 57 (debrk a)
  debrk_few = option_few a.who.tty 57 (map.get a.tree.forks a.who) (dismissed_if a) (ends (end.Trap ILLEGAL_INSTRUCTION)) (λ f. option_few a.who.tty 57 (level_to_end f) _ _ (λ at. dismissed_few f at.0 at.1) tt) tt

  owns_few : (next : Fork → Turn ⊥ InterruptChange) → ((f : Fork) → FewInterrupts 57 (next f)) → FewInterrupts 57 (given (own_named a) next)
  owns_few next each = given_few a.who.tty 57 (own_named a) next each

  ati_few : FewInterrupts 57 (ati a)
  ati_few = let code = left (in_ac a.regs 1) in let channel = right (in_ac a.regs 1) in
      given_few a.who.tty 57 (cond (is_bad_code code || nat_le CHANNELS channel) (Err BAD_CODE) (Ok (Assign code a.who channel))) (λ change. ends (returning change a.regs)) (λ change. tt)

  dti_few : FewInterrupts 57 (dti a)
  dti_few = given_few a.who.tty 57 (cond (is_bad_code (in_ac a.regs 1)) (Err BAD_CODE) (Ok (Unassign a.who.tty (in_ac a.regs 1)))) (λ change. ends (returning change a.regs)) (λ change. tt)

  pub interrupts_few : (number : ℕ) → FewInterrupts 57 (numbered interrupt_calls number a)
  interrupts_few number = numbered_few a.who.tty 57 interrupt_calls number a
      (owns_few _ (λ f. tt), (owns_few _ (λ f. tt), (owns_few _ (λ f. tt), (owns_few _ (λ f. tt), (owns_few _ (λ f. tt), (owns_few _ (λ f. tt), (debrk_few, (ati_few, (dti_few, tt)))))))))

module _ (t : Tty) where
  abbrev FewSleeps : ℕ → Turn ⊥ SleepChange → Type 0
  FewSleeps n turn = TurnAtMost t NoneMore n turn

  disms_few : (a : ClockAsked) → FewSleeps 57 (disms a)
  disms_few a = chosen (FewSleeps 57) (in_ac a.call.regs 1 == 0) (ends (returning sleeps.Nothing a.call.regs)) (ends (sleeping a (sleep_of a.call))) tt tt

  pub clock_few : (a : ClockAsked) (number : ℕ) → FewSleeps 57 (numbered clock_calls number a)
  clock_few a number = numbered_few t 57 clock_calls number a (tt, (given_few t 57 (own_named a.call) _ (λ f. tt), (disms_few a, tt)))

  pub prints_few : (regs : Regs) (number : ℕ) → TurnAtMost t NoneMore 57 (numbered print_calls number regs)
  prints_few regs number = numbered_few t 57 print_calls number regs (tt, tt)
