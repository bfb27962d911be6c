-- Each call is answered as its row has it, and a number that is no call traps.
use Rattle.std.proofs.Common.{◌≡◌, ℕ, ◌||◌, Bool, false, cond, All, List, [], ◌∷◌, ◌++◌, refl, ◌∙◌, ap}
use Rattle.std.specs.Prelude.{◌==◌}
use Rattle.std.specs.List.{list_any}
use Rattle.std.proofs.lemmas.Bool.{or_parts}
use Rattle.std.proofs.lemmas.List.Elements.{All-append}
use Rattle.plain_units.specs.declared.channel.TheConstants.{ILLEGAL_INSTRUCTION}
use Rattle.plain_model.specs.declared.fork.Fork.{Fork}
use Rattle.plain_model.specs.State.{PlainState}
use Rattle.plain_refusals.specs.CallAnswers.{Answers, all_answers, answer_of, first_answer, traps}
use Rattle.plain_refusals.specs.CallTable.{CallRow, byte_rows, call_rows, clock_rows, file_rows, fork_rows, interrupt_rows, is_call, jfn_rows, map_rows, print_rows, string_rows}
use Rattle.plain_refusals.proofs.FileAnswers.{byte_all, jfn_all, string_all}
use Rattle.plain_refusals.proofs.ForkAnswers.{IsAnswered, clock_all, file_all, fork_all, interrupt_all, print_all}
use Rattle.plain_refusals.proofs.MapAnswers.{map_all}

-- the rows behind those of each family
abbrev after_bytes : List CallRow
after_bytes = string_rows

abbrev after_jfns : List CallRow
after_jfns = byte_rows ++ after_bytes

abbrev after_files : List CallRow
after_files = jfn_rows ++ after_jfns

abbrev after_maps : List CallRow
after_maps = file_rows ++ after_files

abbrev after_clock : List CallRow
after_clock = map_rows ++ after_maps

abbrev after_interrupts : List CallRow
after_interrupts = clock_rows ++ after_clock

abbrev after_forks : List CallRow
after_forks = interrupt_rows ++ after_interrupts

abbrev after_print : List CallRow
after_print = fork_rows ++ after_forks

module _ (s : PlainState) (f : Fork) where
  abbrev Fits : CallRow → Type 0
  Fits = IsAnswered s f

  pub all_answered : All (IsAnswered s f) call_rows
  all_answered =
      All-append Fits print_rows after_print (print_all s f)
      (All-append Fits fork_rows after_forks (fork_all s f)
      (All-append Fits interrupt_rows after_interrupts (interrupt_all s f)
      (All-append Fits clock_rows after_clock (clock_all s f)
      (All-append Fits map_rows after_maps (map_all s f)
      (All-append Fits file_rows after_files (file_all s f)
      (All-append Fits jfn_rows after_jfns (jfn_all s f)
      (All-append Fits byte_rows after_bytes (byte_all s f) (string_all s f))))))))

-- what is in none of two lists is in neither
in_neither : {A : Type 0} (p : A → Bool) (xs ys : List A) → list_any p (xs ++ ys) ≡ false → (list_any p xs ≡ false) × (list_any p ys ≡ false)
in_neither p [] ys none = (refl, none)
in_neither p (x ∷ xs) ys none =
    let parts = or_parts (p x) (list_any p (xs ++ ys)) none in
    let rest = in_neither p xs ys parts.1 in
    (ap (λ b. b || list_any p xs) parts.0 ∙ rest.0, rest.1)

module _ (s : PlainState) (f : Fork) (number : ℕ) where
  -- one family after another has no such number
  trap_then : (o : Answers) (os : List Answers) → o.has number ≡ false → first_answer os s f number ≡ traps ILLEGAL_INSTRUCTION → first_answer (o ∷ os) s f number ≡ traps ILLEGAL_INSTRUCTION
  trap_then o os none rest = ap (λ b. cond b (o.answer s f number) (first_answer os s f number)) none ∙ rest

  abbrev HasNone : List Answers → Type 0
  HasNone [] = Unit {0}
  HasNone (o ∷ os) = (o.has number ≡ false) × HasNone os

  none_answers : (os : List Answers) → HasNone os → first_answer os s f number ≡ traps ILLEGAL_INSTRUCTION
  none_answers [] none = refl
  none_answers (o ∷ os) none = trap_then o os none.0 (none_answers os none.1)

  pub others_trap : is_call number ≡ false → answer_of s f number ≡ traps ILLEGAL_INSTRUCTION
  others_trap none =
      let p = λ (row : CallRow). row.number == number in
      let n1 = in_neither p print_rows after_print none in
      let n2 = in_neither p fork_rows after_forks n1.1 in
      let n3 = in_neither p interrupt_rows after_interrupts n2.1 in
      let n4 = in_neither p clock_rows after_clock n3.1 in
      let n5 = in_neither p map_rows after_maps n4.1 in
      let n6 = in_neither p file_rows after_files n5.1 in
      let n7 = in_neither p jfn_rows after_jfns n6.1 in
      let n8 = in_neither p byte_rows after_bytes n7.1 in
      none_answers all_answers (n1.0, (n2.0, (n3.0, (n4.0, (n5.0, (n6.0, (n7.0, (n8.0, (n8.1, tt)))))))))
