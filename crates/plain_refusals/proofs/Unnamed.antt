-- Who names no fork, no inferior or no JFN is refused for that.
use Rattle.std.proofs.Common.{◌≡◌, ℕ, Bool, false, cond, Result, Ok, Err, ◌∙◌, ap, Ordering}
use Rattle.std.specs.Prelude.{◌==◌}
use Rattle.std.specs.Option.{option_map_or}
use Rattle.std.proofs.lemmas.Bool.{ne_eqb}
use Rattle.std.proofs.lemmas.List.Elements.{All-from_recursion}
use Rattle.machine_names.specs.Orders.{same_fork}
use Rattle.plain_files.specs.OpenFiles.{OpenFile}
use Rattle.plain_pages.specs.PlainPages.{PlainPages}
use Rattle.plain_model.specs.declared.call.ByteChange.{ByteChange}
use Rattle.plain_model.specs.declared.call.End.{End}
use Rattle.plain_model.specs.declared.call.End.TheVariants.{Failed}
use Rattle.plain_model.specs.declared.call.FileChange.{FileChange}
use Rattle.plain_model.specs.declared.call.FileChange.TheVariants.{Release}
use Rattle.plain_model.specs.declared.call.TheConstants.{NOT_OPEN, NO_HANDLE, NO_INFERIOR, NO_JFN, TERMINAL_INPUT, TERMINAL_OUTPUT}
use Rattle.plain_model.specs.declared.fork.Fork.{Fork}
use Rattle.plain_model.specs.ByteCalls.{ByteAsked, ByteTurn, by_number, given_or_fails, is_open, jfn_held, jfn_number, jfn_open}
use Rattle.plain_model.specs.Calls.{Asked, Sight, Turn, and_then, given, no_files, turn_on}
use Rattle.plain_model.specs.Families.{asks, asks_bytes, asks_jfns, files_seen, names_seen}
use Rattle.plain_model.specs.FileCalls.{JfnAsked, of_jfn, skipping}
use Rattle.plain_model.specs.ForkCalls.{fork_named, if_inferior, inferior_named, own_named}
use Rattle.plain_model.specs.MapCalls.{is_read, is_written}
use Rattle.plain_model.specs.State.{PlainState}
use Rattle.plain_model.specs.Unit.{parts_of}
use Rattle.plain_laws.specs.JfnLaws.{jfn_named}
use Rattle.plain_refusals.specs.CallAnswers.{Answer, answer_by, answer_of, fails, refuses}
use Rattle.plain_refusals.specs.NamedNone.{AllAnswer, NamesAnother, NamesNoFork, NamesNoInferior, NamesNoJfn, NamesNothing, inferior_numbers, jfn_numbers, own_numbers, transfer_numbers}
use Rattle.plain_refusals.proofs.FileAnswers.{deletes, opens, releases}

-- what was to be named is an error
module _ {F C K : Type 0} {file_cmp : K → K → Ordering} (sight : Sight F K) (p : PlainPages file_cmp) where
  given_err : {A : Type 0} (r : Result A ℕ) (next : A → Turn F C) (code : ℕ) → r ≡ Err code → answer_by (turn_on sight p (given r next)).end ≡ refuses code
  unfolding turn_on
  given_err r next code is = ap (λ x. answer_by (turn_on sight p (given x next)).end) is

-- ---- forks

module _ (s : PlainState) (f : Fork) where
  abbrev asked : Asked
  asked = asks (parts_of s) f.name f.body.regs

  module _ (code : ℕ) where
    -- a call of an inferior, and of the caller or an inferior
    inferior_err : {C : Type 0} → inferior_named asked ≡ Err code → (next : Fork → Turn ⊥ C) → answer_by (turn_on no_files s.pages (given (inferior_named asked) next)).end ≡ refuses code
    inferior_err is next = given_err no_files s.pages (inferior_named asked) next code is

    own_err : {C : Type 0} → own_named asked ≡ Err code → (next : Fork → Turn ⊥ C) → answer_by (turn_on no_files s.pages (given (own_named asked) next)).end ≡ refuses code
    own_err is next = given_err no_files s.pages (own_named asked) next code is

    inferior_all : inferior_named asked ≡ Err code → AllAnswer s f inferior_numbers (refuses code)
    inferior_all is = All-from_recursion (λ number. answer_of s f number ≡ refuses code) inferior_numbers
        (inferior_err is _, (inferior_err is _, (inferior_err is _, (inferior_err is _, (inferior_err is _, (inferior_err is _, (inferior_err is _, (inferior_err is _, tt))))))))

    own_all : own_named asked ≡ Err code → AllAnswer s f own_numbers (refuses code)
    own_all is = All-from_recursion (λ number. answer_of s f number ≡ refuses code) own_numbers
        (own_err is _, (own_err is _, (own_err is _, (own_err is _, (own_err is _, (own_err is _, (own_err is _, (own_err is _, (own_err is _, tt)))))))))

  module _ (none : NamesNoFork s f) where
    no_handle : fork_named asked ≡ Err NO_HANDLE
    no_handle = ap (λ o. option_map_or Ok o (Err NO_HANDLE)) none

    below_none : inferior_named asked ≡ Err NO_HANDLE
    unfolding inferior_named
    below_none = ap (λ r. and_then r (if_inferior asked)) no_handle

    own_none : own_named asked ≡ Err NO_HANDLE
    unfolding own_named
    own_none = ap (λ r. and_then r (λ g. cond (same_fork g.name asked.who) (Ok g) (if_inferior asked g))) no_handle

    pub no_fork : AllAnswer s f inferior_numbers (refuses NO_HANDLE) × AllAnswer s f own_numbers (refuses NO_HANDLE)
    no_fork = (inferior_all NO_HANDLE below_none, own_all NO_HANDLE own_none)

  module _ (g : Fork) (names : NamesNoInferior s f g) where
    found : fork_named asked ≡ Ok g
    found = ap (λ o. option_map_or Ok o (Err NO_HANDLE)) names.names

    above : if_inferior asked g ≡ Err NO_INFERIOR
    above = ap (λ b. cond b (Ok g) (Err NO_INFERIOR)) names.not_below

    pub no_inferior : AllAnswer s f inferior_numbers (refuses NO_INFERIOR)
    unfolding inferior_named
    no_inferior = inferior_all NO_INFERIOR (ap (λ r. and_then r (if_inferior asked)) found ∙ above)

    other_named : same_fork g.name f.name ≡ false → own_named asked ≡ Err NO_INFERIOR
    unfolding own_named
    other_named other =
        ap (λ r. and_then r (λ k. cond (same_fork k.name asked.who) (Ok k) (if_inferior asked k))) found
        ∙ ap (λ b. cond b (Ok g) (if_inferior asked g)) other ∙ above

  pub no_other : (g : Fork) → NamesAnother s f g → AllAnswer s f own_numbers (refuses NO_INFERIOR)
  no_other g names = own_all NO_INFERIOR (other_named g names.names names.other)

  -- ---- JFNs

  abbrev asked_jfns : JfnAsked
  asked_jfns = asks_jfns (parts_of s) f.name f.body.regs

  abbrev asked_bytes : ByteAsked
  asked_bytes = asks_bytes (λ name. name) (parts_of s) f.name f.body.regs

  module _ (none : NamesNoJfn s f) where
    of_jfn_err : (act : ℕ → OpenFile → End FileChange) → answer_by (turn_on (names_seen (parts_of s) f.name) s.pages (of_jfn act asked_jfns)).end ≡ fails NO_JFN
    unfolding turn_on
    of_jfn_err act = ap (λ o. answer_by (option_map_or (act (jfn_named f)) o (Failed NO_JFN))) none

    held_err : jfn_held asked_bytes ≡ Err NO_JFN
    held_err = ap (λ o. option_map_or Ok o (Err NO_JFN)) none

    open_err : (is_so : OpenFile → Bool) → jfn_open is_so asked_bytes ≡ Err NO_JFN
    open_err is_so = ap (λ r. and_then r (λ j. cond (is_so j) (Ok j) (Err NOT_OPEN))) held_err

    fails_err : (r : Result OpenFile ℕ) (next : OpenFile → End ByteChange) → r ≡ Err NO_JFN → answer_by (turn_on (files_seen (λ name. name) (parts_of s) f.name) s.pages (given_or_fails r next)).end ≡ fails NO_JFN
    unfolding turn_on
    fails_err r next is = ap (λ x. answer_by (turn_on (files_seen (λ name. name) (parts_of s) f.name) s.pages (given_or_fails x next)).end) is

    pub no_jfn : AllAnswer s f jfn_numbers (fails NO_JFN)
    no_jfn = All-from_recursion (λ number. answer_of s f number ≡ fails NO_JFN) jfn_numbers (
      of_jfn_err (opens asked_jfns),
      (
        of_jfn_err (λ n j. skipping (Release f.name.tty n) f.body.regs),
        (
          of_jfn_err (releases asked_jfns),
          (
            of_jfn_err (deletes asked_jfns),
            (
              fails_err (jfn_open is_open asked_bytes) _ (open_err is_open),
              (
                fails_err (jfn_held asked_bytes) _ held_err,
                (fails_err (jfn_open is_open asked_bytes) _ (open_err is_open), tt),
              ),
            ),
          ),
        ),
      ),
    )

  module _ (names : NamesNothing s f) where
    abbrev answers : ByteTurn → Answer
    answers t = answer_by (turn_on (files_seen (λ name. name) (parts_of s) f.name) s.pages t).end

    -- a call of a file, where its number is none of the terminal's
    transfer_err : (input output : ByteTurn) (is_so : OpenFile → Bool) (next : OpenFile → ByteTurn) → answers (by_number (jfn_number asked_bytes) input output (given (jfn_open is_so asked_bytes) next)) ≡ refuses NO_JFN
    transfer_err input output is_so next =
        ap (λ b. answers (cond b input (cond (jfn_number asked_bytes == TERMINAL_OUTPUT) output (given (jfn_open is_so asked_bytes) next)))) (ne_eqb (jfn_named f) TERMINAL_INPUT names.input)
        ∙ ap (λ b. answers (cond b output (given (jfn_open is_so asked_bytes) next))) (ne_eqb (jfn_named f) TERMINAL_OUTPUT names.output)
        ∙ given_err (files_seen (λ name. name) (parts_of s) f.name) s.pages (jfn_open is_so asked_bytes) next NO_JFN (open_err names.jfn is_so)

    pub no_transfer : AllAnswer s f transfer_numbers (refuses NO_JFN)
    no_transfer = All-from_recursion (λ number. answer_of s f number ≡ refuses NO_JFN) transfer_numbers
        (transfer_err _ _ is_read _, (transfer_err _ _ is_written _, (transfer_err _ _ is_read _, (transfer_err _ _ is_written _, tt))))
