-- How the calls on forks, on pseudo-interrupts and on the clock, those that print and those on errors may be answered.
use Rattle.std.proofs.Common.{◌≡◌, ℕ, ◌||◌, Bool, true, false, cond, All, List, [], ◌∷◌, Option, None, Some, Ok, Err, refl}
use Rattle.std.specs.Prelude.{◌==◌, nat_le, nat_lt, replicate}
use Rattle.std.specs.FinMap as map
use Rattle.std.proofs.lemmas.Bool.{cond_both}
use Rattle.std.proofs.lemmas.List.Elements.{All-from_recursion}
use Rattle.word36.specs.Words.{bit, left, right}
use Rattle.machine_names.specs.Orders.{same_fork}
use Rattle.machine_names.specs.declared.names.Kind.{Kind}
use Rattle.machine_names.specs.declared.names.Kind.TheVariants.{Read, Write}
use Rattle.machine_names.specs.declared.names.TheConstants.{ACCUMULATORS, LAST_SERIAL}
use Rattle.plain_units.proofs.Lookups.{looked_up}
use Rattle.plain_units.specs.Deeds.{in_ac}
use Rattle.plain_model.specs.declared.call.End.{End}
use Rattle.plain_model.specs.declared.call.End.TheVariants.{Failed, Trap}
use Rattle.plain_model.specs.declared.call.ForkChange.{ForkChange}
use Rattle.plain_model.specs.declared.call.ForkChange.TheVariants.{Become, Freeze, Halt, Kill, Store}
use Rattle.plain_model.specs.declared.call.InterruptChange.{InterruptChange}
use Rattle.plain_model.specs.declared.call.InterruptChange.TheVariants.{Become as InterruptBecome}
use Rattle.plain_model.specs.declared.call.TheConstants as call
use Rattle.plain_units.specs.declared.channel.TheConstants.{ILLEGAL_INSTRUCTION}
use Rattle.plain_model.specs.declared.fork.Body.{Body}
use Rattle.plain_model.specs.declared.fork.Fork.{Fork}
use Rattle.plain_model.specs.declared.interrupt.TheConstants.{CHANNELS}
use Rattle.plain_model.specs.Calls.{Asked, Turn, ends, given, no_files, returning, turn_on, with_block}
use Rattle.plain_model.specs.ClockCalls.{ClockAsked, disms, runtm, sleep_of, sleeping}
use Rattle.plain_model.specs.Families.{asks, asks_clock}
use Rattle.plain_model.specs.FileCalls.{geter}
use Rattle.plain_model.specs.ForkCalls.{address_named, fork_named, has_ended, if_inferior, inferior_named, making, making_in, of_inferior, own_named, rfacs, sfacs, started_at, stored_low, with_accumulators}
use Rattle.plain_model.specs.Handles.{named}
use Rattle.plain_model.specs.Inferiors.{is_inferior}
use Rattle.plain_model.specs.InterruptCalls.{ati, awake, becoming, debrk, dismissed, dismissed_if, dti, is_bad_code, level_to_end, posting, with_psi, word_stored}
use Rattle.plain_model.specs.Interrupts.{with_channels, without_channels}
use Rattle.plain_model.specs.State.{PlainState}
use Rattle.plain_model.specs.Trees.{free_slot, next_serial}
use Rattle.plain_model.specs.Unit.{parts_of}
use Rattle.plain_refusals.specs.CallAnswers.{answer_of}
use Rattle.plain_refusals.specs.CallTable.{CallRow, allows, clock_rows, file_rows, fork_rows, for_clock, for_fork, interrupt_rows, of_handle, one, print_rows, referring, two, waiting}
use Rattle.plain_refusals.proofs.Ends.{EndsSo, IsEnd, OnErr, Refuses, and_then_so, block_so, ends_so, given_so, reading_so}

-- ---- handles

module _ (Fits : ℕ → Type 0) (a : Asked) (no_handle : Fits call.NO_HANDLE) where
  named_errs : OnErr Fits (fork_named a)
  named_errs = looked_up (OnErr Fits) Ok (Err call.NO_HANDLE) (named a.tree.forks a.who (right (in_ac a.regs 1))) (λ f is. tt) (λ none. no_handle)

  module _ (no_inferior : Fits call.NO_INFERIOR) where
    below_errs : (f : Fork) → OnErr Fits (if_inferior a f)
    below_errs f = cond_both (is_inferior a.tree.forks a.who f.name) _ _ (OnErr Fits) (λ is. tt) (λ no. no_inferior)

    inferior_errs : OnErr Fits (inferior_named a)
    unfolding inferior_named
    inferior_errs = and_then_so Fits (fork_named a) (if_inferior a) named_errs below_errs

    own_errs : OnErr Fits (own_named a)
    unfolding own_named
    own_errs = and_then_so Fits (fork_named a) _ named_errs (λ f. cond_both (same_fork f.name a.who) _ _ (OnErr Fits) (λ own. tt) (λ other. below_errs f))

-- a call that changes an inferior
of_inferior_so : (row : CallRow) (a : Asked) (change : Fork → ForkChange) → Refuses row call.NO_HANDLE → Refuses row call.NO_INFERIOR → EndsSo row (of_inferior change a)
of_inferior_so row a change no_handle no_inferior = given_so row (inferior_named a) _ (inferior_errs (Refuses row) a no_handle no_inferior) (λ f. refl)

becoming_so : (row : CallRow) (a : Asked) (change : Body → Body) → Refuses row call.NO_HANDLE → Refuses row call.NO_INFERIOR → EndsSo row (becoming a change)
becoming_so row a change no_handle no_inferior = given_so row (own_named a) _ (own_errs (Refuses row) a no_handle no_inferior) (λ f. refl)

-- sixteen words
with_block_so : {C : Type 0} (row : CallRow) (a : Asked) (at : ℕ) (kind : Kind) (next : List ℕ → Turn ⊥ C) → row.refers ≡ true → ((words : List ℕ) → EndsSo row (next words)) → EndsSo row (with_block a.who a.regs at kind next)
with_block_so row a at kind next refers so = (refers, block_so ACCUMULATORS at kind [] a.regs, λ e. so e.regs.ac)

-- ---- rows

-- a call is answered as its row has it
abbrev pub IsAnswered : PlainState → Fork → CallRow → Type 0
IsAnswered s f row = allows row (answer_of s f row.number) ≡ true

module _ (s : PlainState) (f : Fork) where
  abbrev asked : Asked
  asked = asks (parts_of s) f.name f.body.regs

  abbrev asked_clock : ClockAsked
  asked_clock = asks_clock (parts_of s) f.name f.body.regs

  -- a turn that knows no file
  of_none : {C : Type 0} (row : CallRow) (t : Turn ⊥ C) → EndsSo row t → IsEnd row (turn_on no_files s.pages t).end
  of_none row t so = ends_so row no_files (λ none. absurd none) t so s.pages

  pub print_all : All (IsAnswered s f) print_rows
  unfolding turn_on
  print_all = All-from_recursion (IsAnswered s f) print_rows
      (refl, tt)

  -- ---- forks

  abbrev CFORK_ROW : CallRow
  CFORK_ROW = referring (two call.CFORK (call.FORKS_FULL ∷ call.SERIALS_OUT ∷ call.NO_ROOM ∷ []))

  words_so : (next : List ℕ → Turn ⊥ ForkChange) → ((words : List ℕ) → EndsSo CFORK_ROW (next words)) → EndsSo CFORK_ROW (with_accumulators asked next)
  words_so next so = cond_both (bit (in_ac f.body.regs 1) 3 == 1) _ _ (EndsSo CFORK_ROW) (λ some. with_block_so CFORK_ROW asked (address_named f.body.regs) Read next refl so) (λ none. so (replicate ACCUMULATORS 0))

  made_so : (slot : ℕ) → EndsSo CFORK_ROW (making_in asked slot)
  made_so slot = cond_both (nat_lt LAST_SERIAL (next_serial asked.tree f.name.tty)) _ _ (EndsSo CFORK_ROW) (λ out. refl) (λ left. λ room. by room)
    where
      by : (room : Bool) → EndsSo CFORK_ROW (cond room (with_accumulators asked (λ words. ends (making asked slot words))) (ends (Failed call.NO_ROOM)))
      by true = words_so (λ words. ends (making asked slot words)) (λ words. refl)
      by false = refl

  cfork_so : IsAnswered s f CFORK_ROW
  cfork_so = of_none CFORK_ROW _ (looked_up (EndsSo CFORK_ROW) (making_in asked) (ends (Failed call.FORKS_FULL)) (free_slot s.forks f.name.tty) (λ slot is. made_so slot) (λ none. refl))

  sfacs_so : IsAnswered s f (referring (one call.SFACS of_handle))
  sfacs_so =
      let row = referring (one call.SFACS of_handle) in
      of_none row (sfacs asked) (given_so row (inferior_named asked) _ (inferior_errs (Refuses row) asked refl refl) (λ g. with_block_so row asked (address_named f.body.regs) Read
      (λ words. ends (returning (Become g.name (record g.body { regs = record g.body.regs { ac = words } })) f.body.regs)) refl (λ words. refl)))

  rfacs_so : IsAnswered s f (referring (one call.RFACS of_handle))
  rfacs_so =
      let row = referring (one call.RFACS of_handle) in
      of_none row (rfacs asked) (given_so row (inferior_named asked) _ (inferior_errs (Refuses row) asked refl refl) (λ g. with_block_so row asked (address_named f.body.regs) Write
      (λ old. ends (returning (Store f.name (address_named f.body.regs) g.body.regs.ac) (record f.body.regs { ac = stored_low f.body.regs.ac (address_named f.body.regs) g.body.regs.ac }))) refl (λ words. refl)))

  wfork_so : IsAnswered s f (waiting for_fork (one call.WFORK of_handle))
  wfork_so =
      let row = waiting for_fork (one call.WFORK of_handle) in
      of_none row _ (given_so row (inferior_named asked) _ (inferior_errs (Refuses row) asked refl refl) (λ g. cond_both (has_ended g.body.status) _ _ (IsEnd row) (λ ended. refl) (λ runs. refl)))

  rfsts_so : IsAnswered s f (one call.RFSTS of_handle)
  rfsts_so = let row = one call.RFSTS of_handle in of_none row _ (given_so row (own_named asked) _ (own_errs (Refuses row) asked refl refl) (λ g. refl))

  halts_so : IsAnswered s f (one call.HALTF [])
  unfolding turn_on
  halts_so = refl

  -- a call that changes an inferior
  changes_inferior : (number : ℕ) (change : Fork → ForkChange) → Refuses (one number of_handle) call.NO_HANDLE → Refuses (one number of_handle) call.NO_INFERIOR → IsEnd (one number of_handle) (turn_on no_files s.pages (of_inferior change asked)).end
  changes_inferior number change no_handle no_inferior = of_none (one number of_handle) (of_inferior change asked) (of_inferior_so (one number of_handle) asked change no_handle no_inferior)

  pub fork_all : All (IsAnswered s f) fork_rows
  fork_all = All-from_recursion (IsAnswered s f) fork_rows (
    cfork_so,
    (
      changes_inferior call.KFORK (λ g. Kill g.name) refl refl,
      (
        changes_inferior call.FFORK (λ g. Freeze g.name true) refl refl,
        (
          changes_inferior call.RFORK (λ g. Freeze g.name false) refl refl,
          (
            rfsts_so,
            (
              changes_inferior call.SFORK (λ g. Become g.name (started_at (address_named f.body.regs) g.body)) refl refl,
              (
                sfacs_so,
                (
                  rfacs_so,
                  (
                    changes_inferior call.HFORK (λ g. Halt g.name) refl refl,
                    (
                      wfork_so,
                      (halts_so, tt),
                    ),
                  ),
                ),
              ),
            ),
          ),
        ),
      ),
    ),
  )

  -- ---- pseudo-interrupts

  -- a call that changes the caller or an inferior
  changes_own : (number : ℕ) (next : Fork → End InterruptChange) → ((g : Fork) → IsEnd (one number of_handle) (next g)) → Refuses (one number of_handle) call.NO_HANDLE → Refuses (one number of_handle) call.NO_INFERIOR
      → IsEnd (one number of_handle) (turn_on no_files s.pages (given (own_named asked) (λ g. ends (next g)))).end
  changes_own number next so no_handle no_inferior = of_none (one number of_handle) _ (given_so (one number of_handle) (own_named asked) (λ g. ends (next g)) (own_errs (Refuses (one number of_handle)) asked no_handle no_inferior) so)

  becomes : (number : ℕ) (change : Body → Body) → Refuses (one number of_handle) call.NO_HANDLE → Refuses (one number of_handle) call.NO_INFERIOR → IsEnd (one number of_handle) (turn_on no_files s.pages (becoming asked change)).end
  becomes number change no_handle no_inferior = changes_own number (λ g. returning (InterruptBecome g.name (change g.body)) f.body.regs) (λ g. refl) no_handle no_inferior

  debrk_so : IsAnswered s f (referring (one call.DEBRK []))
  debrk_so =
      let row = referring (one call.DEBRK []) in
      of_none row (debrk asked)
      (looked_up (EndsSo row) (dismissed_if asked) (ends (Trap ILLEGAL_INSTRUCTION)) (map.get s.forks f.name)
      (λ g is. looked_up (EndsSo row) (λ (at : ℕ × ℕ). dismissed asked g at.0 at.1) (ends (Trap ILLEGAL_INSTRUCTION)) (level_to_end g)
      (λ at there. reading_so row refl f.name f.body.regs (word_stored f.body.regs at.0 at.1) _ (λ w. tt, λ w. (λ v. tt, λ v. tt)) (λ w. refl)) (λ none. refl)) (λ none. refl))

  ati_so : IsAnswered s f (one call.ATI (call.BAD_CODE ∷ []))
  ati_so =
      let row = one call.ATI (call.BAD_CODE ∷ []) in
      of_none row (ati asked) (cond_both (is_bad_code (left (in_ac f.body.regs 1)) || nat_le CHANNELS (right (in_ac f.body.regs 1))) _ _ (λ r. EndsSo row {F = ⊥} (given r (λ change. ends (returning change f.body.regs)))) (λ bad. refl) (λ good. refl))

  dti_so : IsAnswered s f (one call.DTI (call.BAD_CODE ∷ []))
  dti_so =
      let row = one call.DTI (call.BAD_CODE ∷ []) in
      of_none row (dti asked) (cond_both (is_bad_code (in_ac f.body.regs 1)) _ _ (λ r. EndsSo row {F = ⊥} (given r (λ change. ends (returning change f.body.regs)))) (λ bad. refl) (λ good. refl))

  pub interrupt_all : All (IsAnswered s f) interrupt_rows
  interrupt_all = All-from_recursion (IsAnswered s f) interrupt_rows (
    becomes call.SIR (λ body. with_psi body (record body.psi { table = Some (in_ac f.body.regs 2) })) refl refl,
    (
      becomes call.EIR (λ body. awake (with_psi body (record body.psi { on = true }))) refl refl,
      (
        becomes call.DIR (λ body. with_psi body (record body.psi { on = false })) refl refl,
        (
          becomes call.AIC (λ body. awake (with_psi body (record body.psi { active = with_channels body.psi.active (in_ac f.body.regs 2) }))) refl refl,
          (
            changes_own call.IIC (λ g. returning (posting asked g) f.body.regs) (λ g. refl) refl refl,
            (
              becomes call.DIC (λ body. with_psi body (record body.psi { active = without_channels body.psi.active (in_ac f.body.regs 2); pending = without_channels body.psi.pending (in_ac f.body.regs 2) })) refl refl,
              (
                debrk_so,
                (
                  ati_so,
                  (dti_so, tt),
                ),
              ),
            ),
          ),
        ),
      ),
    ),
  )

  -- ---- the clock

  time_so : IsAnswered s f (one call.TIME [])
  unfolding turn_on
  time_so = refl

  runtm_so : IsAnswered s f (one call.RUNTM of_handle)
  runtm_so = let row = one call.RUNTM of_handle in of_none row (runtm asked_clock) (given_so row (own_named asked) _ (own_errs (Refuses row) asked refl refl) (λ g. refl))

  disms_so : IsAnswered s f (waiting for_clock (one call.DISMS []))
  disms_so = let row = waiting for_clock (one call.DISMS []) in of_none row (disms asked_clock) (cond_both (in_ac f.body.regs 1 == 0) _ _ (EndsSo row) (λ none. refl) (λ some. by (sleep_of asked)))
    where
      by : (o : Option ℕ) → IsEnd (waiting for_clock (one call.DISMS [])) (sleeping asked_clock o)
      by None = refl
      by (Some moment) = cond_both (nat_le moment s.clock) _ _ (IsEnd (waiting for_clock (one call.DISMS []))) (λ over. refl) (λ sleeps. refl)

  pub clock_all : All (IsAnswered s f) clock_rows
  clock_all = All-from_recursion (IsAnswered s f) clock_rows (
    time_so,
    (
      runtm_so,
      (disms_so, tt),
    ),
  )

  -- ---- errors

  geter_so : IsAnswered s f (one call.GETER of_handle)
  geter_so = let row = one call.GETER of_handle in of_none row (geter asked) (given_so row (own_named asked) _ (own_errs (Refuses row) asked refl refl) (λ g. refl))

  pub file_all : All (IsAnswered s f) file_rows
  file_all = All-from_recursion (IsAnswered s f) file_rows
      (geter_so, tt)
