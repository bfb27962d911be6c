-- How the calls on JFNs, on bytes and on strings may be answered.
use Rattle.std.proofs.Common.{ℕ, zero, suc, ◌+◌, ◌||◌, ◌&&◌, Bool, true, false, cond, All, List, [], ◌∷◌, ◌++◌, None, Result, Ok, Err, refl}
use Rattle.std.specs.Prelude.{◌==◌, if◌then◌else◌, is_some, nat_le, nat_lt}
use Rattle.std.specs.Option.{option_and_then}
use Rattle.std.specs.FinMap as map
use Rattle.std.proofs.lemmas.Bool.{cond_both}
use Rattle.std.proofs.lemmas.List.Elements.{All-from_recursion}
use Rattle.word36.specs.Bytes.{incremented, loaded}
use Rattle.word36.specs.Words.{bit, right}
use Rattle.machine_names.specs.declared.names.Kind.TheVariants.{Write}
use Rattle.machine_names.specs.FileNames.{file_named}
use Rattle.plain_files.specs.declared.jfn.Mode.{Mode}
use Rattle.plain_files.specs.declared.bounds.TheConstants.{LARGEST_BYTE}
use Rattle.plain_files.specs.Bytes.{most_bytes}
use Rattle.plain_files.specs.OpenFiles.{OpenFile, free_jfn}
use Rattle.plain_units.proofs.Lookups.{looked_up}
use Rattle.plain_units.specs.declared.registers.Regs.{Regs}
use Rattle.plain_units.specs.Deeds.{in_ac}
use Rattle.plain_model.specs.declared.call.ByteChange.{ByteChange}
use Rattle.plain_model.specs.declared.call.ByteChange.TheVariants.{Put, Take, Move}
use Rattle.plain_model.specs.declared.call.End.{End}
use Rattle.plain_model.specs.declared.call.End.TheVariants.{Done, Failed}
use Rattle.plain_model.specs.declared.call.FileChange.{FileChange}
use Rattle.plain_model.specs.declared.call.FileChange.TheVariants.{Delete, Open, Release}
use Rattle.plain_model.specs.declared.call.TheConstants as call
use Rattle.plain_model.specs.declared.call.Touched.{Touched}
use Rattle.plain_model.specs.declared.call.Touched.TheVariants.{Granted, Denied, Full}
use Rattle.plain_model.specs.declared.fork.Fork.{Fork}
use Rattle.plain_model.specs.declared.text.TheConstants.{MOST_BYTES}
use Rattle.plain_model.specs.ByteCalls.{ByteAsked, ByteTurn, by_number, bin, bout, byte_page, byte_pointer, end_for, given_or_fails, if_written, is_open, jfn_held, jfn_number, jfn_open, next_byte, next_character, pbin, position_in, put_byte, rfptr, sfptr, sizef}
use Rattle.plain_model.specs.Calls.{Turn, ends, returning, turn_on}
use Rattle.plain_model.specs.Families.{asks_bytes, asks_jfns, files_seen, names_seen}
use Rattle.plain_model.specs.FileCalls.{JfnAsked, closf, delf, found_or_made, gtjfn, made_for, mode_in, of_jfn, openf, rljfn, size_in, skipping, taking}
use Rattle.plain_model.specs.MapCalls.{file_spot, is_read, is_written}
use Rattle.plain_model.specs.PointedTexts.{byte_at, bytes_from, full_pointer, pointing_to, text_at}
use Rattle.plain_model.specs.State.{PlainState}
use Rattle.plain_model.specs.StringCalls.{behind_byte, if_written_too, next_pointer, psout, puts_byte, sin, sout, takes_character, takes_from, takes_next, with_next, prints_byte}
use Rattle.plain_model.specs.Unit.{parts_of}
use Rattle.plain_refusals.specs.CallTable.{CallRow, byte_rows, for_input, jfn_rows, of_open_jfn, one, referring, string_rows, two, waiting}
use Rattle.plain_refusals.proofs.Ends.{EndsSo, Fails, IsEnd, MayCome, OnErr, ReadsSo, Refuses, address_so, and_then_so, ends_so, given_so, reading_so}
use Rattle.plain_refusals.proofs.ForkAnswers.{IsAnswered}

-- ---- what is read

bytes_so : (n : ℕ) (regs : Regs) (p : ℕ) (text : List ℕ) → ReadsSo (bytes_from n regs p text)
unfolding bytes_from
bytes_so zero regs p text = tt
bytes_so (suc n) regs p text = (λ w. tt, λ w. cond_both (loaded p w == 0) _ _ ReadsSo (λ ends. tt) (λ more. bytes_so n regs (incremented p) (text ++ loaded p w ∷ [])))

text_so : (regs : Regs) (p : ℕ) → ReadsSo (text_at regs p)
text_so regs p = (address_so regs (incremented (full_pointer p)), λ e. bytes_so MOST_BYTES regs (pointing_to (incremented (full_pointer p)) e) [])

pub byte_so : (regs : Regs) (p : ℕ) → ReadsSo (byte_at regs p)
byte_so regs p = (address_so regs p, λ e. (λ w. tt, λ w. tt))

-- ---- JFNs

abbrev GTJFN_ROW : CallRow
GTJFN_ROW = referring (two call.GTJFN (call.BAD_NAME ∷ call.JFNS_FULL ∷ call.NO_FILE ∷ call.FILES_FULL ∷ []))

module _ (a : JfnAsked) where
  made_so : (n : ℕ) (name : List ℕ) (room : Bool) → IsEnd GTJFN_ROW (made_for a n name room)
  made_so n name true = refl
  made_so n name false = refl

  found_so : (n : ℕ) (name : List ℕ) (there : Bool) → EndsSo GTJFN_ROW (found_or_made a n name there)
  found_so n name true = refl
  found_so n name false = cond_both (bit (in_ac a.regs 1) 0 == 1) _ _ (EndsSo GTJFN_ROW) (λ wants room. made_so n name room) (λ none. refl)

  taking_so : (name : List ℕ) → EndsSo GTJFN_ROW (taking a name)
  taking_so name = λ there. looked_up (EndsSo GTJFN_ROW) (λ n. found_or_made a n name there) (ends (Failed call.JFNS_FULL)) (free_jfn a.held) (λ n is. found_so n name there) (λ none. refl)

  gtjfn_so : EndsSo GTJFN_ROW (gtjfn a)
  gtjfn_so = reading_so GTJFN_ROW refl a.who a.regs (text_at a.regs (in_ac a.regs 2)) _ (text_so a.regs (in_ac a.regs 2)) (λ text.
      looked_up (EndsSo GTJFN_ROW) (taking a) (ends (Failed call.BAD_NAME)) (option_and_then (file_named a.user []) text) (λ name is. taking_so name) (λ none. refl))

  -- a call of a JFN
  of_jfn_so : (row : CallRow) (act : ℕ → OpenFile → End FileChange) → Fails row call.NO_JFN → ((n : ℕ) (j : OpenFile) → IsEnd row (act n j)) → EndsSo row (of_jfn act a)
  of_jfn_so row act none so = let n = right (in_ac a.regs 1) in looked_up (IsEnd row) (act n) (Failed call.NO_JFN) (map.get a.held n) (λ j is. so n j) (λ no. none)

abbrev OPENF_ROW : CallRow
OPENF_ROW = two call.OPENF (call.NO_JFN ∷ call.JFN_OPEN ∷ call.BAD_SIZE ∷ call.NOT_OPEN ∷ [])

abbrev CLOSF_ROW : CallRow
CLOSF_ROW = two call.CLOSF (call.NO_JFN ∷ [])

abbrev RLJFN_ROW : CallRow
RLJFN_ROW = two call.RLJFN (call.NO_JFN ∷ call.JFN_OPEN ∷ [])

abbrev DELF_ROW : CallRow
DELF_ROW = two call.DELF (call.NO_JFN ∷ call.FILE_IN_USE ∷ [])

module _ (a : JfnAsked) where
  -- what each does with a JFN that is held
  abbrev pub opens : ℕ → OpenFile → End FileChange
  opens n j =
      let w = in_ac a.regs 2 in let mode = mode_in w in
      if is_some j.mode then Failed call.JFN_OPEN
      else (if nat_lt LARGEST_BYTE (size_in w) then Failed call.BAD_SIZE
      else (if mode.r || mode.w then skipping (Open a.who.tty n mode (size_in w)) a.regs else Failed call.NOT_OPEN))

  abbrev pub releases : ℕ → OpenFile → End FileChange
  releases n j = if is_some j.mode then Failed call.JFN_OPEN else skipping (Release a.who.tty n) a.regs

  abbrev pub deletes : ℕ → OpenFile → End FileChange
  deletes n j = if nat_lt 1 (a.times j.file) then Failed call.FILE_IN_USE else skipping (Delete a.who.tty n) a.regs

  open_end : (n : ℕ) (mode : Mode) (size : ℕ) (is_open large some : Bool)
      → IsEnd OPENF_ROW {C = FileChange} (cond is_open (Failed call.JFN_OPEN) (cond large (Failed call.BAD_SIZE) (cond some (skipping (Open a.who.tty n mode size) a.regs) (Failed call.NOT_OPEN))))
  open_end n mode size true large some = refl
  open_end n mode size false true some = refl
  open_end n mode size false false true = refl
  open_end n mode size false false false = refl

  openf_so : EndsSo OPENF_ROW (openf a)
  openf_so = of_jfn_so a OPENF_ROW opens refl
      (λ n j. let mode = mode_in (in_ac a.regs 2) in let size = size_in (in_ac a.regs 2) in open_end n mode size (is_some j.mode) (nat_lt LARGEST_BYTE size) (mode.r || mode.w))

  closf_so : EndsSo CLOSF_ROW (closf a)
  closf_so = of_jfn_so a CLOSF_ROW (λ n j. skipping (Release a.who.tty n) a.regs) refl (λ n j. refl)

  release_end : (n : ℕ) (is_open : Bool) → IsEnd RLJFN_ROW {C = FileChange} (cond is_open (Failed call.JFN_OPEN) (skipping (Release a.who.tty n) a.regs))
  release_end n true = refl
  release_end n false = refl

  rljfn_so : EndsSo RLJFN_ROW (rljfn a)
  rljfn_so = of_jfn_so a RLJFN_ROW releases refl (λ n j. release_end n (is_some j.mode))

  delete_end : (n : ℕ) (used : Bool) → IsEnd DELF_ROW {C = FileChange} (cond used (Failed call.FILE_IN_USE) (skipping (Delete a.who.tty n) a.regs))
  delete_end n true = refl
  delete_end n false = refl

  delf_so : EndsSo DELF_ROW (delf a)
  delf_so = of_jfn_so a DELF_ROW deletes refl (λ n j. delete_end n (nat_lt 1 (a.times j.file)))

-- ---- bytes

module _ (Fits : ℕ → Type 0) (a : ByteAsked) (no_jfn : Fits call.NO_JFN) where
  held_errs : OnErr Fits (jfn_held a)
  held_errs = looked_up (OnErr Fits) Ok (Err call.NO_JFN) (map.get a.held (jfn_number a)) (λ j is. tt) (λ none. no_jfn)

  open_errs : (is_so : OpenFile → Bool) → Fits call.NOT_OPEN → OnErr Fits (jfn_open is_so a)
  open_errs is_so not_open = and_then_so Fits (jfn_held a) _ held_errs (λ j. cond_both (is_so j) _ _ (OnErr Fits) (λ opened. tt) (λ closed. not_open))

or_fails_so : {A : Type 0} (row : CallRow) (r : Result A ℕ) (next : A → End ByteChange) → OnErr (Fails row) r → ((x : A) → IsEnd row (next x)) → EndsSo row (given_or_fails r next)
or_fails_so row (Ok x) next errs so = so x
or_fails_so row (Err code) next errs so = errs

-- a call by the number of its JFN
by_number_so : (row : CallRow) (n : ℕ) (input output file : ByteTurn) → EndsSo row input → EndsSo row output → EndsSo row file → EndsSo row (by_number n input output file)
by_number_so row n input output file i o f = cond_both (n == call.TERMINAL_INPUT) _ _ (EndsSo row) (λ is. i) (λ no. cond_both (n == call.TERMINAL_OUTPUT) _ _ (EndsSo row) (λ is. o) (λ none. f))

abbrev SFPTR_ROW : CallRow
SFPTR_ROW = two call.SFPTR (call.NO_JFN ∷ call.NOT_OPEN ∷ call.BAD_POSITION ∷ [])

abbrev SIZEF_ROW : CallRow
SIZEF_ROW = two call.SIZEF (call.NO_JFN ∷ [])

abbrev RFPTR_ROW : CallRow
RFPTR_ROW = two call.RFPTR of_open_jfn

abbrev BIN_ROW : CallRow
BIN_ROW = waiting for_input (one call.BIN of_open_jfn)

abbrev BOUT_ROW : CallRow
BOUT_ROW = referring (one call.BOUT (call.NO_JFN ∷ call.NOT_OPEN ∷ call.BAD_POSITION ∷ []))

abbrev PBIN_ROW : CallRow
PBIN_ROW = waiting for_input (one call.PBIN [])

module _ (a : ByteAsked) where
  sfptr_so : EndsSo SFPTR_ROW (sfptr a)
  sfptr_so = or_fails_so SFPTR_ROW (jfn_open is_open a) _ (open_errs (Fails SFPTR_ROW) a refl is_open refl)
      (λ j. cond_both (nat_le (position_in a j (in_ac a.regs 2)) (most_bytes j.size)) _ _ (IsEnd SFPTR_ROW) (λ fits. refl) (λ far. refl))

  sizef_so : EndsSo SIZEF_ROW (sizef a)
  sizef_so = or_fails_so SIZEF_ROW (jfn_held a) _ (held_errs (Fails SIZEF_ROW) a refl) (λ j. refl)

  rfptr_so : EndsSo RFPTR_ROW (rfptr a)
  rfptr_so = or_fails_so RFPTR_ROW (jfn_open is_open a) _ (open_errs (Fails RFPTR_ROW) a refl is_open refl) (λ j. refl)

  bin_next : (input : List ℕ) → IsEnd BIN_ROW (next_character a 2 input)
  bin_next [] = refl
  bin_next (c ∷ cs) = refl

  bin_so : EndsSo BIN_ROW (bin a)
  bin_so = by_number_so BIN_ROW (jfn_number a) _ _ _ (bin_next a.input) refl (given_so BIN_ROW (jfn_open is_read a) (next_byte a) (open_errs (Refuses BIN_ROW) a refl is_read refl)
      (λ j. cond_both (nat_le (end_for a j) j.at) _ _ (EndsSo BIN_ROW) (λ over. refl) (λ more w. refl)))

  bout_put : (j : OpenFile) (what : Touched) → MayCome (file_spot j (byte_page j)) Write what → IsEnd BOUT_ROW (if_written (returning (Put a.who.tty (jfn_number a) (in_ac a.regs 2)) a.regs) what)
  bout_put j Granted may = refl
  bout_put j Denied may = absurd may
  bout_put j Full may = refl

  bout_so : EndsSo BOUT_ROW (bout a)
  bout_so = by_number_so BOUT_ROW (jfn_number a) _ _ _ refl refl (given_so BOUT_ROW (jfn_open is_written a) (put_byte a) (open_errs (Refuses BOUT_ROW) a refl is_written refl)
      (λ j. cond_both (nat_lt j.at (most_bytes j.size)) _ _ (EndsSo BOUT_ROW) (λ fits what may. bout_put j what may) (λ far. refl)))

  pbin_next : (input : List ℕ) → IsEnd PBIN_ROW (next_character a 1 input)
  pbin_next [] = refl
  pbin_next (c ∷ cs) = refl

  pbin_so : EndsSo PBIN_ROW (pbin a)
  pbin_so = pbin_next a.input

-- ---- strings

abbrev SIN_ROW : CallRow
SIN_ROW = waiting for_input (referring (one call.SIN of_open_jfn))

abbrev SOUT_ROW : CallRow
SOUT_ROW = referring (one call.SOUT (call.NO_JFN ∷ call.NOT_OPEN ∷ call.BAD_POSITION ∷ []))

abbrev PSOUT_ROW : CallRow
PSOUT_ROW = referring (one call.PSOUT [])

module _ (a : ByteAsked) where
  takes_so : (change : ByteChange) (byte : ℕ) → EndsSo SIN_ROW (takes_next a change byte)
  takes_so change byte = (refl, address_so a.regs (next_pointer (in_ac a.regs 2)), λ e. (refl, λ w. tt, λ g. refl))

  sin_next : (input : List ℕ) → EndsSo SIN_ROW (takes_character a input)
  sin_next [] = refl
  sin_next (c ∷ cs) = takes_so (Take a.who.tty) c

  sin_so : EndsSo SIN_ROW (sin a)
  sin_so = by_number_so SIN_ROW (jfn_number a) _ _ _ (sin_next a.input) refl (given_so SIN_ROW (jfn_open is_read a) (takes_from a) (open_errs (Refuses SIN_ROW) a refl is_read refl)
      (λ j. cond_both (nat_le (end_for a j) j.at) _ _ (EndsSo SIN_ROW) (λ over. refl) (λ more w. takes_so (Move a.who.tty (jfn_number a) (j.at + 1)) (loaded (byte_pointer j) w))))

  next_so : (next : ℕ → ℕ → ByteTurn) → ((p byte : ℕ) → EndsSo SOUT_ROW (next p byte)) → EndsSo SOUT_ROW (with_next a next)
  next_so next so = let p = next_pointer (in_ac a.regs 2) in reading_so SOUT_ROW refl a.who a.regs (byte_at a.regs p) (next p) (byte_so a.regs p) (so p)

  too_so : (byte : ℕ) (t : ByteTurn) → EndsSo SOUT_ROW t → EndsSo SOUT_ROW (if_written_too a byte t)
  too_so byte t so = cond_both ((in_ac a.regs 3 == 0) && (byte == 0)) _ _ (EndsSo SOUT_ROW) (λ over. refl) (λ more. so)

  sout_put : (j : OpenFile) (p byte : ℕ) (what : Touched) → MayCome (file_spot j (byte_page j)) Write what → IsEnd SOUT_ROW (if_written (Done (Put a.who.tty (jfn_number a) byte) (behind_byte a.regs p byte) None None) what)
  sout_put j p byte Granted may = refl
  sout_put j p byte Denied may = absurd may
  sout_put j p byte Full may = refl

  sout_so : EndsSo SOUT_ROW (sout a)
  sout_so = by_number_so SOUT_ROW (jfn_number a) _ _ _ refl (next_so (prints_byte a) (λ p byte. too_so byte _ refl)) (given_so SOUT_ROW (jfn_open is_written a) _ (open_errs (Refuses SOUT_ROW) a refl is_written refl)
      (λ j. cond_both (nat_lt j.at (most_bytes j.size)) _ _ (EndsSo SOUT_ROW) (λ fits. next_so (puts_byte a j) (λ p byte. too_so byte _ (λ what may. sout_put j p byte what may))) (λ far. refl)))

  psout_so : EndsSo PSOUT_ROW (psout a)
  psout_so = let p = next_pointer (in_ac a.regs 1) in reading_so PSOUT_ROW refl a.who a.regs (byte_at a.regs p) _ (byte_so a.regs p) (λ byte. cond_both (byte == 0) _ _ (IsEnd PSOUT_ROW) (λ over. refl) (λ more. refl))

-- ---- rows

module _ (s : PlainState) (f : Fork) where
  abbrev asked_jfns : JfnAsked
  asked_jfns = asks_jfns (parts_of s) f.name f.body.regs

  abbrev asked_bytes : ByteAsked
  asked_bytes = asks_bytes (λ name. name) (parts_of s) f.name f.body.regs

  of_names : (row : CallRow) (t : Turn ⊥ FileChange) → EndsSo row t → IsEnd row (turn_on (names_seen (parts_of s) f.name) s.pages t).end
  of_names row t so = ends_so row (names_seen (parts_of s) f.name) (λ none. absurd none) t so s.pages

  of_files : (row : CallRow) (t : ByteTurn) → EndsSo row t → IsEnd row (turn_on (files_seen (λ name. name) (parts_of s) f.name) s.pages t).end
  of_files row t so = ends_so row (files_seen (λ name. name) (parts_of s) f.name) (λ name. (name, refl)) t so s.pages

  pub jfn_all : All (IsAnswered s f) jfn_rows
  jfn_all = All-from_recursion (IsAnswered s f) jfn_rows (
    of_names GTJFN_ROW (gtjfn asked_jfns) (gtjfn_so asked_jfns),
    (
      of_names OPENF_ROW (openf asked_jfns) (openf_so asked_jfns),
      (
        of_names CLOSF_ROW (closf asked_jfns) (closf_so asked_jfns),
        (
          of_names RLJFN_ROW (rljfn asked_jfns) (rljfn_so asked_jfns),
          (of_names DELF_ROW (delf asked_jfns) (delf_so asked_jfns), tt),
        ),
      ),
    ),
  )

  pub byte_all : All (IsAnswered s f) byte_rows
  byte_all = All-from_recursion (IsAnswered s f) byte_rows (
    of_files SFPTR_ROW (sfptr asked_bytes) (sfptr_so asked_bytes),
    (
      of_files SIZEF_ROW (sizef asked_bytes) (sizef_so asked_bytes),
      (
        of_files RFPTR_ROW (rfptr asked_bytes) (rfptr_so asked_bytes),
        (
          of_files BIN_ROW (bin asked_bytes) (bin_so asked_bytes),
          (
            of_files BOUT_ROW (bout asked_bytes) (bout_so asked_bytes),
            (of_files PBIN_ROW (pbin asked_bytes) (pbin_so asked_bytes), tt),
          ),
        ),
      ),
    ),
  )

  pub string_all : All (IsAnswered s f) string_rows
  string_all = All-from_recursion (IsAnswered s f) string_rows (
    of_files SIN_ROW (sin asked_bytes) (sin_so asked_bytes),
    (
      of_files SOUT_ROW (sout asked_bytes) (sout_so asked_bytes),
      (of_files PSOUT_ROW (psout asked_bytes) (psout_so asked_bytes), tt),
    ),
  )
