-- A call on bytes refers to no files but those of its JFNs.
use Rattle.std.proofs.Common.{◌≡◌, ℕ, Bool, List, Option, None, Some, Result, Ok, Err, refl}
use Rattle.std.specs.Prelude.{◌==◌, nat_le, nat_lt, if◌then◌else◌}
use Rattle.std.specs.Option.{option_map_or}
use Rattle.std.specs.FinMap as map
use Rattle.std.proofs.lemmas.Bool.{cond_both}
use Rattle.plain_model.specs.declared.call.TheConstants.{SFPTR, SIZEF, RFPTR, BIN, BOUT, PBIN, TERMINAL_INPUT, TERMINAL_OUTPUT, NO_JFN, NOT_OPEN, BAD_POSITION}
use Rattle.plain_model.specs.declared.call.End.{End}
use Rattle.plain_model.specs.declared.call.End.TheVariants.{Refused}
use Rattle.plain_model.specs.declared.call.ByteChange.{ByteChange}
use Rattle.plain_model.specs.declared.call.ByteChange.TheVariants.{Nothing, Put}
use Rattle.machine_names.specs.declared.names.Kind.TheVariants.{Write}
use Rattle.plain_files.specs.Bytes.{most_bytes}
use Rattle.plain_files.specs.OpenFiles.{OpenFile}
use Rattle.plain_units.specs.Deeds.{in_ac}
use Rattle.plain_model.specs.Calls.{reads, touches, ends, given, returning, with_ac}
use Rattle.plain_model.specs.FileCalls.{skipping}
use Rattle.plain_model.specs.MapCalls.{file_spot, is_read, is_written}
use Rattle.plain_model.specs.ByteCalls.{ByteAsked, ByteTurn, at_end, bin, bout, by_number, byte_call, byte_offset, byte_page, end_for, file_for, given_or_fails, if_written, is_open, jfn_held, jfn_number, jfn_open, moving, next_byte, next_character, page_in, pbin, position_in, prints_byte, put_byte, rfptr, sfptr, sizef, takes_byte}
use Rattle.plain_model.proofs.Turns.{Keeps, ends_any}
use Rattle.plain_model.proofs.MapKeeps.{AllOk, then_ok}

module _ (There : List ℕ → Type 0) where
  abbrev pub KnowsFiles : ByteTurn → Type 0
  KnowsFiles t = Keeps There (λ c. Unit {0}) t

  abbrev ThereFor : OpenFile → Type 0
  ThereFor j = There j.file

  fails_or : {A : Type 0} (r : Result A ℕ) (next : A → End ByteChange) → KnowsFiles (given_or_fails r next)
  fails_or (Ok x) next = ends_any (next x)
  fails_or (Err code) next = tt

  pub given_so : (r : Result OpenFile ℕ) (next : OpenFile → ByteTurn) → AllOk ThereFor r → ((j : OpenFile) → There j.file → KnowsFiles (next j)) → KnowsFiles (given r next)
  given_so (Ok j) next there goes = goes j there
  given_so (Err code) next there goes = tt

  module _ (a : ByteAsked) (held : (n : ℕ) (j : OpenFile) → map.get a.held n ≡ Some j → There j.file) where
    held_ok : AllOk ThereFor (jfn_held a)
    held_ok = by (map.get a.held (jfn_number a)) refl
      where
        by : (o : Option OpenFile) → map.get a.held (jfn_number a) ≡ o → AllOk ThereFor (option_map_or Ok o (Err NO_JFN))
        by None is = tt
        by (Some j) is = held (jfn_number a) j is

    pub open_ok : (is_so : OpenFile → Bool) → AllOk ThereFor (jfn_open is_so a)
    open_ok is_so = then_ok ThereFor ThereFor (jfn_held a) (λ j. if is_so j then Ok j else Err NOT_OPEN) held_ok (λ j there. cond_both (is_so j) (Ok j) (Err NOT_OPEN) (AllOk ThereFor) (λ is. there) (λ no. tt))

    next_keeps : (j : OpenFile) → There j.file → KnowsFiles (next_byte a j)
    next_keeps j there = cond_both (nat_le (end_for a j) j.at) (ends (at_end a)) (reads (page_in j (byte_page j)) (byte_offset j) (λ w. ends (takes_byte a j w))) KnowsFiles (λ is. tt) (λ is. (there, λ w. tt))

    put_keeps : (j : OpenFile) → There j.file → KnowsFiles (put_byte a j)
    put_keeps j there = cond_both (nat_lt j.at (most_bytes j.size)) (touches a.who.tty (file_spot j (byte_page j)) Write (λ what. ends (if_written put what))) (ends (Refused BAD_POSITION)) KnowsFiles
        (λ is. (there, λ what. ends_any (if_written put what))) (λ is. tt)
      where
        put : End ByteChange
        put = returning (Put a.who.tty (jfn_number a) (in_ac a.regs 2)) a.regs

    -- a call by the number of a JFN
    pub by_keeps : (input output file : ByteTurn) → KnowsFiles input → KnowsFiles output → KnowsFiles file → KnowsFiles (by_number (jfn_number a) input output file)
    by_keeps input output file one two three =
        cond_both (jfn_number a == TERMINAL_INPUT) input _ KnowsFiles (λ is. one) (λ n1. cond_both (jfn_number a == TERMINAL_OUTPUT) output file KnowsFiles (λ is. two) (λ n2. three))

    bin_keeps : KnowsFiles (bin a)
    bin_keeps = by_keeps (ends (next_character a 2 a.input)) (ends (Refused NOT_OPEN)) (given (jfn_open is_read a) (next_byte a)) (ends_any (next_character a 2 a.input)) tt (given_so (jfn_open is_read a) (next_byte a) (open_ok is_read) next_keeps)

    bout_keeps : KnowsFiles (bout a)
    bout_keeps = by_keeps (ends (Refused NOT_OPEN)) (ends (prints_byte a)) (given (jfn_open is_written a) (put_byte a)) tt tt (given_so (jfn_open is_written a) (put_byte a) (open_ok is_written) put_keeps)

    -- A CALL ON BYTES KNOWS THE FILES OF JFNS
    pub byte_keeps : (number : ℕ) → KnowsFiles (byte_call number a)
    byte_keeps number =
        cond_both (SFPTR == number) (sfptr a) _ KnowsFiles (λ is. fails_or (jfn_open is_open a) (λ j. moving a j (position_in a j (in_ac a.regs 2)))) (λ n1.
        cond_both (SIZEF == number) (sizef a) _ KnowsFiles (λ is. fails_or (jfn_held a) (λ j. skipping Nothing (with_ac (with_ac a.regs 2 (file_for a j).length) 3 (a.pages j.file)))) (λ n2.
        cond_both (RFPTR == number) (rfptr a) _ KnowsFiles (λ is. fails_or (jfn_open is_open a) (λ j. skipping Nothing (with_ac a.regs 2 j.at))) (λ n3.
        cond_both (BIN == number) (bin a) _ KnowsFiles (λ is. bin_keeps) (λ n4.
        cond_both (BOUT == number) (bout a) _ KnowsFiles (λ is. bout_keeps) (λ n5.
        cond_both (PBIN == number) (pbin a) _ KnowsFiles (λ is. ends_any (next_character a 1 a.input)) (λ n6. tt))))))
