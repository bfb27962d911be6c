-- A call on strings refers to no files but those of its JFNs.
use Rattle.std.proofs.Common.{◌≡◌, ℕ, ◌+◌, List, [], ◌∷◌, None, Some}
use Rattle.std.specs.Prelude.{◌%◌, ◌==◌, ◌&&◌, if◌then◌else◌, nat_le, nat_lt, slice_index}
use Rattle.std.specs.FinMap as map
use Rattle.std.proofs.lemmas.Bool.{cond_both}
use Rattle.word36.specs.Bytes.{loaded}
use Rattle.machine_names.specs.declared.names.Kind.TheVariants.{Write}
use Rattle.plain_files.specs.Bytes.{most_bytes}
use Rattle.plain_files.specs.OpenFiles.{OpenFile}
use Rattle.plain_units.specs.Deeds.{in_ac}
use Rattle.plain_model.specs.declared.call.TheConstants.{PSOUT, SIN, SOUT, NOT_OPEN, BAD_POSITION}
use Rattle.plain_model.specs.declared.call.End.{End}
use Rattle.plain_model.specs.declared.call.End.TheVariants.{Done, Refused}
use Rattle.plain_model.specs.declared.call.ByteChange.{ByteChange}
use Rattle.plain_model.specs.declared.call.ByteChange.TheVariants.{Move, Nothing, Put}
use Rattle.plain_model.specs.Calls.{ends, given, reads, returning, touches}
use Rattle.plain_model.specs.MapCalls.{file_spot, is_read, is_written}
use Rattle.plain_model.specs.ByteCalls.{ByteAsked, ByteTurn, byte_offset, byte_page, byte_pointer, end_for, if_written, jfn_number, jfn_open, page_in}
use Rattle.plain_model.specs.PointedTexts.{byte_at}
use Rattle.plain_model.specs.Readings.{Reading, words, read, with_reading}
use Rattle.plain_model.specs.StringCalls.{at_end, behind_byte, next_pointer, prints_byte, prints_next, psout, puts_byte, sin, sout, string_call, takes_character, takes_from, takes_next, with_next}
use Rattle.plain_model.proofs.Turns.{ends_any}
use Rattle.plain_model.proofs.ByteKeeps.{KnowsFiles, by_keeps, given_so, open_ok}

module _ (There : List ℕ → Type 0) (a : ByteAsked) where
  abbrev Knows : ByteTurn → Type 0
  Knows t = KnowsFiles There t

  -- a turn that reads in the caller's space knows what it knows behind that
  reading_keeps : {A : Type 0} (r : Reading A) (next : A → ByteTurn) → ((x : A) → Knows (next x)) → Knows (with_reading a.who a.regs r next)
  unfolding with_reading
  reading_keeps (words steps rest) next goes = λ e. reading_keeps (rest (slice_index e.regs.ac 0)) next goes
  reading_keeps (read found) next goes = goes found

  pointed_keeps : (p : ℕ) (next : ℕ → ByteTurn) → ((byte : ℕ) → Knows (next byte)) → Knows (with_reading a.who a.regs (byte_at a.regs p) next)
  pointed_keeps p next goes = reading_keeps (byte_at a.regs p) next goes

  character_keeps : (input : List ℕ) → Knows (takes_character a input)
  character_keeps [] = tt
  character_keeps (c ∷ cs) = λ e f. tt

  takes_keeps : (j : OpenFile) → There j.file → Knows (takes_from a j)
  takes_keeps j there = cond_both (nat_le (end_for a j) j.at) (ends (at_end a)) (reads (page_in j (byte_page j)) (byte_offset j) (λ w. takes_next a (Move a.who.tty (jfn_number a) (j.at + 1)) (loaded (byte_pointer j) w))) Knows
      (λ is. tt) (λ is. (there, λ w e f. tt))

  prints_keeps : (p byte : ℕ) → Knows (prints_byte a p byte)
  prints_keeps p byte = cond_both ((in_ac a.regs 3 == 0) && (byte == 0)) (ends (returning Nothing a.regs)) (ends (Done Nothing (behind_byte a.regs p byte) (Some (byte % 128)) None)) Knows (λ is. tt) (λ is. tt)

  puts_keeps : (j : OpenFile) → There j.file → (p byte : ℕ) → Knows (puts_byte a j p byte)
  puts_keeps j there p byte = cond_both ((in_ac a.regs 3 == 0) && (byte == 0)) (ends (returning Nothing a.regs)) (touches a.who.tty (file_spot j (byte_page j)) Write (λ what. ends (if_written put what))) Knows
      (λ is. tt) (λ is. (there, λ what. ends_any (if_written put what)))
    where
      put : End ByteChange
      put = Done (Put a.who.tty (jfn_number a) byte) (behind_byte a.regs p byte) None None

  writes_keeps : (j : OpenFile) → There j.file → Knows (if nat_lt j.at (most_bytes j.size) then with_next a (puts_byte a j) else ends (Refused BAD_POSITION))
  writes_keeps j there = cond_both (nat_lt j.at (most_bytes j.size)) (with_next a (puts_byte a j)) (ends (Refused BAD_POSITION)) Knows
      (λ is. let p = next_pointer (in_ac a.regs 2) in pointed_keeps p (puts_byte a j p) (puts_keeps j there p)) (λ is. tt)

  psout_keeps : Knows (psout a)
  psout_keeps = let p = next_pointer (in_ac a.regs 1) in pointed_keeps p (λ byte. ends (prints_next a p byte)) (λ byte. ends_any (prints_next a p byte))

  module _ (held : (n : ℕ) (j : OpenFile) → map.get a.held n ≡ Some j → There j.file) where
    sin_keeps : Knows (sin a)
    sin_keeps = by_keeps There a held (takes_character a a.input) (ends (Refused NOT_OPEN)) (given (jfn_open is_read a) (takes_from a)) (character_keeps a.input) tt
        (given_so There (jfn_open is_read a) (takes_from a) (open_ok There a held is_read) takes_keeps)

    sout_keeps : Knows (sout a)
    sout_keeps = by_keeps There a held (ends (Refused NOT_OPEN)) (with_next a (prints_byte a)) _ tt
        (let p = next_pointer (in_ac a.regs 2) in pointed_keeps p (prints_byte a p) (prints_keeps p)) (given_so There (jfn_open is_written a) _ (open_ok There a held is_written) writes_keeps)

    -- A CALL ON STRINGS KNOWS THE FILES OF JFNS
    pub string_keeps : (number : ℕ) → Knows (string_call number a)
    string_keeps number =
        cond_both (SIN == number) (sin a) _ Knows (λ is. sin_keeps) (λ n1.
        cond_both (SOUT == number) (sout a) _ Knows (λ is. sout_keeps) (λ n2.
        cond_both (PSOUT == number) (psout a) _ Knows (λ is. psout_keeps) (λ n3. tt)))
