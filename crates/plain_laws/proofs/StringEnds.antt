-- How the turn of a call on strings ends: which JFN its change names, and to which pages it refers.
use Rattle.std.proofs.Common.{◌≡◌, ℕ, ◌+◌, true, List, [], ◌∷◌, None, Some, refl}
use Rattle.std.specs.Prelude.{◌%◌, ◌==◌, ◌&&◌, if◌then◌else◌, nat_le, nat_lt, slice_index}
use Rattle.std.specs.FinMap as map
use Rattle.std.proofs.lemmas.Bool.{cond_both}
use Rattle.word36.specs.Bytes.{loaded}
use Rattle.machine_names.specs.declared.names.Kind.TheVariants.{Write}
use Rattle.plain_files.specs.Bytes.{most_bytes}
use Rattle.plain_files.specs.OpenFiles.{OpenFile}
use Rattle.plain_units.specs.Deeds.{in_ac}
use Rattle.plain_model.specs.declared.call.TheConstants.{PSOUT, SIN, SOUT, NOT_OPEN, BAD_POSITION}
use Rattle.plain_model.specs.declared.call.End.{End}
use Rattle.plain_model.specs.declared.call.End.TheVariants.{Done, Refused}
use Rattle.plain_model.specs.declared.call.ByteChange.{ByteChange}
use Rattle.plain_model.specs.declared.call.ByteChange.TheVariants.{Move, Nothing, Put, Take}
use Rattle.plain_model.specs.Forks.{ForkMap}
use Rattle.plain_model.specs.Calls.{ends, given, reads, returning, touches}
use Rattle.plain_model.specs.MapCalls.{file_spot, is_read, is_written}
use Rattle.plain_model.specs.ByteCalls.{ByteAsked, ByteTurn, byte_offset, byte_page, byte_pointer, end_for, if_written, jfn_number, jfn_open, page_in}
use Rattle.plain_model.specs.PointedTexts.{byte_at}
use Rattle.plain_model.specs.Readings.{Reading, words, read, with_reading}
use Rattle.plain_model.specs.StringCalls.{at_end, behind_byte, next_pointer, prints_byte, prints_next, psout, puts_byte, sin, sout, string_call, takes_character, takes_from, takes_next, with_next}
use Rattle.plain_model.proofs.Turns.{KeepsEnd}
use Rattle.plain_laws.proofs.ByteEnds.{FitsByte, FitsHeld, FitsTurn, Named, by_in, given_so, moved_on, open_in, written_in}

module _ (forks : ForkMap) (a : ByteAsked) (There : List ℕ → Type 0) (held : (n : ℕ) (j : OpenFile) → map.get a.held n ≡ Some j → FitsHeld a There j) where
  abbrev Fits : ByteTurn → Type 0
  Fits t = FitsTurn forks a There t

  -- a turn that reads in the caller's space is such where what is behind that is
  reading_in : {A : Type 0} (r : Reading A) (next : A → ByteTurn) → ((x : A) → Fits (next x)) → Fits (with_reading a.who a.regs r next)
  unfolding with_reading
  reading_in (words steps rest) next goes = (refl, λ e. reading_in (rest (slice_index e.regs.ac 0)) next goes)
  reading_in (read found) next goes = goes found

  pointed_in : (p : ℕ) (next : ℕ → ByteTurn) → ((byte : ℕ) → Fits (next byte)) → Fits (with_reading a.who a.regs (byte_at a.regs p) next)
  pointed_in p next goes = reading_in (byte_at a.regs p) next goes

  -- a byte becomes the next of the string
  takes_next_in : (change : ByteChange) (byte : ℕ) → FitsByte a change → Fits (takes_next a change byte)
  takes_next_in change byte fits = (refl, λ e. (refl, λ f. fits))

  character_in : (input : List ℕ) → Fits (takes_character a input)
  character_in [] = tt
  character_in (c ∷ cs) = takes_next_in (Take a.who.tty) c refl

  abbrev NamedJfn : OpenFile → Type 0
  NamedJfn j = Named forks a There held j

  takes_in : (j : OpenFile) → NamedJfn j → Fits (takes_from a j)
  takes_in j named = cond_both (nat_le (end_for a j) j.at) (ends (at_end a)) (reads (page_in j (byte_page j)) (byte_offset j) (λ w. takes_next a (Move a.who.tty (jfn_number a) (j.at + 1)) (loaded (byte_pointer j) w))) Fits
      (λ is. tt) (λ no w. takes_next_in (Move a.who.tty (jfn_number a) (j.at + 1)) (loaded (byte_pointer j) w) (moved_on forks a There held j named no))

  prints_in : (p byte : ℕ) → Fits (prints_byte a p byte)
  prints_in p byte = cond_both ((in_ac a.regs 3 == 0) && (byte == 0)) (ends (returning Nothing a.regs)) (ends (Done Nothing (behind_byte a.regs p byte) (Some (byte % 128)) None)) Fits (λ is. tt) (λ is. tt)

  puts_in : (j : OpenFile) → NamedJfn j → nat_lt j.at (most_bytes j.size) ≡ true → (p byte : ℕ) → Fits (puts_byte a j p byte)
  puts_in j named room p byte = cond_both ((in_ac a.regs 3 == 0) && (byte == 0)) (ends (returning Nothing a.regs)) (touches a.who.tty (file_spot j (byte_page j)) Write (λ what. ends (if_written put what))) Fits
      (λ is. tt) (λ is. written_in forks a There held j named room byte (behind_byte a.regs p byte))
    where
      put : End ByteChange
      put = Done (Put a.who.tty (jfn_number a) byte) (behind_byte a.regs p byte) None None

  writes_in : (j : OpenFile) → NamedJfn j → Fits (if nat_lt j.at (most_bytes j.size) then with_next a (puts_byte a j) else ends (Refused BAD_POSITION))
  writes_in j named = cond_both (nat_lt j.at (most_bytes j.size)) (with_next a (puts_byte a j)) (ends (Refused BAD_POSITION)) Fits
      (λ room. let p = next_pointer (in_ac a.regs 2) in pointed_in p (puts_byte a j p) (puts_in j named room p)) (λ none. tt)

  psout_in : Fits (psout a)
  psout_in = let p = next_pointer (in_ac a.regs 1) in pointed_in p (λ byte. ends (prints_next a p byte)) (λ byte. cond_both (byte == 0) _ _ (KeepsEnd (FitsByte a)) (λ is. tt) (λ is. tt))

  sin_in : Fits (sin a)
  sin_in = by_in forks a There held (takes_character a a.input) (ends (Refused NOT_OPEN)) (given (jfn_open is_read a) (takes_from a)) (character_in a.input) tt
      (given_so forks a There held (jfn_open is_read a) (takes_from a) (open_in forks a There held is_read) takes_in)

  sout_in : Fits (sout a)
  sout_in = by_in forks a There held (ends (Refused NOT_OPEN)) (with_next a (prints_byte a)) _ tt
      (let p = next_pointer (in_ac a.regs 2) in pointed_in p (prints_byte a p) (prints_in p)) (given_so forks a There held (jfn_open is_written a) _ (open_in forks a There held is_written) writes_in)

  pub string_call_in : (number : ℕ) → Fits (string_call number a)
  string_call_in number =
      cond_both (SIN == number) (sin a) _ Fits (λ is. sin_in) (λ n1.
      cond_both (SOUT == number) (sout a) _ Fits (λ is. sout_in) (λ n2.
      cond_both (PSOUT == number) (psout a) _ Fits (λ is. psout_in) (λ n3. tt)))
