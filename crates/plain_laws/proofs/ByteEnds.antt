-- How the turn of a call on bytes ends: which JFN its change names, and to which page it refers.
use Rattle.std.proofs.Common.{◌≡◌, ℕ, ◌+◌, ◌<◌, ◌≤◌, Bool, true, false, List, [], ◌∷◌, Option, None, Some, Result, Ok, Err, refl, sym, subst, arith}
use Rattle.std.specs.Prelude.{◌==◌, nat_le, nat_lt, if◌then◌else◌}
use Rattle.std.specs.Option.{option_map_or}
use Rattle.std.specs.FinMap as map
use Rattle.std.proofs.lemmas.Bool.{cond_both}
use Rattle.std.proofs.lemmas.Bool.Decides.{nat_tests}
use Rattle.word36.specs.Bytes.{deposited}
use Rattle.machine_names.specs.Orders.{name_cmp}
use Rattle.machine_names.specs.declared.names.Tty.{Tty}
use Rattle.machine_names.specs.declared.names.Kind.TheVariants.{Write}
use Rattle.plain_files.specs.Bytes.{IsByteSize, most_bytes}
use Rattle.plain_files.specs.OpenFiles.{OpenFile}
use Rattle.plain_pages.specs.PlainPages.{NamedPages, Maps}
use Rattle.plain_pages.specs.References.{Spot, in_file, word_at}
use Rattle.plain_units.specs.declared.registers.Regs.{Regs}
use Rattle.plain_units.specs.Deeds.{in_ac}
use Rattle.plain_units.proofs.PageRuns.{stored_maps}
use Rattle.plain_model.specs.declared.call.TheConstants.{SFPTR, SIZEF, RFPTR, BIN, BOUT, PBIN, TERMINAL_INPUT, TERMINAL_OUTPUT, NO_JFN, NOT_OPEN, BAD_POSITION}
use Rattle.plain_model.specs.declared.call.End.{End}
use Rattle.plain_model.specs.declared.call.End.TheVariants.{Done, Waits, Halts, Refused, Failed, Trap}
use Rattle.plain_model.specs.declared.call.Touched.{Touched}
use Rattle.plain_model.specs.declared.call.Touched.TheVariants.{Granted, Denied, Full}
use Rattle.plain_model.specs.declared.call.ByteChange.{ByteChange}
use Rattle.plain_model.specs.declared.call.ByteChange.TheVariants.{Nothing, Take, Move, Put}
use Rattle.plain_model.specs.Forks.{ForkMap}
use Rattle.plain_model.specs.Calls.{reads, touches, ends, behind_call, given, parts_behind, returning, with_ac}
use Rattle.plain_model.specs.FileCalls.{FileParts, held_at, skipping}
use Rattle.plain_model.specs.MapCalls.{file_spot, is_read, is_written, keyed}
use Rattle.plain_model.specs.ByteCalls.{ByteAsked, ByteTurn, at_end, bin, bout, by_number, byte_call, byte_offset, byte_page, end_for, file_for, byte_changed, byte_pointer, given_or_fails, if_written, is_open, jfn_held, jfn_number, jfn_open, moving, next_byte, next_character, page_in, pbin, position_in, prints_byte, put_byte, rfptr, sfptr, sizef, takes_byte, written}
use Rattle.plain_model.proofs.Turns.{KeepsEnd}
use Rattle.plain_model.proofs.MapKeeps.{AllOk, then_ok}
use Rattle.plain_laws.proofs.ByteSizes.{page_within}
use Rattle.plain_laws.proofs.MapEnds.{TurnIn}

-- a JFN of the caller's job, with what it stands for
abbrev pub IsOwn : ByteAsked → Tty → ℕ → OpenFile → Type 0
IsOwn a t n j = (t ≡ a.who.tty) × (map.get a.held n ≡ Some j)

-- what is changed is of the caller's job; a JFN comes to a byte that its file has room for, or behind the last one
abbrev pub FitsByte : ByteAsked → ByteChange → Type 0
FitsByte a Nothing = Unit {0}
FitsByte a (Take t) = t ≡ a.who.tty
FitsByte a (Move t n at) = (j : OpenFile) × IsOwn a t n j × (at ≤ most_bytes j.size)
FitsByte a (Put t n byte) = (j : OpenFile) × IsOwn a t n j × (j.at < most_bytes j.size)

-- what a JFN stands for fits: its file is there, its bytes have a size, and the file has room for those that it has
pub record FitsHeld (a : ByteAsked) (There : List ℕ → Type 0) (j : OpenFile) : Type 0 where
  pub there : There j.file
  pub is_size : IsByteSize j.size
  pub room : end_for a j ≤ most_bytes j.size

-- a change leaves the maps of forks
changed_maps : (change : ByteChange) (v : FileParts name_cmp) → (byte_changed (λ name. name) change v).pages.maps ≡ v.pages.maps
unfolding byte_changed
changed_maps Nothing v = refl
changed_maps (Take t) v = refl
changed_maps (Move t n at) v = refl
changed_maps (Put t n byte) v = by (map.get (held_at v.jobs t) n)
  where
    by : (j : Option OpenFile) → (option_map_or (written (λ name. name) v t n byte) j v).pages.maps ≡ v.pages.maps
    by None = refl
    by (Some j) = let at : Spot (List ℕ) = in_file (keyed (λ name. name) j.file (byte_page j)) in stored_maps v.pages at (byte_offset j) (deposited (byte_pointer j) (word_at v.pages at (byte_offset j)) byte)

-- so does a turn, but for what it made
pub bytes_left_maps : (Holds : Maps → Type 0) (v : FileParts name_cmp) (q : NamedPages) (e : End ByteChange) → Holds v.pages.maps → Holds q.maps → Holds (parts_behind (byte_changed (λ name. name)) v (record v { pages = q }) e).pages.maps
unfolding parts_behind
bytes_left_maps Holds v q (Done change regs out post) old made = subst Holds (sym (changed_maps change (record v { pages = q }))) made
bytes_left_maps Holds v q (Waits on) old made = old
bytes_left_maps Holds v q Halts old made = old
bytes_left_maps Holds v q (Refused code) old made = old
bytes_left_maps Holds v q (Failed code) old made = old
bytes_left_maps Holds v q (Trap channel) old made = old

below : (k m : ℕ) → nat_lt k m ≡ true → k < m
below k m h = grind (arith, nat_tests)

at_most : (k m : ℕ) → nat_le k m ≡ true → k ≤ m
at_most k m h = grind (arith, nat_tests)

before : (k m : ℕ) → nat_le m k ≡ false → k + 1 ≤ m
before k m h = grind (arith, nat_tests)

-- a turn that refers to pages of files that are there, and whose change fits
abbrev pub FitsTurn : ForkMap → ByteAsked → (List ℕ → Type 0) → ByteTurn → Type 0
FitsTurn forks a There t = TurnIn forks a.who.tty There (FitsByte a) t

module _ (forks : ForkMap) (a : ByteAsked) (There : List ℕ → Type 0) (held : (n : ℕ) (j : OpenFile) → map.get a.held n ≡ Some j → FitsHeld a There j) where
  abbrev Fits : ByteTurn → Type 0
  Fits t = FitsTurn forks a There t

  abbrev FitsIt : End ByteChange → Type 0
  FitsIt e = KeepsEnd (FitsByte a) e

  -- the JFN that is named
  abbrev pub Named : OpenFile → Type 0
  Named j = (map.get a.held (jfn_number a) ≡ Some j) × FitsHeld a There j

  own : (j : OpenFile) → Named j → IsOwn a a.who.tty (jfn_number a) j
  own j named = (refl, named.0)

  held_in : AllOk Named (jfn_held a)
  held_in = by (map.get a.held (jfn_number a)) refl
    where
      by : (o : Option OpenFile) → map.get a.held (jfn_number a) ≡ o → AllOk Named (option_map_or Ok o (Err NO_JFN))
      by None is = tt
      by (Some j) is = (is, held (jfn_number a) j is)

  pub open_in : (is_so : OpenFile → Bool) → AllOk Named (jfn_open is_so a)
  open_in is_so = then_ok Named Named (jfn_held a) (λ j. if is_so j then Ok j else Err NOT_OPEN) held_in (λ j named. cond_both (is_so j) (Ok j) (Err NOT_OPEN) (AllOk Named) (λ is. named) (λ no. tt))

  fails_or : (r : Result OpenFile ℕ) (next : OpenFile → End ByteChange) → AllOk Named r → ((j : OpenFile) → Named j → FitsIt (next j)) → Fits (given_or_fails r next)
  fails_or (Ok j) next named goes = goes j named
  fails_or (Err code) next named goes = tt

  pub given_so : (r : Result OpenFile ℕ) (next : OpenFile → ByteTurn) → AllOk Named r → ((j : OpenFile) → Named j → Fits (next j)) → Fits (given r next)
  given_so (Ok j) next named goes = goes j named
  given_so (Err code) next named goes = tt

  moving_in : (j : OpenFile) → Named j → (at : ℕ) → FitsIt (moving a j at)
  moving_in j named at = cond_both (nat_le at (most_bytes j.size)) (skipping (Move a.who.tty (jfn_number a) at) a.regs) (Failed BAD_POSITION) FitsIt (λ is. (j, own j named, at_most at (most_bytes j.size) is)) (λ no. tt)

  character_in : (n : ℕ) (input : List ℕ) → FitsIt (next_character a n input)
  character_in n [] = tt
  character_in n (c ∷ cs) = refl

  -- where a JFN isn't at its end, its file has room for the next byte
  pub moved_on : (j : OpenFile) → Named j → nat_le (end_for a j) j.at ≡ false → FitsByte a (Move a.who.tty (jfn_number a) (j.at + 1))
  moved_on j named inside = (j, own j named, omega (arith, before j.at (end_for a j) inside, named.1.room))

  -- a byte is written where its file has room for it
  pub written_in : (j : OpenFile) → Named j → nat_lt j.at (most_bytes j.size) ≡ true → (byte : ℕ) (regs : Regs)
      → Fits (touches a.who.tty (file_spot j (byte_page j)) Write (λ what. ends (if_written (Done (Put a.who.tty (jfn_number a) byte) regs None None) what)))
  written_in j named is byte regs = (refl, (named.1.there, page_within j.size j.at named.1.is_size room), by)
    where
      room : j.at < most_bytes j.size
      room = below j.at (most_bytes j.size) is

      by : (what : Touched) → FitsIt (if_written (Done (Put a.who.tty (jfn_number a) byte) regs None None) what)
      by Granted = (j, own j named, room)
      by Denied = tt
      by Full = tt

  next_in : (j : OpenFile) → Named j → Fits (next_byte a j)
  next_in j named = cond_both (nat_le (end_for a j) j.at) (ends (at_end a)) (reads (page_in j (byte_page j)) (byte_offset j) (λ w. ends (takes_byte a j w))) Fits (λ is. tt)
      (λ no w. moved_on j named no)

  put_in : (j : OpenFile) → Named j → Fits (put_byte a j)
  put_in j named = cond_both (nat_lt j.at (most_bytes j.size)) (touches a.who.tty (file_spot j (byte_page j)) Write (λ what. ends (if_written put what))) (ends (Refused BAD_POSITION)) Fits
      (λ is. written_in j named is (in_ac a.regs 2) (behind_call a.regs)) (λ no. tt)
    where
      put : End ByteChange
      put = returning (Put a.who.tty (jfn_number a) (in_ac a.regs 2)) a.regs

  -- a call by the number of a JFN
  pub by_in : (input output file : ByteTurn) → Fits input → Fits output → Fits file → Fits (by_number (jfn_number a) input output file)
  by_in input output file one two three =
      cond_both (jfn_number a == TERMINAL_INPUT) input _ Fits (λ is. one) (λ n1. cond_both (jfn_number a == TERMINAL_OUTPUT) output file Fits (λ is. two) (λ n2. three))

  bin_in : Fits (bin a)
  bin_in = by_in (ends (next_character a 2 a.input)) (ends (Refused NOT_OPEN)) (given (jfn_open is_read a) (next_byte a)) (character_in 2 a.input) tt (given_so (jfn_open is_read a) (next_byte a) (open_in is_read) next_in)

  bout_in : Fits (bout a)
  bout_in = by_in (ends (Refused NOT_OPEN)) (ends (prints_byte a)) (given (jfn_open is_written a) (put_byte a)) tt tt (given_so (jfn_open is_written a) (put_byte a) (open_in is_written) put_in)

  pub byte_call_in : (number : ℕ) → Fits (byte_call number a)
  byte_call_in number =
      cond_both (SFPTR == number) (sfptr a) _ Fits (λ is. fails_or (jfn_open is_open a) (λ j. moving a j (position_in a j (in_ac a.regs 2))) (open_in is_open) (λ j named. moving_in j named (position_in a j (in_ac a.regs 2)))) (λ n1.
      cond_both (SIZEF == number) (sizef a) _ Fits (λ is. fails_or (jfn_held a) (λ j. skipping Nothing (with_ac (with_ac a.regs 2 (file_for a j).length) 3 (a.pages j.file))) held_in (λ j named. tt)) (λ n2.
      cond_both (RFPTR == number) (rfptr a) _ Fits (λ is. fails_or (jfn_open is_open a) (λ j. skipping Nothing (with_ac a.regs 2 j.at)) (open_in is_open) (λ j named. tt)) (λ n3.
      cond_both (BIN == number) (bin a) _ Fits (λ is. bin_in) (λ n4.
      cond_both (BOUT == number) (bout a) _ Fits (λ is. bout_in) (λ n5.
      cond_both (PBIN == number) (pbin a) _ Fits (λ is. character_in 1 a.input) (λ n6. tt))))))
