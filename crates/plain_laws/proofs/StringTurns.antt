-- What the turns of the calls on strings come to.
use Rattle.std.proofs.Common.{◌≡◌, ◌≢◌, ◌⊎◌, inl, inr, ℕ, ◌+◌, ◌%◌, ◌<◌, ◌≤◌, Bool, true, false, cond, List, [], ◌∷◌, None, Some, refl, sym, ◌∙◌, ap, arith}
use Rattle.std.specs.Prelude.{◌==◌, ◌&&◌, if◌then◌else◌, nat_lt, slice_index}
use Rattle.std.specs.Cmp.Lexicographic.{nat_list_cmp_total}
use Rattle.std.proofs.lemmas.Bool.Decides.{nat_tests}
use Rattle.word36.specs.Bytes.{deposited, loaded}
use Rattle.machine_names.specs.Bounds.{IsOwner}
use Rattle.machine_names.specs.Orders.{name_cmp}
use Rattle.machine_names.specs.declared.names.Kind.TheVariants.{Read, Write}
use Rattle.plain_files.specs.Bytes.{most_bytes}
use Rattle.plain_files.specs.OpenFiles.{OpenFile}
use Rattle.plain_pages.specs.PlainPages.{NamedPages}
use Rattle.plain_pages.specs.References.{granted, in_file, reference, slot_at, stored, word_at}
use Rattle.plain_pages.specs.WholePages.{AreWhole}
use Rattle.plain_pages.proofs.ReferencesMade.{reference_whole}
use Rattle.plain_units.specs.declared.channel.TheConstants.{END_OF_FILE}
use Rattle.plain_units.specs.declared.registers.Regs.{Regs}
use Rattle.plain_units.specs.Deeds.{in_ac}
use Rattle.plain_units.specs.Steps.{Ending, begun}
use Rattle.script_texts.specs.declared.status.ForkStatus.TheVariants.{Wait}
use Rattle.script_texts.specs.declared.status.WaitOn.TheVariants as on
use Rattle.plain_model.specs.declared.call.TheConstants.{PSOUT, SIN, SOUT, TERMINAL_INPUT, TERMINAL_OUTPUT, BAD_POSITION, NOT_OPEN}
use Rattle.plain_model.specs.declared.call.End.TheVariants.{Done, Refused}
use Rattle.plain_model.specs.declared.call.ByteChange.{ByteChange}
use Rattle.plain_model.specs.declared.call.ByteChange.TheVariants.{Move, Nothing, Put, Take}
use Rattle.plain_model.specs.declared.fork.Fork.{Fork}
use Rattle.plain_model.specs.ByteCalls.{ByteTurn, by_number, byte_changed, byte_offset, byte_page, byte_pointer, if_written, input_at, jfn_open, page_in}
use Rattle.plain_model.specs.Calls.{Turn, behind_call, ends, given, no_files, reads, returning, takes, touches, turn_on, with_ac}
use Rattle.plain_model.specs.Families.{Turned, bytes_changed}
use Rattle.plain_model.specs.Forks.{with_regs, with_status}
use Rattle.plain_model.specs.Interrupts.{posted}
use Rattle.plain_model.specs.MapCalls.{file_spot, is_read, is_written}
use Rattle.plain_model.specs.PointedTexts.{address_steps, byte_at}
use Rattle.plain_model.specs.Readings.{with_reading, word_steps}
use Rattle.plain_model.specs.State.{PlainState}
use Rattle.plain_model.specs.StringCalls.{at_end, behind_byte, deposit_steps, if_written_too, prints_byte, prints_next, puts_byte, takes_character, takes_from, takes_next, with_next}
use Rattle.plain_model.specs.Unit.{parts_of}
use Rattle.plain_laws.specs.ByteLaws.{behind_first_return, byte_of, end_of, page_of_jfn}
use Rattle.plain_laws.specs.JfnLaws.{Lives, NamesJfn, jfn_named, turn_of}
use Rattle.plain_laws.specs.StringLaws.{IsInSpace, IsOfString, ReadsNext, TakesNext, TakesNextCharacter, WritesNext, address_of, byte_pointed, next_of, offset_pointed, spot_pointed, with_byte_pointed}
use Rattle.plain_laws.specs.Whole.{IsWholeMachine}
use Rattle.plain_laws.proofs.ByteTurns.{asked, by_file, done_so, goes_on, has_room, is_ended, left_by, left_of, not_ended, posted_so, printed_so, put_so, sight, waits_so}
use Rattle.plain_laws.proofs.Copying.{page_made, words_stay}
use Rattle.plain_laws.proofs.ReadTurns.{reads_on, takes_on, told}
use Rattle.plain_laws.proofs.StringSteps.{addressed, byte_written, ended_storing, ended_with, reads_at, word_read, writes_at}

-- a byte is read where a pointer names a page that is there
pub next_read : (s : PlainState) (f : Fork) (n : ℕ) (q : NamedPages) → IsInSpace f (next_of f n) → reference s.pages (spot_pointed f (next_of f n)) Read f.name.tty ≡ granted q → ReadsNext s f n (byte_pointed q f (next_of f n)) q
unfolding with_reading turn_on
next_read s f n q place grants =
    let regs = f.body.regs in
    let p = next_of f n in
    let a = address_of f p in
    let there = page_made nat_list_cmp_total f.name.tty s.pages q (slot_at f.name a) Read grants in
    takes_on no_files s.pages f.name regs (address_steps regs p) (λ e. takes f.name regs (word_steps regs (slice_index e.regs.ac 0)) tells) (begun s.pages regs.ac) (ended_with regs a) (addressed f.name regs p s.pages place.0)
    ∙ takes_on no_files s.pages f.name regs (word_steps regs a) tells (reads_at f.name regs a place.1 s.pages q there.0 grants there.1) (ended_with regs (word_at q (spot_pointed f p) (offset_pointed f p))) (word_read f.name regs a place.1 s.pages q there.0 grants there.1)
  where
    tells : Ending → Turn ⊥ ℕ
    tells e = ends (told f.body.regs (loaded (next_of f n) (slice_index e.regs.ac 0)))

module _ (s : PlainState) (f : Fork) (lives : Lives s f) where
  -- a byte is deposited into the string
  module _ (place : IsInSpace f (next_of f 2)) (w : IsWholeMachine s) (own : IsOwner f.name.tty) (q r : NamedPages)
      (reading : reference s.pages (spot_pointed f (next_of f 2)) Read f.name.tty ≡ granted q) (writing : reference q (spot_pointed f (next_of f 2)) Write f.name.tty ≡ granted r) (change : ByteChange) (byte : ℕ) where
    abbrev pointer : ℕ
    pointer = next_of f 2

    abbrev regs_then : Regs
    regs_then = behind_byte f.body.regs pointer byte

    abbrev word_before : NamedPages → ℕ
    word_before x = word_at x (spot_pointed f pointer) (offset_pointed f pointer)

    deposit_comes : turn_on (sight s f lives) s.pages (takes_next (asked s f lives) change byte) ≡ record { end = Done change regs_then None None; pages = with_byte_pointed r f pointer byte }
    unfolding turn_on
    deposit_comes =
        let regs = f.body.regs in
        let a = address_of f pointer in
        let there = page_made nat_list_cmp_total f.name.tty s.pages q (slot_at f.name a) Read reading in
        takes_on (sight s f lives) s.pages f.name regs (address_steps regs pointer) (λ e. takes f.name regs (deposit_steps regs_then pointer byte (slice_index e.regs.ac 0)) done_by) (begun s.pages regs.ac) (ended_with regs a) (addressed f.name regs pointer s.pages place.0)
        ∙ takes_on (sight s f lives) s.pages f.name regs (deposit_steps regs_then pointer byte a) done_by (writes_at f.name regs a place.1 s.pages q there.0 reading there.1 r writing regs_then pointer byte)
        (ended_storing regs_then a (deposited pointer (word_before q) byte)) (byte_written f.name regs a place.1 s.pages q there.0 reading there.1 r writing regs_then pointer byte)
        ∙ ap (λ (ws : List ℕ). record { end = Done change regs_then None None; pages = stored r (spot_pointed f pointer) (offset_pointed f pointer) (deposited pointer (slice_index ws (offset_pointed f pointer)) byte) })
        (sym (words_stay nat_list_cmp_total f.name.tty own q r whole (slot_at f.name a) Write writing))
      where
        done_by : Ending → ByteTurn
        done_by e = ends (Done change e.regs None None)

        whole : AreWhole q
        whole = reference_whole nat_list_cmp_total f.name.tty (spot_pointed f (next_of f 2)) Read own s.pages q w.pages reading

    deposit_so : left_of s f lives (takes_next (asked s f lives) change byte) ≡ record { parts = bytes_changed (λ name. name) change (record (parts_of s) { pages = with_byte_pointed r f pointer byte }); caller = Some (with_regs f regs_then); out = None }
    deposit_so = ap (left_by s f lives) deposit_comes ∙ done_so s f lives change regs_then (with_byte_pointed r f pointer byte)

  -- a string's byte, read, goes on
  next_goes : (n byte : ℕ) (q : NamedPages) → ReadsNext s f n byte q → (next : ℕ → ByteTurn) → left_of s f lives (with_reading f.name f.body.regs (byte_at f.body.regs (next_of f n)) next) ≡ left_by s f lives (turn_on (sight s f lives) q (next byte))
  next_goes n byte q found next = ap (left_by s f lives) (reads_on (sight s f lives) f.name f.body.regs next (byte_at f.body.regs (next_of f n)) s.pages byte q found)

  is_zero : (k n : ℕ) → k ≡ n → (k == n) ≡ true
  is_zero k n h = grind (arith, nat_tests)

  is_not : (k n : ℕ) → k ≢ n → (k == n) ≡ false
  is_not k n h = grind (arith, nat_tests)

  -- PSOUT
  abbrev psout_by : NamedPages → ℕ → Bool → Turned name_cmp
  psout_by q byte b = left_by s f lives (turn_on (sight s f lives) q (ends (cond b (returning Nothing f.body.regs) (Done Nothing (with_ac f.body.regs 1 (next_of f 1)) (Some (byte % 128)) None))))

  pub psout_prints : (byte : ℕ) (q : NamedPages) → ReadsNext s f 1 byte q → byte ≢ 0
      → turn_of s f PSOUT ≡ record { parts = record (parts_of s) { pages = q }; caller = Some (with_regs f (with_ac f.body.regs 1 (next_of f 1))); out = Some (byte % 128) }
  unfolding turn_on byte_changed
  psout_prints byte q found some =
      next_goes 1 byte q found (λ x. ends (prints_next (asked s f lives) (next_of f 1) x)) ∙ ap (psout_by q byte) (is_not byte 0 some)
      ∙ printed_so s f lives Nothing (with_ac f.body.regs 1 (next_of f 1)) (Some (byte % 128)) q

  pub psout_ends : (q : NamedPages) → ReadsNext s f 1 0 q → turn_of s f PSOUT ≡ record { parts = record (parts_of s) { pages = q }; caller = Some (behind_first_return f f.body.regs); out = None }
  unfolding turn_on byte_changed
  psout_ends q found = next_goes 1 0 q found (λ x. ends (prints_next (asked s f lives) (next_of f 1) x)) ∙ done_so s f lives Nothing (behind_call f.body.regs) q

  -- a byte that is of the string, or ends it
  no_end : (c byte : ℕ) → (c ≢ 0) ⊎ (byte ≢ 0) → ((c == 0) && (byte == 0)) ≡ false
  no_end c byte (inl some) = ap (λ b. b && (byte == 0)) (is_not c 0 some)
  no_end c byte (inr some) = ap (λ b. (c == 0) && b) (is_not byte 0 some) ∙ both (c == 0)
    where
      both : (b : Bool) → (b && false) ≡ false
      both true = refl
      both false = refl

  an_end : (c byte : ℕ) → c ≡ 0 → byte ≡ 0 → ((c == 0) && (byte == 0)) ≡ true
  an_end c byte none zero = ap (λ b. b && (byte == 0)) (is_zero c 0 none) ∙ is_zero byte 0 zero

  -- SOUT goes on with a byte of its string
  abbrev goes_on_by : NamedPages → ByteTurn → Bool → Turned name_cmp
  goes_on_by q turn b = left_by s f lives (turn_on (sight s f lives) q (cond b (ends (returning Nothing f.body.regs)) turn))

  of_string : (byte : ℕ) (q : NamedPages) → ReadsNext s f 2 byte q → IsOfString f byte → (turn : ℕ → ℕ → ByteTurn) → left_of s f lives (with_next (asked s f lives) (λ p x. if_written_too (asked s f lives) x (turn p x))) ≡ left_by s f lives (turn_on (sight s f lives) q (turn (next_of f 2) byte))
  of_string byte q found some turn =
      next_goes 2 byte q found (λ x. if_written_too (asked s f lives) x (turn (next_of f 2) x)) ∙ ap (goes_on_by q (turn (next_of f 2) byte)) (no_end (in_ac f.body.regs 3) byte some)

  ends_string : (q : NamedPages) → ReadsNext s f 2 0 q → in_ac f.body.regs 3 ≡ 0 → (turn : ℕ → ℕ → ByteTurn)
      → left_of s f lives (with_next (asked s f lives) (λ p x. if_written_too (asked s f lives) x (turn p x))) ≡ record { parts = record (parts_of s) { pages = q }; caller = Some (behind_first_return f f.body.regs); out = None }
  unfolding turn_on byte_changed
  ends_string q found none turn =
      next_goes 2 0 q found (λ x. if_written_too (asked s f lives) x (turn (next_of f 2) x)) ∙ ap (goes_on_by q (turn (next_of f 2) 0)) (an_end (in_ac f.body.regs 3) 0 none refl)
      ∙ done_so s f lives Nothing (behind_call f.body.regs) q

  -- to the terminal
  abbrev at_terminal : ℕ → ByteTurn
  at_terminal n = by_number n (ends (Refused NOT_OPEN)) (with_next (asked s f lives) (prints_byte (asked s f lives))) (given (jfn_open is_written (asked s f lives)) (λ j.
      if nat_lt j.at (most_bytes j.size) then with_next (asked s f lives) (puts_byte (asked s f lives) j) else ends (Refused BAD_POSITION)))

  pub sout_prints : (byte : ℕ) (q : NamedPages) → jfn_named f ≡ TERMINAL_OUTPUT → ReadsNext s f 2 byte q → IsOfString f byte
      → turn_of s f SOUT ≡ record { parts = record (parts_of s) { pages = q }; caller = Some (with_regs f (behind_byte f.body.regs (next_of f 2) byte)); out = Some (byte % 128) }
  unfolding turn_on byte_changed
  sout_prints byte q named found some =
      ap (λ n. left_of s f lives (at_terminal n)) named ∙ of_string byte q found some (λ p x. ends (Done Nothing (behind_byte f.body.regs p x) (Some (x % 128)) None))
      ∙ printed_so s f lives Nothing (behind_byte f.body.regs (next_of f 2) byte) (Some (byte % 128)) q

  pub sout_printed : (q : NamedPages) → jfn_named f ≡ TERMINAL_OUTPUT → ReadsNext s f 2 0 q → in_ac f.body.regs 3 ≡ 0 → turn_of s f SOUT ≡ record { parts = record (parts_of s) { pages = q }; caller = Some (behind_first_return f f.body.regs); out = None }
  sout_printed q named found none = ap (λ n. left_of s f lives (at_terminal n)) named ∙ ends_string q found none (λ p x. ends (Done Nothing (behind_byte f.body.regs p x) (Some (x % 128)) None))

  -- to a file
  module _ (w : IsWholeMachine s) (j : OpenFile) (held : NamesJfn s f j) where
    abbrev puts_next : ℕ → ℕ → ByteTurn
    puts_next p byte = touches f.name.tty (file_spot j (byte_page j)) Write (λ what. ends (if_written (Done (Put f.name.tty (jfn_named f) byte) (behind_byte f.body.regs p byte) None None) what))

    sout_writes : is_written j ≡ true → j.at < most_bytes j.size → turn_of s f SOUT ≡ left_of s f lives (with_next (asked s f lives) (puts_byte (asked s f lives) j))
    sout_writes ready room =
        ap (left_of s f lives) (by_file s f lives w j held (ends (Refused NOT_OPEN)) (with_next (asked s f lives) (prints_byte (asked s f lives))) (given (jfn_open is_written (asked s f lives)) writes_to) ∙ goes_on s f lives w j held is_written writes_to ready)
        ∙ ap (λ b. left_of s f lives (cond b (with_next (asked s f lives) (puts_byte (asked s f lives) j)) (ends (Refused BAD_POSITION)))) (has_room s f lives w j held (most_bytes j.size) j.at room)
      where
        writes_to : OpenFile → ByteTurn
        writes_to i = if nat_lt i.at (most_bytes i.size) then with_next (asked s f lives) (puts_byte (asked s f lives) i) else ends (Refused BAD_POSITION)

    pub sout_puts : (byte : ℕ) (q r : NamedPages) → is_written j ≡ true → j.at < most_bytes j.size → ReadsNext s f 2 byte q → IsOfString f byte → reference q (in_file (page_of_jfn j)) Write f.name.tty ≡ granted r → WritesNext s f j byte r
    sout_puts byte q r ready room found some grants = sout_writes ready room ∙ of_string byte q found some puts_next ∙ put_so s f lives w j held byte (behind_byte f.body.regs (next_of f 2) byte) q r grants

    pub sout_ends : (q : NamedPages) → is_written j ≡ true → j.at < most_bytes j.size → ReadsNext s f 2 0 q → in_ac f.body.regs 3 ≡ 0 → turn_of s f SOUT ≡ record { parts = record (parts_of s) { pages = q }; caller = Some (behind_first_return f f.body.regs); out = None }
    sout_ends q ready room found none = sout_writes ready room ∙ ends_string q found none puts_next

    -- SIN from a file
    abbrev taking : Bool → ByteTurn
    taking ended = cond ended (ends (at_end (asked s f lives))) (reads (page_in j (byte_page j)) (byte_offset j) (λ x. takes_next (asked s f lives) (Move f.name.tty (jfn_named f) (j.at + 1)) (loaded (byte_pointer j) x)))

    sin_reads : is_read j ≡ true → turn_of s f SIN ≡ left_of s f lives (takes_from (asked s f lives) j)
    sin_reads ready =
        ap (left_of s f lives) (by_file s f lives w j held (takes_character (asked s f lives) (input_at s.jobs f.name.tty)) (ends (Refused NOT_OPEN)) (given (jfn_open is_read (asked s f lives)) (takes_from (asked s f lives)))
        ∙ goes_on s f lives w j held is_read (takes_from (asked s f lives)) ready)

    pub sin_takes : (q r : NamedPages) → IsOwner f.name.tty → is_read j ≡ true → j.at < end_of s j → IsInSpace f (next_of f 2) → reference s.pages (spot_pointed f (next_of f 2)) Read f.name.tty ≡ granted q → reference q (spot_pointed f (next_of f 2)) Write f.name.tty ≡ granted r
        → TakesNext s f j (byte_of s.pages j) r
    unfolding turn_on byte_changed
    sin_takes q r own ready before place reading writing =
        sin_reads ready ∙ ap (λ b. left_of s f lives (taking b)) (not_ended s f lives w j held (end_of s j) j.at before)
        ∙ deposit_so place w own q r reading writing (Move f.name.tty (jfn_named f) (j.at + 1)) (byte_of s.pages j)

    pub sin_ends : is_read j ≡ true → end_of s j ≤ j.at → turn_of s f SIN ≡ record { parts = parts_of s; caller = Some (posted (behind_first_return f f.body.regs) END_OF_FILE); out = None }
    unfolding turn_on
    sin_ends ready ended = sin_reads ready ∙ ap (λ b. left_of s f lives (taking b)) (is_ended s f lives w j held (end_of s j) j.at ended) ∙ posted_so s f lives (behind_call f.body.regs) END_OF_FILE

  -- SIN from the terminal
  abbrev from_terminal : ℕ → List ℕ → ByteTurn
  from_terminal n input = by_number n (takes_character (asked s f lives) input) (ends (Refused NOT_OPEN)) (given (jfn_open is_read (asked s f lives)) (takes_from (asked s f lives)))

  pub sin_takes_character : (c : ℕ) (cs : List ℕ) (q r : NamedPages) → IsWholeMachine s → IsOwner f.name.tty → jfn_named f ≡ TERMINAL_INPUT → input_at s.jobs f.name.tty ≡ c ∷ cs → IsInSpace f (next_of f 2)
      → reference s.pages (spot_pointed f (next_of f 2)) Read f.name.tty ≡ granted q → reference q (spot_pointed f (next_of f 2)) Write f.name.tty ≡ granted r → TakesNextCharacter s f c r
  unfolding byte_changed
  sin_takes_character c cs q r w own named is place reading writing =
      ap (λ n. left_of s f lives (from_terminal n (input_at s.jobs f.name.tty))) named ∙ ap (λ input. left_of s f lives (from_terminal TERMINAL_INPUT input)) is
      ∙ deposit_so place w own q r reading writing (Take f.name.tty) c

  pub sin_waits : jfn_named f ≡ TERMINAL_INPUT → input_at s.jobs f.name.tty ≡ [] → turn_of s f SIN ≡ record { parts = parts_of s; caller = Some (with_status f (Wait on.Input)); out = None }
  unfolding turn_on
  sin_waits named is =
      ap (λ n. left_of s f lives (from_terminal n (input_at s.jobs f.name.tty))) named ∙ ap (λ input. left_of s f lives (from_terminal TERMINAL_INPUT input)) is ∙ waits_so s f lives
