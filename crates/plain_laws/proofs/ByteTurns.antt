-- What the turns of the calls on bytes come to.
use Rattle.std.proofs.Common.{◌≡◌, ◌≢◌, ℕ, ◌+◌, ◌<◌, ◌≤◌, Bool, true, false, cond, List, [], ◌∷◌, length, Option, None, Some, Ok, Err, refl, ◌∙◌, ap, arith}
use Rattle.std.specs.Prelude.{◌==◌, is_some, nat_le, nat_lt, if◌then◌else◌}
use Rattle.std.specs.Option.{option_map, option_map_or, unwrap_or}
use Rattle.std.specs.FinMap as map
use Rattle.std.specs.FinMap.{nat_cmp-IsAntisymmetric}
use Rattle.std.specs.Cmp.{nat_cmp_total}
use Rattle.std.proofs.lemmas.Bool.Decides.{nat_tests}
use Rattle.machine_names.proofs.Keys.{get_put}
use Rattle.machine_names.specs.declared.names.Tty.{Tty}
use Rattle.machine_names.specs.declared.names.Kind.TheVariants.{Write}
use Rattle.machine_names.specs.Orders.{name_cmp}
use Rattle.plain_files.specs.declared.bounds.TheConstants.{MOST_JFNS}
use Rattle.plain_files.specs.Bytes.{most_bytes}
use Rattle.plain_files.specs.OpenFiles.{OpenFile}
use Rattle.plain_files.specs.Sizes.{PlainFile, new_file}
use Rattle.plain_pages.specs.FilePages.{names_of_file}
use Rattle.plain_pages.specs.PlainPages.{NamedPages}
use Rattle.plain_pages.specs.References.{Referred, granted, in_file, reference}
use Rattle.plain_units.specs.declared.channel.TheConstants.{END_OF_FILE}
use Rattle.plain_units.specs.declared.registers.Regs.{Regs}
use Rattle.plain_units.specs.Deeds.{in_ac, skip_pc}
use Rattle.script_texts.specs.declared.status.ForkStatus.TheVariants.{Wait}
use Rattle.script_texts.specs.declared.status.WaitOn.TheVariants as on
use Rattle.plain_model.specs.declared.call.TheConstants.{BIN, BOUT, PBIN, RFPTR, SFPTR, SIZEF, TERMINAL_INPUT, TERMINAL_OUTPUT, NO_JFN, NOT_OPEN, BAD_POSITION}
use Rattle.plain_model.specs.declared.call.End.{End}
use Rattle.plain_model.specs.declared.call.End.TheVariants.{Done, Waits, Refused, Failed}
use Rattle.plain_model.specs.declared.call.ByteChange.{ByteChange}
use Rattle.plain_model.specs.declared.call.ByteChange.TheVariants.{Nothing, Take, Move, Put}
use Rattle.plain_model.specs.declared.fork.Fork.{Fork}
use Rattle.plain_model.specs.ByteCalls.{ByteAsked, ByteTurn, at_end, behind_first, byte_changed, byte_offset, byte_page, file_for, files_reaching, given_or_fails, if_written, input_at, is_open, jfn_held, jfn_open, moving, next_byte, next_character, page_in, position_in, prints_byte, put_byte, takes_byte, with_input, with_position, written}
use Rattle.plain_model.specs.Calls.{Came, Sight, and_then, behind_call, ends, fork_behind, given, parts_behind, reads, touched, touches, turn_on, with_ac}
use Rattle.plain_model.specs.Families.{Turned, asks_bytes, behind, bytes_changed, files_seen}
use Rattle.plain_model.specs.FileCalls.{Jobs, skipping}
use Rattle.plain_model.specs.Forks.{with_regs, with_status}
use Rattle.plain_model.specs.Interrupts.{posted}
use Rattle.plain_model.specs.MapCalls.{ALL_ONES, file_spot, is_read, is_written}
use Rattle.plain_model.specs.State.{PlainJob, PlainState}
use Rattle.plain_model.specs.Unit.{parts_of}
use Rattle.plain_model.proofs.Calling.{filed_of, with_filed}
use Rattle.plain_laws.specs.ByteLaws.{ReadsByte, TakesCharacter, Writes, behind_first_return, byte_of, end_of, page_of_jfn, with_byte}
use Rattle.plain_laws.specs.JfnLaws.{Lives, NamesJfn, behind_second, jfn_named, turn_of, with_jfns}
use Rattle.plain_laws.specs.Whole.{IsWholeMachine}
use Rattle.plain_laws.proofs.WholeJfns.{file_of_held}

module _ (s : PlainState) (f : Fork) (lives : Lives s f) where
  abbrev pub asked : ByteAsked
  asked = asks_bytes (λ name. name) (parts_of s) f.name f.body.regs

  abbrev pub sight : Sight (List ℕ) (List ℕ)
  sight = files_seen (λ name. name) (parts_of s) f.name

  abbrev pub left_by : Came name_cmp ByteChange → Turned name_cmp
  left_by c = behind (bytes_changed (λ name. name)) (parts_of s) f.name c

  abbrev pub left_of : ByteTurn → Turned name_cmp
  left_of t = left_by (turn_on sight s.pages t)

  -- what is done, and what is printed
  pub printed_so : (change : ByteChange) (regs : Regs) (out : Option ℕ) (q : NamedPages) → left_by (record { end = Done change regs out None; pages = q }) ≡ record { parts = bytes_changed (λ name. name) change (record (parts_of s) { pages = q }); caller = Some (with_regs f regs); out = out }
  unfolding parts_behind fork_behind
  printed_so change regs out q = ap (λ (o : Option Fork). record { parts = bytes_changed (λ name. name) change (record (parts_of s) { pages = q }); caller = option_map (λ g. with_regs g regs) o; out = out }) lives

  pub done_so : (change : ByteChange) (regs : Regs) (q : NamedPages) → left_by (record { end = Done change regs None None; pages = q }) ≡ record { parts = bytes_changed (λ name. name) change (record (parts_of s) { pages = q }); caller = Some (with_regs f regs); out = None }
  done_so change regs q = printed_so change regs None q

  -- what is done with a channel posted
  pub posted_so : (regs : Regs) (channel : ℕ) → left_by (record { end = Done Nothing regs None (Some channel); pages = s.pages }) ≡ record { parts = parts_of s; caller = Some (posted (with_regs f regs) channel); out = None }
  unfolding parts_behind fork_behind byte_changed
  posted_so regs channel = ap (λ (o : Option Fork). record { parts = parts_of s; caller = option_map (λ g. posted (with_regs g regs) channel) o; out = None }) lives

  -- and what waits
  pub waits_so : left_by (record { end = Waits on.Input; pages = s.pages }) ≡ record { parts = parts_of s; caller = Some (with_status f (Wait on.Input)); out = None }
  unfolding parts_behind fork_behind
  waits_so = ap (λ (o : Option Fork). record { parts = parts_of s; caller = option_map (λ g. with_status g (Wait on.Input)) o; out = None }) lives

  -- the next character
  abbrev takes : ℕ → List ℕ → Turned name_cmp
  takes ac input = left_by (record { end = next_character asked ac input; pages = s.pages })

  takes_so : (ac c : ℕ) (cs : List ℕ) → input_at s.jobs f.name.tty ≡ c ∷ cs
      → takes ac (input_at s.jobs f.name.tty) ≡ record { parts = record (parts_of s) { jobs = with_input s.jobs f.name.tty behind_first }; caller = Some (behind_first_return f (with_ac f.body.regs ac c)); out = None }
  unfolding byte_changed
  takes_so ac c cs is = ap (takes ac) is ∙ done_so (Take f.name.tty) (behind_call (with_ac f.body.regs ac c)) s.pages

  none_so : (ac : ℕ) → input_at s.jobs f.name.tty ≡ [] → takes ac (input_at s.jobs f.name.tty) ≡ record { parts = parts_of s; caller = Some (with_status f (Wait on.Input)); out = None }
  none_so ac is = ap (takes ac) is ∙ waits_so

  pub pbin_so : (c : ℕ) (cs : List ℕ) → input_at s.jobs f.name.tty ≡ c ∷ cs → TakesCharacter s f PBIN 1 c
  unfolding turn_on
  pbin_so c cs is = takes_so 1 c cs is

  pub pbin_waits : input_at s.jobs f.name.tty ≡ [] → turn_of s f PBIN ≡ record { parts = parts_of s; caller = Some (with_status f (Wait on.Input)); out = None }
  unfolding turn_on
  pbin_waits is = none_so 1 is

  abbrev bin_by : ℕ → ByteTurn
  bin_by n = cond (n == TERMINAL_INPUT) (ends (next_character asked 2 asked.input)) (cond (n == TERMINAL_OUTPUT) (ends (Refused NOT_OPEN)) (given (jfn_open is_read asked) (next_byte asked)))

  pub bin_so : (c : ℕ) (cs : List ℕ) → jfn_named f ≡ TERMINAL_INPUT → input_at s.jobs f.name.tty ≡ c ∷ cs → TakesCharacter s f BIN 2 c
  unfolding turn_on
  bin_so c cs named is = ap (λ n. left_of (bin_by n)) named ∙ takes_so 2 c cs is

  pub bin_waits : jfn_named f ≡ TERMINAL_INPUT → input_at s.jobs f.name.tty ≡ [] → turn_of s f BIN ≡ record { parts = parts_of s; caller = Some (with_status f (Wait on.Input)); out = None }
  unfolding turn_on
  bin_waits named is = ap (λ n. left_of (bin_by n)) named ∙ none_so 2 is

  module _ (w : IsWholeMachine s) (j : OpenFile) (held : NamesJfn s f j) where
    low : jfn_named f ≤ MOST_JFNS
    low = (file_of_held s w f.name.tty (jfn_named f) j held).1

    -- no JFN of a job has the number of the terminal's input or output
    none_of : (k n : ℕ) → n ≤ MOST_JFNS → MOST_JFNS < k → (n == k) ≡ false
    none_of k n few past = grind (arith, nat_tests)

    -- a call by the number of a JFN that is held
    pub by_file : (input output file : ByteTurn) → cond (jfn_named f == TERMINAL_INPUT) input (cond (jfn_named f == TERMINAL_OUTPUT) output file) ≡ file
    by_file input output file =
        ap (λ b. cond b input (cond (jfn_named f == TERMINAL_OUTPUT) output file)) (none_of TERMINAL_INPUT (jfn_named f) low (omega arith))
        ∙ ap (λ b. cond b output file) (none_of TERMINAL_OUTPUT (jfn_named f) low (omega arith))

    -- and whose file is open
    pub goes_on : (is_so : OpenFile → Bool) (next : OpenFile → ByteTurn) → is_so j ≡ true → given (jfn_open is_so asked) next ≡ next j
    goes_on is_so next ready = ap (λ (o : Option OpenFile). given (and_then (option_map_or Ok o (Err NO_JFN)) (λ j. if is_so j then Ok j else Err NOT_OPEN)) next) held ∙ ap (λ b. given (cond b (Ok j) (Err NOT_OPEN)) next) ready

    bin_reads : is_read j ≡ true → turn_of s f BIN ≡ left_of (next_byte asked j)
    bin_reads ready = ap left_of (by_file (ends (next_character asked 2 asked.input)) (ends (Refused NOT_OPEN)) (given (jfn_open is_read asked) (next_byte asked)) ∙ goes_on is_read (next_byte asked) ready)

    abbrev next_of : Bool → ByteTurn
    next_of ended = cond ended (ends (at_end asked)) (reads (page_in j (byte_page j)) (byte_offset j) (λ x. ends (takes_byte asked j x)))

    pub not_ended : (k n : ℕ) → n < k → nat_le k n ≡ false
    not_ended k n less = grind (arith, nat_tests)

    pub is_ended : (k n : ℕ) → k ≤ n → nat_le k n ≡ true
    is_ended k n most = grind (arith, nat_tests)

    pub read_so : is_read j ≡ true → j.at < end_of s j → ReadsByte s f j (byte_of s.pages j)
    unfolding turn_on byte_changed
    read_so ready before =
        bin_reads ready ∙ ap (λ b. left_of (next_of b)) (not_ended (end_of s j) j.at before)
        ∙ done_so (Move f.name.tty (jfn_named f) (j.at + 1)) (behind_call (with_ac f.body.regs 2 (byte_of s.pages j))) s.pages

    pub end_so : is_read j ≡ true → end_of s j ≤ j.at → turn_of s f BIN ≡ record { parts = parts_of s; caller = Some (posted (behind_first_return f (with_ac f.body.regs 2 0)) END_OF_FILE); out = None }
    unfolding turn_on
    end_so ready ended =
        bin_reads ready ∙ ap (λ b. left_of (next_of b)) (is_ended (end_of s j) j.at ended)
        ∙ posted_so (behind_call (with_ac f.body.regs 2 0)) END_OF_FILE

    bout_writes : is_written j ≡ true → turn_of s f BOUT ≡ left_of (put_byte asked j)
    bout_writes ready = ap left_of (by_file (ends (Refused NOT_OPEN)) (ends (prints_byte asked)) (given (jfn_open is_written asked) (put_byte asked)) ∙ goes_on is_written (put_byte asked) ready)

    -- a byte is put at a JFN, with these registers then
    abbrev puts : ℕ → Regs → ByteTurn
    puts byte regs = touches f.name.tty (file_spot j (byte_page j)) Write (λ what. ends (if_written (Done (Put f.name.tty (jfn_named f) byte) regs None None) what))

    pub put_so : (byte : ℕ) (regs : Regs) (p q : NamedPages) → reference p (in_file (page_of_jfn j)) Write f.name.tty ≡ granted q → left_by (turn_on sight p (puts byte regs)) ≡ record {
      parts = record (with_jfns s f (with_position (jfn_named f) (j.at + 1))) { pages = with_byte q j byte; files = files_reaching s.files j.file j.size (j.at + 1) };
      caller = Some (with_regs f regs);
      out = None;
    }
    unfolding turn_on byte_changed
    put_so byte regs p q grants =
        ap (λ (r : Referred name_cmp). left_by (touched p r (λ x what. turn_on sight x (ends (if_written (Done (Put f.name.tty (jfn_named f) byte) regs None None) what))))) grants
        ∙ done_so (Put f.name.tty (jfn_named f) byte) regs q
        ∙ ap (λ (o : Option OpenFile). record {
          parts = with_filed (parts_of s) (option_map_or (written (λ name. name) (record (filed_of (parts_of s)) { pages = q }) f.name.tty (jfn_named f) byte) o (record (filed_of (parts_of s)) { pages = q }));
          caller = Some (with_regs f regs);
          out = None;
        }) held

    abbrev put_by : Bool → ByteTurn
    put_by room = cond room (puts (in_ac f.body.regs 2) (behind_call f.body.regs)) (ends (Refused BAD_POSITION))

    pub has_room : (k n : ℕ) → n < k → nat_lt n k ≡ true
    has_room k n less = grind (arith, nat_tests)

    pub write_so : (q : NamedPages) → is_written j ≡ true → j.at < most_bytes j.size → reference s.pages (in_file (page_of_jfn j)) Write f.name.tty ≡ granted q → Writes s f j q
    write_so q ready room grants =
        bout_writes ready ∙ ap (λ b. left_of (put_by b)) (has_room (most_bytes j.size) j.at room)
        ∙ put_so (in_ac f.body.regs 2) (behind_call f.body.regs) s.pages q grants

-- SFPTR, RFPTR and SIZEF
module _ (s : PlainState) (f : Fork) (lives : Lives s f) (j : OpenFile) (held : NamesJfn s f j) where
  abbrev jfn_asked : ByteAsked
  jfn_asked = asks_bytes (λ name. name) (parts_of s) f.name f.body.regs

  abbrev left_so : ByteTurn → Turned name_cmp
  left_so t = behind (bytes_changed (λ name. name)) (parts_of s) f.name (turn_on (files_seen (λ name. name) (parts_of s) f.name) s.pages t)

  -- a call of a JFN that is held goes on with what it stands for
  held_so : (next : OpenFile → End ByteChange) → given_or_fails (jfn_held jfn_asked) next ≡ ends (next j)
  held_so next = ap (λ (o : Option OpenFile). given_or_fails (option_map_or Ok o (Err NO_JFN)) next) held

  open_held : is_open j ≡ true → (next : OpenFile → End ByteChange) → given_or_fails (jfn_open is_open jfn_asked) next ≡ ends (next j)
  open_held ready next = ap (λ (o : Option OpenFile). given_or_fails (and_then (option_map_or Ok o (Err NO_JFN)) (λ j. if is_open j then Ok j else Err NOT_OPEN)) next) held ∙ ap (λ b. given_or_fails (cond b (Ok j) (Err NOT_OPEN)) next) ready

  -- it changes nothing but the fork that called
  tells_so : (regs : Regs) → left_so (ends (skipping Nothing regs)) ≡ record { parts = parts_of s; caller = Some (behind_second f regs); out = None }
  unfolding turn_on byte_changed
  tells_so regs = done_so s f lives Nothing (record regs { pc = skip_pc regs }) s.pages

  moves_so : (at : ℕ) → at ≤ most_bytes j.size → left_so (ends (moving jfn_asked j at)) ≡ record { parts = with_jfns s f (with_position (jfn_named f) at); caller = Some (behind_second f f.body.regs); out = None }
  unfolding turn_on byte_changed
  moves_so at room =
      ap (λ b. left_so (ends (cond b (skipping (Move f.name.tty (jfn_named f) at) f.body.regs) (Failed BAD_POSITION)))) (few at (most_bytes j.size) room)
      ∙ done_so s f lives (Move f.name.tty (jfn_named f) at) (record f.body.regs { pc = skip_pc f.body.regs }) s.pages
    where
      few : (k m : ℕ) → k ≤ m → nat_le k m ≡ true
      few k m h = grind (arith, nat_tests)

  abbrev wanted : ℕ
  wanted = in_ac f.body.regs 2

  abbrev goes : Bool → ByteTurn
  goes ones = ends (moving jfn_asked j (cond ones (end_of s j) wanted))

  pub sfptr_so : is_open j ≡ true → wanted ≢ ALL_ONES → wanted ≤ most_bytes j.size → turn_of s f SFPTR ≡ record { parts = with_jfns s f (with_position (jfn_named f) wanted); caller = Some (behind_second f f.body.regs); out = None }
  sfptr_so ready other room = ap left_so (open_held ready (λ k. moving jfn_asked k (position_in jfn_asked k wanted))) ∙ ap (λ b. left_so (goes b)) (no_ones wanted ALL_ONES other) ∙ moves_so wanted room
    where
      no_ones : (k m : ℕ) → k ≢ m → (k == m) ≡ false
      no_ones k m h = grind (arith, nat_tests)

  pub sfptr_end : is_open j ≡ true → wanted ≡ ALL_ONES → end_of s j ≤ most_bytes j.size → turn_of s f SFPTR ≡ record { parts = with_jfns s f (with_position (jfn_named f) (end_of s j)); caller = Some (behind_second f f.body.regs); out = None }
  sfptr_end ready ones room = ap left_so (open_held ready (λ k. moving jfn_asked k (position_in jfn_asked k wanted))) ∙ ap (λ b. left_so (goes b)) (all_ones wanted ALL_ONES ones) ∙ moves_so (end_of s j) room
    where
      all_ones : (k m : ℕ) → k ≡ m → (k == m) ≡ true
      all_ones k m h = grind (arith, nat_tests)

  pub rfptr_so : is_open j ≡ true → turn_of s f RFPTR ≡ record { parts = parts_of s; caller = Some (behind_second f (with_ac f.body.regs 2 j.at)); out = None }
  rfptr_so ready = ap left_so (open_held ready (λ k. skipping Nothing (with_ac f.body.regs 2 k.at))) ∙ tells_so (with_ac f.body.regs 2 j.at)

  pub sizef_so : (g : PlainFile) → map.get s.files j.file ≡ Some g
      → turn_of s f SIZEF ≡ record { parts = parts_of s; caller = Some (behind_second f (with_ac (with_ac f.body.regs 2 g.length) 3 (length (names_of_file s.pages j.file)))); out = None }
  sizef_so g is =
      ap left_so (held_so (λ k. skipping Nothing (with_ac (with_ac f.body.regs 2 (file_for jfn_asked k).length) 3 (jfn_asked.pages k.file))))
      ∙ ap (λ (o : Option PlainFile). left_so (ends (skipping Nothing (with_ac (with_ac f.body.regs 2 (unwrap_or o new_file).length) 3 (cond (is_some o) (length (names_of_file s.pages j.file)) 0))))) is
      ∙ tells_so (with_ac (with_ac f.body.regs 2 g.length) 3 (length (names_of_file s.pages j.file)))

-- the characters behind the oldest are left
pub rest_so : (jobs : Jobs) (t : Tty) (c : ℕ) (cs : List ℕ) → input_at jobs t ≡ c ∷ cs → input_at (with_input jobs t behind_first) t ≡ cs
rest_so jobs t c cs is = by (map.get jobs t.0) refl (is)
  where
    by : (o : Option PlainJob) → map.get jobs t.0 ≡ o → option_map_or (λ j. j.input) o [] ≡ c ∷ cs → input_at (option_map_or (λ j. map.insert jobs t.0 (record j { input = behind_first j.input })) o jobs) t ≡ cs
    by None job h = absurd (cc h)
    by (Some j) job h =
        ap (λ (o : Option PlainJob). option_map_or (λ k. k.input) o []) (get_put nat_cmp_total nat_cmp-IsAntisymmetric jobs t.0 t.0 (record j { input = behind_first j.input }) refl)
        ∙ ap behind_first h
