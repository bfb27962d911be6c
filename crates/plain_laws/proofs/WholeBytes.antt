-- A turn of a call on bytes, or on strings of them, leaves a whole state whole.
use Rattle.std.proofs.Common.{◌≡◌, ℕ, ◌+◌, ◌<◌, ◌≤◌, List, Option, None, Some, inl, refl, sym, ◌∙◌, ap, subst, arith}
use Rattle.std.specs.Prelude.{is_some}
use Rattle.std.specs.Option.{option_map_or, unwrap_or}
use Rattle.std.specs.Cmp.Lexicographic.{nat_list_cmp_total}
use Rattle.std.specs.FinMap as map
use Rattle.word36.specs.Bytes.{deposited}
use Rattle.machine_names.specs.Bounds.{IsOwner}
use Rattle.machine_names.specs.declared.names.Tty.{Tty}
use Rattle.machine_names.specs.declared.names.ForkName.{ForkName}
use Rattle.plain_files.specs.Bytes.{most_bytes}
use Rattle.plain_files.specs.OpenFiles.{OpenFile, moved_file}
use Rattle.plain_files.specs.Sizes.{FitsFile, PlainFile, new_file, reaching}
use Rattle.plain_pages.specs.PlainPages.{NamedPages}
use Rattle.plain_pages.specs.References.{Spot, in_file, word_at}
use Rattle.plain_units.specs.declared.registers.Regs.{Regs}
use Rattle.plain_units.proofs.PageRuns.{stored_kept, stored_maps}
use Rattle.plain_model.specs.declared.call.End.{End}
use Rattle.plain_model.specs.declared.call.End.TheVariants.{Done, Waits, Halts, Refused, Failed, Trap}
use Rattle.plain_model.specs.declared.call.ByteChange.{ByteChange}
use Rattle.plain_model.specs.declared.call.ByteChange.TheVariants.{Nothing, Take, Move, Put}
use Rattle.plain_model.specs.declared.fork.Fork.{Fork}
use Rattle.plain_model.specs.ByteCalls.{ByteAsked, behind_first, byte_calls, byte_changed, byte_offset, byte_page, byte_pointer, files_reaching, pages_put, with_input, with_position, written, ByteTurn}
use Rattle.plain_model.specs.Calls.{numbered, parts_behind}
use Rattle.plain_model.specs.Families.{asks_bytes}
use Rattle.plain_model.specs.FileCalls.{held_at, with_held}
use Rattle.plain_model.specs.MapCalls.{keyed}
use Rattle.plain_model.specs.State.{PlainJob, PlainState}
use Rattle.plain_model.specs.StringCalls.{string_calls}
use Rattle.plain_model.specs.Trees.{next_serial, tree_of}
use Rattle.plain_model.specs.Unit.{parts_of, with_parts}
use Rattle.plain_model.proofs.Calling.{byte_called, byte_came, filed_of, with_filed}
use Rattle.plain_model.proofs.Turns.{KeepsEnd}
use Rattle.plain_laws.specs.Whole.{AreGiven, IsWholeMachine}
use Rattle.plain_laws.specs.WholeFiles.{AreOpen, Files, Jfns}
use Rattle.plain_laws.proofs.ByteEnds.{FitsByte, FitsHeld, FitsTurn, byte_call_in}
use Rattle.plain_laws.proofs.ByteSizes.{length_fits, new_fits, reaching_fits}
use Rattle.plain_laws.proofs.FilesKept.{jfn_put}
use Rattle.plain_laws.proofs.MapEnds.{came_in}
use Rattle.plain_laws.proofs.StringEnds.{string_call_in}
use Rattle.plain_laws.proofs.WholeForks.{filed_whole, job_whole, keeps_whole, sound}
use Rattle.plain_laws.proofs.WholeJfns.{file_of_held, file_whole, held_whole}
use Rattle.plain_laws.proofs.WholeMaps.{After, There, at_first, refers_on, runs_on}

-- a JFN that is moved to a byte that its file has room for fits still
moved_open : (files : Files) (jfns : Jfns) (n at : ℕ) (i : OpenFile) → AreOpen files jfns → map.get jfns n ≡ Some i → at ≤ most_bytes i.size → AreOpen files (with_position n at jfns)
moved_open files jfns n at i fit has room =
    let was = fit n i has in
    subst (λ (o : Option OpenFile). AreOpen files (option_map_or (λ j. map.insert jfns n (moved_file at j)) o jfns)) (sym has) (jfn_put files jfns n (moved_file at i) fit was.0 was.1 (was.2.0, was.2.1, room))

module _ (s : PlainState) (w : IsWholeMachine s) (t : Tty) where
  -- the oldest of the characters is taken
  taken_whole : IsWholeMachine (record s { jobs = with_input s.jobs t behind_first })
  taken_whole = by (map.get s.jobs t.0) refl
    where
      by : (o : Option PlainJob) → map.get s.jobs t.0 ≡ o → IsWholeMachine (record s { jobs = option_map_or (λ j. map.insert s.jobs t.0 (record j { input = behind_first j.input })) o s.jobs })
      by None is = w
      by (Some j) is = job_whole s w t.0 j (record j { input = behind_first j.input }) is refl (w.files.jfns t.0 j is)

  -- a JFN is moved
  moved_whole : (n at : ℕ) (i : OpenFile) → map.get (held_at s.jobs t) n ≡ Some i → at ≤ most_bytes i.size → IsWholeMachine (record s { jobs = with_held s.jobs t (with_position n at) })
  moved_whole n at i held room = held_whole s w t (with_position n at) (λ j is.
      moved_open s.files j.jfns n at i (w.files.jfns t.0 j is) (sym (ap (λ (o : Option PlainJob). map.get (option_map_or (λ k. k.jfns) o map.empty) n) is) ∙ held) room)

-- a byte is written
module _ (s : PlainState) (w : IsWholeMachine s) where
  put_whole : (j : OpenFile) (byte : ℕ) → IsWholeMachine (record s { pages = pages_put (λ name. name) s.pages j byte })
  put_whole j byte =
      let at : Spot (List ℕ) = in_file (keyed (λ name. name) j.file (byte_page j)) in
      let word = deposited (byte_pointer j) (word_at s.pages at (byte_offset j)) byte in
      keeps_whole s w (pages_put (λ name. name) s.pages j byte) (stored_kept s.pages at (byte_offset j) word nat_list_cmp_total (sound s w))
      (subst (AreGiven (next_serial (tree_of s))) (sym (stored_maps s.pages at (byte_offset j) word)) w.given)

  reaching_whole : (name : List ℕ) (size end : ℕ) → ((f : PlainFile) → FitsFile f → FitsFile (reaching size end f)) → IsWholeMachine (record s { files = files_reaching s.files name size end })
  reaching_whole name size end fits = by (map.get s.files name) refl
    where
      by : (o : Option PlainFile) → map.get s.files name ≡ o → IsWholeMachine (record s { files = option_map_or (λ f. map.insert s.files name (reaching size end f)) o s.files })
      by None is = w
      by (Some f) is = let was = w.files.named.named name f is in file_whole s w name (reaching size end f) was.0 (fits f was.1) (inl (ap is_some is))

-- a change of a call on bytes
module _ (s : PlainState) (w : IsWholeMachine s) (who : ForkName) (regs : Regs) where
  abbrev asked : ByteAsked
  asked = asks_bytes (λ name. name) (parts_of s) who regs

  abbrev changed_state : ByteChange → PlainState
  changed_state change = with_parts s (with_filed (parts_of s) (byte_changed (λ name. name) change (filed_of (parts_of s))))

  put_changed : (n byte : ℕ) (j : OpenFile) → map.get (held_at s.jobs who.tty) n ≡ Some j → j.at < most_bytes j.size → IsWholeMachine (changed_state (Put who.tty n byte))
  unfolding byte_changed
  put_changed n byte j held room =
      let was = file_of_held s w who.tty n j held in
      let one : PlainState = record s { pages = pages_put (λ name. name) s.pages j byte } in
      let two : PlainState = record one { files = files_reaching s.files j.file j.size (j.at + 1) } in
      let whole_one : IsWholeMachine one = put_whole s w j byte in
      let whole_two : IsWholeMachine two = reaching_whole one whole_one j.file j.size (j.at + 1) (λ f fits. reaching_fits j.size (j.at + 1) f was.2.1 fits (omega (arith, room))) in
      subst (λ (o : Option OpenFile). IsWholeMachine (with_parts s (with_filed (parts_of s) (option_map_or (written (λ name. name) (filed_of (parts_of s)) who.tty n byte) o (filed_of (parts_of s)))))) (sym held)
      (moved_whole two whole_two who.tty n (j.at + 1) j held (omega (arith, room)))

  change_whole : (change : ByteChange) → FitsByte asked change → IsWholeMachine (changed_state change)
  unfolding byte_changed
  change_whole Nothing fits = w
  change_whole (Take t) fits = taken_whole s w t
  change_whole (Move t n at) fits = subst (λ u. IsWholeMachine (changed_state (Move u n at))) (sym fits.1.0) (moved_whole s w who.tty n at fits.0 fits.1.1 fits.2)
  change_whole (Put t n byte) fits = subst (λ u. IsWholeMachine (changed_state (Put u n byte))) (sym fits.1.0) (put_changed n byte fits.0 fits.1.1 fits.2)

module _ (s : PlainState) (w : IsWholeMachine s) (f : Fork) where
  -- the files of the JFNs of its job fit
  pub held_fits : (n : ℕ) (j : OpenFile) → map.get (held_at s.jobs f.name.tty) n ≡ Some j → FitsHeld (asks_bytes (λ name. name) (parts_of s) f.name f.body.regs) (There s w) j
  held_fits n j held =
      let was = file_of_held s w f.name.tty n j held in
      record { there = was.2.0; is_size = was.2.1; room = length_fits j.size (unwrap_or (map.get s.files j.file) new_file) was.2.1 (by (map.get s.files j.file) refl) }
    where
      by : (o : Option PlainFile) → map.get s.files j.file ≡ o → FitsFile (unwrap_or o new_file)
      by None is = new_fits
      by (Some g) is = (w.files.named.named j.file g is).1

-- calls are such that their turns fit
abbrev pub RowsFit : (s : PlainState) → IsWholeMachine s → Fork → (List (ℕ × (ByteAsked → ByteTurn))) → Type 0
RowsFit s w f rows = (number : ℕ) → let a = asks_bytes (λ name. name) (parts_of s) f.name f.body.regs in FitsTurn s.forks a (There s w) (numbered rows number a)

-- those on bytes are, and those on strings
pub bytes_fit : (s : PlainState) (w : IsWholeMachine s) (f : Fork) → RowsFit s w f byte_calls
bytes_fit s w f number = byte_call_in s.forks (asks_bytes (λ name. name) (parts_of s) f.name f.body.regs) (There s w) (held_fits s w f) number

pub strings_fit : (s : PlainState) (w : IsWholeMachine s) (f : Fork) → RowsFit s w f string_calls
strings_fit s w f number = string_call_in s.forks (asks_bytes (λ name. name) (parts_of s) f.name f.body.regs) (There s w) (held_fits s w f) number

-- a turn, which may make pages
module _ (s : PlainState) (w : IsWholeMachine s) (f : Fork) (own : IsOwner f.name.tty) (rows : List (ℕ × (ByteAsked → ByteTurn))) (fit : RowsFit s w f rows) where
  made_whole : (q : NamedPages) → After s w q → IsWholeMachine (record s { pages = q })
  made_whole q h = filed_whole s w q s.files h.sound.whole h.sound.room h.filed h.keys h.given

  -- SUCH A TURN LEAVES A WHOLE STATE WHOLE
  pub byte_called_whole : (number : ℕ) → IsWholeMachine (byte_called s f rows number)
  unfolding parts_behind
  byte_called_whole number =
      let a = asks_bytes (λ name. name) (parts_of s) f.name f.body.regs in
      let came = came_in s.forks f.name.tty (There s w) (FitsByte a) (parts_of s) f.name (After s w) (refers_on s w f.name.tty own) (runs_on s w f.name.tty own) (numbered rows number a) (fit number) s.pages (at_first s w) in
      by (byte_came s f rows number).end came.0 came.1
    where
      by : (e : End ByteChange) → KeepsEnd (FitsByte (asks_bytes (λ name. name) (parts_of s) f.name f.body.regs)) e → After s w (byte_came s f rows number).pages
          → IsWholeMachine (with_parts s (with_filed (parts_of s) (parts_behind (byte_changed (λ name. name)) (filed_of (parts_of s)) (record (filed_of (parts_of s)) { pages = (byte_came s f rows number).pages }) e)))
      by (Done change regs out post) fits h = change_whole (record s { pages = (byte_came s f rows number).pages }) (made_whole (byte_came s f rows number).pages h) f.name f.body.regs change fits
      by (Waits on) fits h = w
      by Halts fits h = w
      by (Refused code) fits h = w
      by (Failed code) fits h = w
      by (Trap channel) fits h = w
