-- What changes of calls on bytes leave of the parts.
use Rattle.std.proofs.Common.{◌≡◌, ℕ, ◌+◌, Option, Some, refl, sym, ◌∙◌, ap, subst}
use Rattle.std.specs.Option.{option_map_or}
use Rattle.std.specs.FinMap as map
use Rattle.std.specs.Ordering.{nat_cmp}
use Rattle.machine_names.specs.declared.names.Tty.{Tty}
use Rattle.machine_names.specs.declared.names.Kind.TheVariants.{Write}
use Rattle.machine_names.specs.Orders.{file_page}
use Rattle.plain_files.specs.Bytes.{offset_of_byte, page_of_byte, pointer_to_byte}
use Rattle.plain_files.specs.Jobs.{jfns_of}
use Rattle.plain_files.specs.NamedFiles.{name_of, open_file}
use Rattle.plain_files.specs.OpenFiles.{OpenFile, OpenFiles}
use Rattle.plain_files.specs.declared.jfn.Jfn.{Jfn}
use Rattle.plain_pages.specs.PlainPages.{NumberedPages}
use Rattle.plain_pages.specs.References.{in_file, settled, stored, word_at}
use Rattle.plain_typing.specs.Lines.{InputLine}
use Rattle.plain_units.specs.declared.registers.Regs.{Regs}
use Rattle.plain_model.specs.declared.call.ByteChange.{ByteChange}
use Rattle.plain_model.specs.declared.call.ByteChange.TheVariants.{Nothing, Take, Move, Put}
use Rattle.plain_model.specs.declared.call.End.{End}
use Rattle.plain_model.specs.declared.call.End.TheVariants.{Done, Waits, Halts, Refused, Failed, Trap}
use Rattle.plain_model.specs.ByteCalls.{behind_first, byte_changed, files_reaching, pages_put, with_position, written}
use Rattle.plain_model.specs.Calls.{parts_behind}
use Rattle.plain_model.specs.FileCalls.{FileParts, Jobs, held_at}
use Rattle.word36.specs.Bytes.{deposited}
use Rattle.file_tables.specs.declared.tables.FileTables.{FileTables}
use Rattle.file_tables.specs.Tables.{files_of, jfns_at}
use Rattle.file_tables.specs.Keys.{key_of}
use Rattle.file_bytes.specs.Asking.{HasLine, jobs_with, parts}
use Rattle.file_bytes.specs.Changing.{deposited_in}
use Rattle.file_bytes.specs.Turning.{Stays}
use Rattle.call_turns.specs.Answers.{FitsAnswer, answer_of}
use Rattle.call_turns.specs.Turns.{FitsEnd}
use Rattle.file_bytes.specs.Planning.{made_for, page_for, pages_for}
use Rattle.file_bytes.proofs.Ending.{held_by_name}
use Rattle.file_bytes.proofs.JobParts.{all_same, other_input, other_jfns}

module _ (tables tables' : FileTables) (line line' : InputLine) (t : Tty) (jobs : Jobs) (has : HasLine jobs t tables line) where
  abbrev After : NumberedPages → ByteChange → NumberedPages → Type 0
  After q what p = parts (jobs_with jobs t tables' line') tables' q ≡ byte_changed (key_of tables) what (parts jobs tables (pages_for tables t p what))

  pub nothing_left : (p : NumberedPages) → tables' ≡ tables → line' ≡ line → After p Nothing p
  unfolding byte_changed
  nothing_left p same still =
      λ i. record { pages = p; files = files_of (same i); jobs = all_same jobs t tables tables' line line' has (ap (λ (m : FileTables). jfns_at m t.0) same) (ap (λ (l : InputLine). l.input) still) i }

  pub takes_left : (p : NumberedPages) → tables' ≡ tables → line'.input ≡ behind_first line.input → After p (Take t) p
  unfolding byte_changed
  takes_left p same taken =
      λ i. record { pages = p; files = files_of (same i); jobs = other_input jobs t tables tables' line line' has behind_first (ap (λ (m : FileTables). jfns_at m t.0) same) taken i }

  pub moves_left : (p : NumberedPages) (n at : ℕ) → files_of tables' ≡ files_of tables → jfns_at tables' t.0 ≡ with_position n at (jfns_at tables t.0) → line'.input ≡ line.input → After p (Move t n at) p
  unfolding byte_changed
  moves_left p n at files jfns still =
      λ i. record { pages = p; files = files i; jobs = other_jfns jobs t tables tables' line line' has (with_position n at) jfns still i }

  -- a byte is written
  module _ (n byte : ℕ) (jfn : Jfn) (held : map.get (jfns_of tables.jobs t.0) n ≡ Some jfn) (key : key_of tables (name_of tables.dir jfn.file.0) ≡ jfn.file.0) where
    abbrev j : OpenFile
    j = open_file tables.dir jfn

    abbrev made : NumberedPages → NumberedPages
    made p = settled p (in_file (page_for jfn)) Write t

    held_there : map.get (held_at jobs t) n ≡ Some j
    held_there = ap (λ (m : OpenFiles). map.get m n) has.jfns ∙ held_by_name tables t n jfn held

    pages_are : (p : NumberedPages) → pages_for tables t p (Put t n byte) ≡ made p
    pages_are p = ap (λ (o : Option Jfn). option_map_or (λ k. settled p (in_file (page_for k)) Write t) o p) held

    -- by the number of its file
    by_number : (p : NumberedPages) → pages_put (key_of tables) (made p) j byte ≡ deposited_in p t (page_for jfn) (offset_of_byte jfn.size jfn.at) (pointer_to_byte jfn.size jfn.at) byte
    by_number p = ap (λ (k : ℕ). let at = in_file (file_page k (page_of_byte jfn.size jfn.at)) in stored (made p) at (offset_of_byte jfn.size jfn.at) (deposited (pointer_to_byte jfn.size jfn.at) (word_at (made p) at (offset_of_byte jfn.size jfn.at)) byte)) key

    pub puts_left : (p q : NumberedPages) → q ≡ deposited_in p t (page_for jfn) (offset_of_byte jfn.size jfn.at) (pointer_to_byte jfn.size jfn.at) byte
        → files_of tables' ≡ files_reaching (files_of tables) (name_of tables.dir jfn.file.0) jfn.size (jfn.at + 1) → jfns_at tables' t.0 ≡ with_position n (jfn.at + 1) (jfns_at tables t.0) → line'.input ≡ line.input
        → After q (Put t n byte) p
    unfolding byte_changed
    puts_left p q pages files jfns still =
        (λ i. record { pages = (pages ∙ sym (by_number p)) i; files = files i; jobs = other_jfns jobs t tables tables' line line' has (with_position n (jfn.at + 1)) jfns still i })
        ∙ ap (λ (o : Option OpenFile). option_map_or (written (key_of tables) (parts jobs tables (made p)) t n byte) o (parts jobs tables (made p))) (sym held_there)
        ∙ ap (λ (m : NumberedPages). byte_changed (key_of tables) (Put t n byte) (parts jobs tables m)) (sym (pages_are p))

-- the end of a turn
module _ (tables : FileTables) (t : Tty) (jobs : Jobs) (p : NumberedPages) where
  abbrev Behind : FileParts nat_cmp → End ByteChange → Type 0
  Behind new e = new ≡ parts_behind (byte_changed (key_of tables)) (parts jobs tables p) (parts jobs tables (made_for tables t p e)) e

  pub behind_done : (new : FileParts nat_cmp) (e : End ByteChange) (what : ByteChange) (regs : Regs) (out post : Option ℕ) → e ≡ Done what regs out post
      → new ≡ byte_changed (key_of tables) what (parts jobs tables (pages_for tables t p what)) → Behind new e
  unfolding parts_behind
  behind_done new e what regs out post is h = subst (Behind new) (sym is) h

  pub behind_other : (new : FileParts nat_cmp) (e : End ByteChange) → ((what : ByteChange) (regs : Regs) (out post : Option ℕ) → e ≡ Done what regs out post → ⊥) → new ≡ parts jobs tables p → Behind new e
  unfolding parts_behind
  behind_other new (Done what regs out post) other h = absurd (other what regs out post refl)
  behind_other new (Waits on) other h = h
  behind_other new Halts other h = h
  behind_other new (Refused code) other h = h
  behind_other new (Failed code) other h = h
  behind_other new (Trap channel) other h = h

-- an end that is not done leaves all, and its answer is within its limits
module _ {P : Type 0} (s : P) (tables : FileTables) (line : InputLine) where
  pub stays_so : (e : End ByteChange) → ((what : ByteChange) (regs : Regs) (out post : Option ℕ) → e ≡ Done what regs out post → ⊥) → Stays s s tables tables line line (answer_of e)
  stays_so (Done what regs out post) other = absurd (other what regs out post refl)
  stays_so (Waits on) other = (refl, refl, refl)
  stays_so Halts other = (refl, refl, refl)
  stays_so (Refused code) other = (refl, refl, refl)
  stays_so (Failed code) other = (refl, refl, refl)
  stays_so (Trap channel) other = (refl, refl, refl)

pub end_fits : (sound : ByteChange → Type 0) (e : End ByteChange) → FitsEnd sound e → FitsAnswer (answer_of e)
end_fits sound (Done what regs out post) h = (h.1, h.2, h.3)
end_fits sound (Waits on) h = tt
end_fits sound Halts h = tt
end_fits sound (Refused code) h = tt
end_fits sound (Failed code) h = tt
end_fits sound (Trap channel) h = h
