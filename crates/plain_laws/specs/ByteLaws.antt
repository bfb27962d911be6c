-- What laws say of the calls on bytes.
use Rattle.std.specs.Prelude.{◌≡◌, ℕ, ◌+◌, List, None, Some}
use Rattle.std.specs.Option.{unwrap_or}
use Rattle.std.specs.FinMap as map
use Rattle.word36.specs.Bytes.{loaded}
use Rattle.machine_names.specs.Orders.{FilePage}
use Rattle.plain_files.specs.OpenFiles.{OpenFile}
use Rattle.plain_files.specs.Sizes.{length_in, new_file}
use Rattle.plain_pages.specs.PlainPages.{NamedPages}
use Rattle.plain_pages.specs.References.{in_file, word_at}
use Rattle.plain_units.specs.declared.registers.Regs.{Regs}
use Rattle.plain_units.specs.Deeds.{in_ac}
use Rattle.plain_model.specs.declared.call.TheConstants.{BIN, BOUT}
use Rattle.plain_model.specs.declared.fork.Fork.{Fork}
use Rattle.plain_model.specs.ByteCalls.{behind_first, byte_offset, byte_page, byte_pointer, files_reaching, page_in, pages_put, with_input, with_position}
use Rattle.plain_model.specs.Calls.{behind_call, with_ac}
use Rattle.plain_model.specs.Forks.{with_regs}
use Rattle.plain_model.specs.State.{PlainState}
use Rattle.plain_model.specs.Unit.{parts_of}
use Rattle.plain_laws.specs.JfnLaws.{jfn_named, turn_of, with_jfns}

-- the page of its file that has the byte at which a JFN stands
abbrev pub page_of_jfn : OpenFile → FilePage (List ℕ)
page_of_jfn j = page_in j (byte_page j)

-- that byte
abbrev pub byte_of : NamedPages → OpenFile → ℕ
byte_of p j = loaded (byte_pointer j) (word_at p (in_file (page_of_jfn j)) (byte_offset j))

-- the pages with a byte written there
abbrev pub with_byte : NamedPages → OpenFile → ℕ → NamedPages
with_byte p j byte = pages_put (λ name. name) p j byte

-- how many bytes the file of a JFN has, of the size that the JFN reads and writes
abbrev pub end_of : PlainState → OpenFile → ℕ
end_of s j = length_in j.size (unwrap_or (map.get s.files j.file) new_file)

-- two JFNs stand at one byte: of one file, and of one size
pub record StandTogether (i j : OpenFile) : Type 0 where
  pub file : i.file ≡ j.file
  pub size : i.size ≡ j.size
  pub at : i.at ≡ j.at

-- a fork behind a call that returns by its first return, with these registers
abbrev pub behind_first_return : Fork → Regs → Fork
behind_first_return f regs = with_regs f (behind_call regs)

-- BOUT has written the byte in accumulator 2 at a JFN, into these pages: the file reaches behind it, and the JFN stands at the next; all
-- else stays but the program counter
abbrev pub Writes : PlainState → Fork → OpenFile → NamedPages → Type 0
Writes s f j q = turn_of s f BOUT ≡ record {
  parts = record (with_jfns s f (with_position (jfn_named f) (j.at + 1))) { pages = with_byte q j (in_ac f.body.regs 2); files = files_reaching s.files j.file j.size (j.at + 1) };
  caller = Some (behind_first_return f f.body.regs);
  out = None;
}

-- BIN has read a byte at a JFN into accumulator 2: the JFN stands at the next, and all else stays
abbrev pub ReadsByte : PlainState → Fork → OpenFile → ℕ → Type 0
ReadsByte s f j byte = turn_of s f BIN ≡ record {
  parts = with_jfns s f (with_position (jfn_named f) (j.at + 1));
  caller = Some (behind_first_return f (with_ac f.body.regs 2 byte));
  out = None;
}

-- a call has taken the oldest character that is stored into an accumulator; the others are still stored, and all else stays
abbrev pub TakesCharacter : PlainState → Fork → ℕ → ℕ → ℕ → Type 0
TakesCharacter s f number ac c = turn_of s f number ≡ record {
  parts = record (parts_of s) { jobs = with_input s.jobs f.name.tty behind_first };
  caller = Some (behind_first_return f (with_ac f.body.regs ac c));
  out = None;
}
