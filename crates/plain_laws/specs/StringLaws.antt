-- What laws say of the calls on strings.
use Rattle.std.specs.Prelude.{◌≡◌, ◌≢◌, ◌⊎◌, ℕ, zero, suc, ◌+◌, ◌%◌, ◌<◌, ◌≤◌, List, [], ◌∷◌, false, None, Some, IsSome}
use Rattle.std.specs.FinMap as map
use Rattle.word36.specs.Bytes.{deposited, incremented, increments, loaded, position, size}
use Rattle.outside.specs.declared.TheConstants.{PAGE_WORDS}
use Rattle.machine_names.specs.declared.names.PageName.{PageName}
use Rattle.plain_files.specs.OpenFiles.{OpenFile, moved_file}
use Rattle.plain_pages.specs.PlainPages.{NamedPages}
use Rattle.plain_pages.specs.References.{Spot, in_map, page_at, slot_at, stored, word_at}
use Rattle.plain_units.specs.declared.registers.Regs.{Regs}
use Rattle.plain_units.specs.Addressing.{indexed, is_indirect}
use Rattle.plain_units.specs.Deeds.{in_ac}
use Rattle.plain_units.specs.Steps.{is_accumulator}
use Rattle.plain_model.specs.declared.call.TheConstants.{SIN, SOUT}
use Rattle.plain_model.specs.declared.fork.Fork.{Fork}
use Rattle.plain_model.specs.ByteCalls.{behind_first, files_reaching, with_input, with_position}
use Rattle.plain_model.specs.Calls.{with_ac}
use Rattle.plain_model.specs.Families.{Parts}
use Rattle.plain_model.specs.Forks.{with_regs}
use Rattle.plain_model.specs.PointedTexts.{byte_at}
use Rattle.plain_model.specs.State.{PlainState}
use Rattle.plain_model.specs.StringCalls.{behind_byte, next_pointer}
use Rattle.plain_model.specs.Unit.{parts_of}
use Rattle.machine_names.specs.Orders.{name_cmp}
use Rattle.plain_laws.specs.ByteLaws.{byte_of, page_of_jfn, with_byte}
use Rattle.plain_laws.specs.CommandLaws.{page_of_file}
use Rattle.plain_laws.specs.JfnLaws.{ReadsSo, jfn_named, turn_of, with_jfns}

-- the pointer in an accumulator, behind the next byte of its string
abbrev pub next_of : Fork → ℕ → ℕ
next_of f n = next_pointer (in_ac f.body.regs n)

-- a fork reads the next byte of the string at the pointer in an accumulator; these are the pages then
abbrev pub ReadsNext : PlainState → Fork → ℕ → ℕ → NamedPages → Type 0
ReadsNext s f n byte q = ReadsSo s f (byte_at f.body.regs (next_of f n)) byte q

-- the address that a pointer names for a fork, where it isn't indirect
abbrev pub address_of : Fork → ℕ → ℕ
address_of f p = indexed f.body.regs.ac p

-- it isn't indirect, and names a word of a page of the fork's space, not an accumulator
abbrev pub IsInSpace : Fork → ℕ → Type 0
IsInSpace f p = (is_indirect p ≡ false) × (is_accumulator (address_of f p) ≡ false)

-- that page, and the offset of the word in it
abbrev pub spot_pointed : Fork → ℕ → Spot (List ℕ)
spot_pointed f p = in_map (slot_at f.name (address_of f p))

abbrev pub offset_pointed : Fork → ℕ → ℕ
offset_pointed f p = address_of f p % PAGE_WORDS

-- the byte that it names there
abbrev pub byte_pointed : NamedPages → Fork → ℕ → ℕ
byte_pointed q f p = loaded p (word_at q (spot_pointed f p) (offset_pointed f p))

-- the pages with a byte deposited there
abbrev pub with_byte_pointed : NamedPages → Fork → ℕ → ℕ → NamedPages
with_byte_pointed q f p byte = stored q (spot_pointed f p) (offset_pointed f p) (deposited p (word_at q (spot_pointed f p) (offset_pointed f p)) byte)

-- a byte isn't the one that ends a string before it, as a byte that is 0 does with a count of 0
abbrev pub IsOfString : Fork → ℕ → Type 0
IsOfString f byte = (in_ac f.body.regs 3 ≢ 0) ⊎ (byte ≢ 0)

-- SOUT has written a byte of its string at a JFN, into these pages: the file reaches behind it, and the JFN stands at the next; all else
-- stays but its fork's registers, which are those behind a byte
abbrev pub WritesNext : PlainState → Fork → OpenFile → ℕ → NamedPages → Type 0
WritesNext s f j byte q = turn_of s f SOUT ≡ record {
  parts = record (with_jfns s f (with_position (jfn_named f) (j.at + 1))) { pages = with_byte q j byte; files = files_reaching s.files j.file j.size (j.at + 1) };
  caller = Some (with_regs f (behind_byte f.body.regs (next_of f 2) byte));
  out = None;
}

-- SIN has deposited a byte into its string, in these pages; of all else but its fork's registers this is left
abbrev pub Deposits : PlainState → Fork → Parts name_cmp → ℕ → NamedPages → Type 0
Deposits s f left byte q = turn_of s f SIN ≡ record {
  parts = record left { pages = with_byte_pointed q f (next_of f 2) byte };
  caller = Some (with_regs f (behind_byte f.body.regs (next_of f 2) byte));
  out = None;
}

-- it was the byte at a JFN, which stands at the next
abbrev pub TakesNext : PlainState → Fork → OpenFile → ℕ → NamedPages → Type 0
TakesNext s f j byte q = Deposits s f (with_jfns s f (with_position (jfn_named f) (j.at + 1))) byte q

-- it was the oldest of the characters that are stored, and the others are still
abbrev pub TakesNextCharacter : PlainState → Fork → ℕ → NamedPages → Type 0
TakesNextCharacter s f c q = Deposits s f (record (parts_of s) { jobs = with_input s.jobs f.name.tty behind_first }) c q

-- a pointer names bits of a word, and none past its left end
abbrev pub IsInWord : ℕ → Type 0
IsInWord p = position p + size p ≤ 36

-- the registers with a string's pointer and its count
abbrev pub counting : Regs → ℕ → ℕ → Regs
counting regs p count = with_ac (with_ac regs 2 p) 3 count

-- the pages with bytes written one behind another, from where a JFN stands on
abbrev pub with_bytes : NamedPages → OpenFile → List ℕ → NamedPages
with_bytes p j [] = p
with_bytes p j (byte ∷ bytes) = with_bytes (with_byte p j byte) (moved_file (j.at + 1) j) bytes

-- so many bytes one behind another, from where a JFN stands on
abbrev pub bytes_of : NamedPages → OpenFile → ℕ → List ℕ
bytes_of p j zero = []
bytes_of p j (suc n) = byte_of p j ∷ bytes_of p (moved_file (j.at + 1) j) n

-- the file of a JFN has the pages of so many bytes from there on
abbrev pub HasPagesOf : NamedPages → OpenFile → ℕ → Type 0
HasPagesOf p j n = (at : ℕ) → j.at ≤ at → at < j.at + n → IsSome (map.get p.files (page_of_jfn (moved_file at j)))

-- a file names no page twice
abbrev pub NamesOnce : NamedPages → List ℕ → Type 0
NamesOnce p file = (m n : ℕ) (x : PageName) → map.get p.files (page_of_file file m) ≡ Some x → map.get p.files (page_of_file file n) ≡ Some x → m ≡ n

-- two pointers name bytes apart: in one word without a bit of both, or in two words
abbrev pub AreApart : NamedPages → Fork → ℕ → ℕ → Type 0
AreApart q f o p =
    ((address_of f o ≡ address_of f p) × ((position o + size o ≤ position p) ⊎ (position p + size p ≤ position o)))
    ⊎ (offset_pointed f o ≢ offset_pointed f p) ⊎ (page_at q (spot_pointed f o) ≢ page_at q (spot_pointed f p))

-- so many bytes stand one behind another in a fork's space, from the one that a pointer names on: each within its word, in a page that is
-- there, and apart from the others
pub record IsString (q : NamedPages) (f : Fork) (p n : ℕ) : Type 0 where
  pub inside : (k : ℕ) → k < n → IsInWord (increments k p)
  pub there : (k : ℕ) → k < n → IsSome (page_at q (spot_pointed f (increments k p)))
  pub apart : (k l : ℕ) → k < l → l < n → AreApart q f (increments k p) (increments l p)

-- the pages with bytes deposited one behind another
abbrev pub with_string : NamedPages → Fork → ℕ → List ℕ → NamedPages
with_string q f p [] = q
with_string q f p (byte ∷ bytes) = with_string (with_byte_pointed q f p byte) f (incremented p) bytes

-- so many bytes one behind another
abbrev pub string_at : NamedPages → Fork → ℕ → ℕ → List ℕ
string_at q f p zero = []
string_at q f p (suc n) = byte_pointed q f p ∷ string_at q f (incremented p) n
