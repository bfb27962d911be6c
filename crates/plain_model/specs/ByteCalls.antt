-- The calls on bytes of files and of terminals (JSYS Manual): SFPTR, SIZEF, RFPTR, BIN, BOUT, PBIN.
use Rattle.std.specs.Prelude.{ℕ, ◌+◌, ◌%◌, List, [], ◌∷◌, Bool, nat_le, nat_lt, ◌==◌, if◌then◌else◌, is_some, None, Some, Result, Ok, Err, length}
use Rattle.std.specs.Option.{option_map_or, unwrap_or}
use Rattle.std.specs.declared.cmp.Ordering.{Ordering}
use Rattle.std.specs.FinMap as map
use Rattle.word36.specs.Words.{right}
use Rattle.word36.specs.Bytes.{deposited, loaded}
use Rattle.machine_names.specs.declared.names.Tty.{Tty}
use Rattle.machine_names.specs.declared.names.ForkName.{ForkName}
use Rattle.machine_names.specs.declared.names.Kind.TheVariants.{Write}
use Rattle.machine_names.specs.Orders.{FilePage, name_cmp}
use Rattle.plain_files.specs.Bytes.{most_bytes, offset_of_byte, page_of_byte, pointer_to_byte}
use Rattle.plain_files.specs.Sizes.{PlainFile, length_in, new_file, reaching}
use Rattle.plain_files.specs.OpenFiles.{OpenFile, OpenFiles, moved_file}
use Rattle.plain_pages.specs.PlainPages.{PlainPages}
use Rattle.plain_pages.specs.References.{in_file, stored, word_at}
use Rattle.plain_pages.specs.FilePages.{names_of_file}
use Rattle.script_texts.specs.declared.status.WaitOn.TheVariants as on
use Rattle.plain_units.specs.declared.channel.TheConstants.{END_OF_FILE, DRUM_FULL}
use Rattle.plain_units.specs.declared.registers.Regs.{Regs}
use Rattle.plain_units.specs.Deeds.{in_ac}
use Rattle.plain_model.specs.declared.call.TheConstants.{SFPTR, SIZEF, RFPTR, BIN, BOUT, PBIN, TERMINAL_INPUT, TERMINAL_OUTPUT, NO_JFN, NOT_OPEN, BAD_POSITION}
use Rattle.plain_model.specs.declared.call.End.{End}
use Rattle.plain_model.specs.declared.call.End.TheVariants.{Done, Waits, Refused, Failed, Trap}
use Rattle.plain_model.specs.declared.call.Touched.{Touched}
use Rattle.plain_model.specs.declared.call.ByteChange.{ByteChange}
use Rattle.plain_model.specs.declared.call.ByteChange.TheVariants.{Nothing, Take, Move, Put}
use Rattle.plain_model.specs.Calls.{Turn, reads, touches, ends, and_then, behind_call, given, granted_or, numbered, returning, with_ac}
use Rattle.plain_model.specs.FileCalls.{FileParts, Jobs, held_at, skipping, with_held}
use Rattle.plain_model.specs.MapCalls.{ALL_ONES, file_spot, is_read, is_written, keyed}

-- who calls, with which registers, and with which JFNs; the characters that are stored for the job; the length and the byte size of
-- each file; and how many pages the file of a name has
pub record ByteAsked : Type 0 where
  pub who : ForkName
  pub regs : Regs
  pub held : OpenFiles
  pub input : List ℕ
  pub files : map.FinMap name_cmp PlainFile
  pub pages : List ℕ → ℕ

-- a turn of such a call, which knows files by their names
abbrev pub ByteTurn : Type 0
ByteTurn = Turn (List ℕ) ByteChange

-- the number of the JFN that accumulator 1 names
abbrev pub jfn_number : ByteAsked → ℕ
jfn_number a = right (in_ac a.regs 1)

-- the file of a JFN
abbrev pub file_for : ByteAsked → OpenFile → PlainFile
file_for a j = unwrap_or (map.get a.files j.file) new_file

-- how many bytes it has, of the size that the JFN reads and writes
abbrev pub end_for : ByteAsked → OpenFile → ℕ
end_for a j = length_in j.size (file_for a j)

-- the byte at which a JFN stands: the page of its file, the word of that page, and a pointer with the byte's place in the word
abbrev pub byte_page : OpenFile → ℕ
byte_page j = page_of_byte j.size j.at

abbrev pub byte_offset : OpenFile → ℕ
byte_offset j = offset_of_byte j.size j.at

abbrev pub byte_pointer : OpenFile → ℕ
byte_pointer j = pointer_to_byte j.size j.at

-- whether the file of a JFN is open
abbrev pub is_open : OpenFile → Bool
is_open j = is_some j.mode

-- what the JFN that accumulator 1 names stands for
abbrev pub jfn_held : ByteAsked → Result OpenFile ℕ
jfn_held a = option_map_or Ok (map.get a.held (jfn_number a)) (Err NO_JFN)

-- the same, where its file is open so
abbrev pub jfn_open : (OpenFile → Bool) → ByteAsked → Result OpenFile ℕ
jfn_open is_so a = and_then (jfn_held a) (λ j. if is_so j then Ok j else Err NOT_OPEN)

-- a call with two returns: it ends so with what was named, or fails
abbrev pub given_or_fails : {A : Type 0} → Result A ℕ → (A → End ByteChange) → ByteTurn
given_or_fails (Ok x) next = ends (next x)
given_or_fails (Err code) next = ends (Failed code)

-- the position that a word names in the file of a JFN: all ones is behind its last byte
abbrev pub position_in : ByteAsked → OpenFile → ℕ → ℕ
position_in a j w = if w == ALL_ONES then end_for a j else w

-- a JFN is moved to a byte that its file has room for, or behind the last one
abbrev pub moving : ByteAsked → OpenFile → ℕ → End ByteChange
moving a j at = if nat_le at (most_bytes j.size) then skipping (Move a.who.tty (jfn_number a) at) a.regs else Failed BAD_POSITION

-- SFPTR: the JFN is moved to the position in accumulator 2
abbrev pub sfptr : ByteAsked → ByteTurn
sfptr a = given_or_fails (jfn_open is_open a) (λ j. moving a j (position_in a j (in_ac a.regs 2)))

-- SIZEF: accumulator 2 becomes the length of the file, in bytes of its own size, and accumulator 3 the number of its pages
abbrev pub sizef : ByteAsked → ByteTurn
sizef a = given_or_fails (jfn_held a) (λ j. let f = file_for a j in skipping Nothing (with_ac (with_ac a.regs 2 f.length) 3 (a.pages j.file)))

-- RFPTR: accumulator 2 becomes the position of the JFN
abbrev pub rfptr : ByteAsked → ByteTurn
rfptr a = given_or_fails (jfn_open is_open a) (λ j. skipping Nothing (with_ac a.regs 2 j.at))

-- the oldest of the characters that are stored goes to an accumulator; where there is none, the fork waits for one
abbrev pub next_character : ByteAsked → ℕ → List ℕ → End ByteChange
next_character a n [] = Waits on.Input
next_character a n (c ∷ cs) = returning (Take a.who.tty) (with_ac a.regs n c)

-- PBIN: accumulator 1 becomes the next character
abbrev pub pbin : ByteAsked → ByteTurn
pbin a = ends (next_character a 1 a.input)

-- at the end of a file a byte is 0, the JFN stays, and the channel of the end is posted
abbrev pub at_end : ByteAsked → End ByteChange
at_end a = Done Nothing (behind_call (with_ac a.regs 2 0)) None (Some END_OF_FILE)

-- the byte at which a JFN stands goes to accumulator 2, and the JFN to the next
abbrev pub takes_byte : ByteAsked → OpenFile → ℕ → End ByteChange
takes_byte a j w = returning (Move a.who.tty (jfn_number a) (j.at + 1)) (with_ac a.regs 2 (loaded (byte_pointer j) w))

-- a page of the file of a JFN
abbrev pub page_in : OpenFile → ℕ → FilePage (List ℕ)
page_in j page = record { file = j.file; page = page }

-- the next byte of a file is read
abbrev pub next_byte : ByteAsked → OpenFile → ByteTurn
next_byte a j = if nat_le (end_for a j) j.at then ends (Done Nothing (behind_call (with_ac a.regs 2 0)) None (Some END_OF_FILE))
    else reads (page_in j (byte_page j)) (byte_offset j) (λ w. ends (takes_byte a j w))

-- a call by the number of a JFN: that of the terminal's input, of its output, or of a file
abbrev pub by_number : {A : Type 0} → ℕ → A → A → A → A
by_number n input output file = if n == TERMINAL_INPUT then input else (if n == TERMINAL_OUTPUT then output else file)

-- BIN: accumulator 2 becomes the next byte of a file that is open to be read, or the next character
abbrev pub bin : ByteAsked → ByteTurn
bin a = by_number (jfn_number a) (ends (next_character a 2 a.input)) (ends (Refused NOT_OPEN)) (given (jfn_open is_read a) (next_byte a))

-- a call that writes ends so where its page is there, or was made; it traps where the drum is full
abbrev pub if_written : End ByteChange → Touched → End ByteChange
if_written e what = granted_or e (Trap DRUM_FULL) what

-- the byte at which a JFN stands is written, where the file has room for it; a page that the file doesn't have is made for whoever calls
abbrev pub put_byte : ByteAsked → OpenFile → ByteTurn
put_byte a j = if nat_lt j.at (most_bytes j.size)
    then touches a.who.tty (file_spot j (byte_page j)) Write (λ what. ends (if_written (returning (Put a.who.tty (jfn_number a) (in_ac a.regs 2)) a.regs) what))
    else ends (Refused BAD_POSITION)

-- the low 7 bits of accumulator 2 are printed
abbrev pub prints_byte : ByteAsked → End ByteChange
prints_byte a = Done Nothing (behind_call a.regs) (Some (in_ac a.regs 2 % 128)) None

-- BOUT: the low bits of accumulator 2 become the next byte of a file that is open to be written, or are printed
abbrev pub bout : ByteAsked → ByteTurn
bout a = by_number (jfn_number a) (ends (Refused NOT_OPEN)) (ends (prints_byte a)) (given (jfn_open is_written a) (put_byte a))

-- the calls on bytes by their numbers
abbrev pub byte_calls : List (ℕ × (ByteAsked → ByteTurn))
byte_calls = (SFPTR, sfptr) ∷ (SIZEF, sizef) ∷ (RFPTR, rfptr) ∷ (BIN, bin) ∷ (BOUT, bout) ∷ (PBIN, pbin) ∷ []

-- a turn of a call on bytes by its number
abbrev pub byte_call : ℕ → ByteAsked → ByteTurn
byte_call number a = numbered byte_calls number a

-- the characters that are stored for the job at a terminal
abbrev pub input_at : Jobs → Tty → List ℕ
input_at jobs t = option_map_or (λ j. j.input) (map.get jobs t.0) []

-- the jobs with other characters stored for the one at a terminal
abbrev pub with_input : Jobs → Tty → (List ℕ → List ℕ) → Jobs
with_input jobs t change = option_map_or (λ j. map.insert jobs t.0 (record j { input = change j.input })) (map.get jobs t.0) jobs

-- the characters behind the oldest
abbrev pub behind_first : List ℕ → List ℕ
behind_first [] = []
behind_first (c ∷ cs) = cs

-- the JFNs of a job with one of them, which is held, at another byte
abbrev pub with_position : ℕ → ℕ → OpenFiles → OpenFiles
with_position n at m = option_map_or (λ j. map.insert m n (record j { at = at })) (map.get m n) m

-- the files, where one that is there has bytes of a size, and reaches at least to an end
abbrev pub files_reaching : map.FinMap name_cmp PlainFile → List ℕ → ℕ → ℕ → map.FinMap name_cmp PlainFile
files_reaching files name size end = option_map_or (λ f. map.insert files name (reaching size end f)) (map.get files name) files

module _ {K : Type 0} {file_cmp : K → K → Ordering} (key_of : List ℕ → K) where
  -- how many pages the file of a name has, which has none where it isn't there
  abbrev pub pages_of : map.FinMap name_cmp PlainFile → PlainPages file_cmp → List ℕ → ℕ
  pages_of files p name = if map.contains_key files name then length (names_of_file p (key_of name)) else 0

  -- the pages with the byte written at which a JFN stands
  abbrev pub pages_put : PlainPages file_cmp → OpenFile → ℕ → PlainPages file_cmp
  pages_put p j byte = let at = in_file (keyed key_of j.file (byte_page j)) in stored p at (byte_offset j) (deposited (byte_pointer j) (word_at p at (byte_offset j)) byte)

  -- what is left where the next byte of a JFN is written
  abbrev pub written : FileParts file_cmp → Tty → ℕ → ℕ → OpenFile → FileParts file_cmp
  written v t n byte j = record {
    pages = pages_put v.pages j byte;
    files = files_reaching v.files j.file j.size (j.at + 1);
    jobs = with_held v.jobs t (with_position n (j.at + 1));
  }

  -- what a change of a call on bytes leaves, where pages of files are under the key of the file's name
  unfoldable pub byte_changed : ByteChange → FileParts file_cmp → FileParts file_cmp
  byte_changed Nothing v = v
  byte_changed (Take t) v = record v { jobs = with_input v.jobs t behind_first }
  byte_changed (Move t n at) v = record v { jobs = with_held v.jobs t (with_position n at) }
  byte_changed (Put t n byte) v = option_map_or (written v t n byte) (map.get (held_at v.jobs t) n) v
