-- The calls on strings of bytes (JSYS Manual): SIN, SOUT, PSOUT. A turn takes one byte.
use Rattle.std.specs.Prelude.{ℕ, ◌+◌, ◌-◌, ◌%◌, ◌^◌, List, [], ◌∷◌, Bool, ◌&&◌, ◌||◌, not, nat_le, nat_lt, ◌==◌, if◌then◌else◌, None, Some, slice_index}
use Rattle.word36.specs.Words.{is_negative}
use Rattle.word36.specs.Bytes.{deposited, incremented, loaded}
use Rattle.machine_names.specs.declared.names.Kind.TheVariants.{Read, Write}
use Rattle.plain_files.specs.Bytes.{most_bytes}
use Rattle.plain_files.specs.OpenFiles.{OpenFile}
use Rattle.script_texts.specs.declared.status.WaitOn.TheVariants as on
use Rattle.plain_units.specs.declared.channel.TheConstants.{END_OF_FILE}
use Rattle.plain_units.specs.declared.registers.Regs.{Regs}
use Rattle.plain_units.specs.Deeds.{in_ac}
use Rattle.plain_units.specs.Instructions.{storing}
use Rattle.plain_units.specs.Steps.{Steps, refers, widens, ends as steps_end}
use Rattle.plain_model.specs.declared.call.TheConstants.{PSOUT, SIN, SOUT, NOT_OPEN, BAD_POSITION}
use Rattle.plain_model.specs.declared.call.End.{End}
use Rattle.plain_model.specs.declared.call.End.TheVariants.{Done, Waits, Refused}
use Rattle.plain_model.specs.declared.call.ByteChange.{ByteChange}
use Rattle.plain_model.specs.declared.call.ByteChange.TheVariants.{Nothing, Take, Move, Put}
use Rattle.plain_model.specs.Calls.{behind_call, ends, given, numbered, reads, returning, takes, touches, with_ac}
use Rattle.plain_model.specs.ByteCalls.{ByteAsked, ByteTurn, by_number, byte_offset, byte_page, byte_pointer, end_for, if_written, jfn_number, jfn_open, page_in}
use Rattle.plain_model.specs.MapCalls.{file_spot, is_read, is_written}
use Rattle.plain_model.specs.PointedTexts.{address_steps, byte_at, full_pointer}
use Rattle.plain_model.specs.Readings.{with_reading}

-- a string's pointer behind its next byte
abbrev pub next_pointer : ℕ → ℕ
next_pointer p = incremented (full_pointer p)

-- ---- PSOUT

-- a byte that is 0 ends the call, and leaves the pointer; the low 7 bits of another are printed
abbrev pub prints_next : ByteAsked → ℕ → ℕ → End ByteChange
prints_next a p byte = if byte == 0 then returning Nothing a.regs else Done Nothing (with_ac a.regs 1 p) (Some (byte % 128)) None

-- PSOUT: the string at the pointer in accumulator 1 is printed, up to a byte that is 0
abbrev pub psout : ByteAsked → ByteTurn
psout a = let p = next_pointer (in_ac a.regs 1) in with_reading a.who a.regs (byte_at a.regs p) (λ byte. ends (prints_next a p byte))

-- ---- SIN and SOUT

-- a count goes by one towards 0; one that is 0 stays
abbrev pub count_behind : ℕ → ℕ
count_behind c = if c == 0 then 0 else (if is_negative c then (c + 1) % 2 ^ 36 else c - 1)

-- whether a byte is the last of its string: with a count of 0 a byte that is 0; with another the byte that uses it up, and with a positive
-- one the byte that accumulator 4 has too
abbrev pub is_last : Regs → ℕ → Bool
is_last regs byte = let c = in_ac regs 3 in
    if c == 0 then byte == 0 else (count_behind c == 0) || (not (is_negative c) && (byte == in_ac regs 4))

-- the registers behind a byte of a string, whose pointer has come so far: the call is made again until it has taken the last one
abbrev pub behind_byte : Regs → ℕ → ℕ → Regs
behind_byte regs p byte = let next = with_ac (with_ac regs 2 p) 3 (count_behind (in_ac regs 3)) in
    if is_last regs byte then behind_call next else next

-- steps that deposit a byte into the word at an address, and end with these registers; they write an accumulator last
abbrev pub deposit_steps : Regs → ℕ → ℕ → ℕ → Steps
deposit_steps told p byte e = refers e Read (λ w. widens e (steps_end (storing told e (deposited p w byte) None)))

-- a byte becomes the next of the string at the pointer in accumulator 2
abbrev pub takes_next : ByteAsked → ByteChange → ℕ → ByteTurn
takes_next a change byte = let p = next_pointer (in_ac a.regs 2) in
    takes a.who a.regs (address_steps a.regs p) (λ e.
    takes a.who a.regs (deposit_steps (behind_byte a.regs p byte) p byte (slice_index e.regs.ac 0)) (λ f.
    ends (Done change f.regs None None)))

-- the oldest of the characters that are stored; where there is none, the fork waits for one
abbrev pub takes_character : ByteAsked → List ℕ → ByteTurn
takes_character a [] = ends (Waits on.Input)
takes_character a (c ∷ cs) = takes_next a (Take a.who.tty) c

-- the end of a file ends the call: its channel is posted, and all accumulators stay
abbrev pub at_end : ByteAsked → End ByteChange
at_end a = Done Nothing (behind_call a.regs) None (Some END_OF_FILE)

-- the next byte of a file
abbrev pub takes_from : ByteAsked → OpenFile → ByteTurn
takes_from a j = if nat_le (end_for a j) j.at then ends (Done Nothing (behind_call a.regs) None (Some END_OF_FILE))
    else reads (page_in j (byte_page j)) (byte_offset j) (λ w. takes_next a (Move a.who.tty (jfn_number a) (j.at + 1)) (loaded (byte_pointer j) w))

-- SIN: the next byte of a file that is open to be read, or the next character, becomes the next of a string
abbrev pub sin : ByteAsked → ByteTurn
sin a = by_number (jfn_number a) (takes_character a a.input) (ends (Refused NOT_OPEN)) (given (jfn_open is_read a) (takes_from a))

-- a turn goes on with the next byte of the string at the pointer in accumulator 2, and the pointer behind it
abbrev pub with_next : ByteAsked → (ℕ → ℕ → ByteTurn) → ByteTurn
with_next a next = let p = next_pointer (in_ac a.regs 2) in with_reading a.who a.regs (byte_at a.regs p) (next p)

-- a string with a count of 0 ends before a byte that is 0, and its pointer stays
abbrev pub if_written_too : ByteAsked → ℕ → ByteTurn → ByteTurn
if_written_too a byte turn = if (in_ac a.regs 3 == 0) && (byte == 0) then ends (returning Nothing a.regs) else turn

-- its low 7 bits are printed
abbrev pub prints_byte : ByteAsked → ℕ → ℕ → ByteTurn
prints_byte a p byte = if_written_too a byte (ends (Done Nothing (behind_byte a.regs p byte) (Some (byte % 128)) None))

-- it becomes the next byte of a file
abbrev pub puts_byte : ByteAsked → OpenFile → ℕ → ℕ → ByteTurn
puts_byte a j p byte = if_written_too a byte (touches a.who.tty (file_spot j (byte_page j)) Write (λ what.
    ends (if_written (Done (Put a.who.tty (jfn_number a) byte) (behind_byte a.regs p byte) None None) what)))

-- SOUT: the next byte of a string becomes that of a file that is open to be written, where it has room for it, or is printed
abbrev pub sout : ByteAsked → ByteTurn
sout a = by_number (jfn_number a) (ends (Refused NOT_OPEN)) (with_next a (prints_byte a)) (given (jfn_open is_written a) (λ j.
    if nat_lt j.at (most_bytes j.size) then with_next a (puts_byte a j) else ends (Refused BAD_POSITION)))

-- the calls on strings by their numbers
abbrev pub string_calls : List (ℕ × (ByteAsked → ByteTurn))
string_calls = (SIN, sin) ∷ (SOUT, sout) ∷ (PSOUT, psout) ∷ []

-- a turn of a call on strings by its number
abbrev pub string_call : ℕ → ByteAsked → ByteTurn
string_call number a = numbered string_calls number a
