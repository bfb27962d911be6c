-- What is read and written, on each way in which an assembly ends.
use Rattle.std.specs.Prelude.{◌≡◌, ◌⊎◌, ℕ, ◌<◌, ◌≤◌, List, [], ◌++◌, All, codes, decimal, length, Result, Ok, Err, Some}
use Rattle.outside.specs.declared.failure.Failed.{Failed}
use Rattle.outside.specs.Told.{Grows, Loses}
use Rattle.machine_names.specs.declared.names.Tty.{Tty}
use Rattle.script_texts.specs.Limits.{FitsEvent}
use Rattle.script_texts.specs.Texts.{ended}
use Rattle.texts.specs.Wrote.{GrowsPartly, Told}
use Rattle.asm_core.specs.declared.line.AsmFault.{AsmFault}
use Rattle.asm_core.specs.declared.line.AsmFault.TheVariants.{Memory as NoMemory, Line, Overrun, Doubled, Undefined}
use Rattle.asm_core.specs.declared.line.Placed.{Placed}
use Rattle.asm_core.specs.declared.survey.TheConstants.{PROGRAM_BYTES}
use Rattle.asm_core.specs.Places.{outcome}
use Rattle.asm_console.specs.declared.asm_end.AsmEnd.{AsmEnd}
use Rattle.asm_console.specs.declared.asm_end.AsmEnd.TheVariants.{Done, Stopped as Ended, WriteFault}
use Rattle.asm_console.specs.declared.asm_end.Stopped.{Stopped}
use Rattle.asm_console.specs.declared.asm_end.Stopped.TheVariants.{ReadFault as Unread, LongText as TooLong, Fault as Faulty}
use Rattle.asm_console.specs.Lines.{events_of, lines_text}

-- how it ends where it was to end so, and what was to be written was, or was not
abbrev pub end_behind : Result (Unit {0}) Failed → AsmEnd → AsmEnd
end_behind (Ok _) how = how
end_behind (Err _) how = WriteFault

-- the line that tells a fault
abbrev pub fault_line : AsmFault → List ℕ
fault_line NoMemory = ended (codes "?MEMORY")
fault_line (Line n) = ended (codes "?LINE " ++ decimal n)
fault_line (Overrun n) = ended (codes "?OVERRUN " ++ decimal n)
fault_line (Doubled symbol) = ended (codes "?DOUBLED " ++ symbol)
fault_line (Undefined symbol) = ended (codes "?UNDEFINED " ++ symbol)

-- the line that tells why there are no words
abbrev pub stopped_line : Stopped → List ℕ
stopped_line Unread = ended (codes "?READ")
stopped_line TooLong = ended (codes "?LONG SCRIPT")
stopped_line (Faulty fault) = fault_line fault

-- a text was read to its end
abbrev pub IsRead : (source source' : Told) → List ℕ → Type 0
IsRead source source' text = (bytes : List ℕ) → source ≡ Some bytes → (bytes ≡ text) × (source' ≡ Some [])

-- so many bytes were read of a text, and no more
pub record IsTaken (P : ℕ → Type 0) (source source' : Told) : Type 0 where
  pub taken : List ℕ
  pub loses : Loses source source' taken
  pub count : P (length taken)

-- why a text was not read: too much of it was, or a read behind what a program may have failed
abbrev pub IsUnread : (source source' : Told) → Stopped → Type 0
IsUnread source source' Unread = IsTaken (λ n. n ≤ PROGRAM_BYTES) source source'
IsUnread source source' TooLong = IsTaken (λ n. PROGRAM_BYTES < n) source source'
IsUnread source source' (Faulty fault) = fault ≡ NoMemory

-- the text that was read has this fault; want of memory says nothing of it
abbrev pub HasFault : (source source' : Told) → AsmFault → Type 0
HasFault source source' NoMemory = Unit {0}
HasFault source source' fault = (text : List ℕ) × IsRead source source' text × (length text ≤ PROGRAM_BYTES) × (outcome text ≡ Err fault)

-- why there are no words
abbrev pub IsTrueOf : (source source' : Told) → Stopped → Type 0
IsTrueOf source source' (Faulty fault) = HasFault source source' fault
IsTrueOf source source' why = IsUnread source source' why

-- the text that was read is this program
pub record IsProgram (source source' : Told) (program : List Placed) : Type 0 where
  pub text : List ℕ
  pub read : IsRead source source' text
  pub short : length text ≤ PROGRAM_BYTES
  pub assembled : outcome text ≡ Ok program

-- the lines of a program's words were written for this terminal, each of them that of an event of a script
pub record Writes (t : Tty) (source source' out out' : Told) : Type 0 where
  pub program : List Placed
  pub is : IsProgram source source' program
  pub fits : All FitsEvent (events_of t program)
  pub lines : Grows out out' (lines_text t program)

-- the line that tells why there are no words was written
pub record WritesWhy (source source' out out' : Told) (why : Stopped) : Type 0 where
  pub is : IsTrueOf source source' why
  pub line : Grows out out' (stopped_line why)

-- a front of the text was written that was to be
abbrev pub WritesFront : Tty → (source source' out out' : Told) → Type 0
WritesFront t source source' out out' =
    ((program : List Placed) × IsProgram source source' program × GrowsPartly out out' (lines_text t program))
    ⊎ ((why : Stopped) × IsTrueOf source source' why × GrowsPartly out out' (stopped_line why))

-- ASSEMBLY: what was read and written, on each way in which it ends
abbrev pub Assembled : Tty → (source source' : Told) → AsmEnd → (out out' : Told) → Type 0
Assembled t source source' Done out out' = Writes t source source' out out'
Assembled t source source' (Ended why) out out' = WritesWhy source source' out out' why
Assembled t source source' WriteFault out out' = WritesFront t source source' out out'

-- the fault is that of these bytes; want of memory says nothing of them
abbrev pub IsFaultOf : List ℕ → AsmFault → Type 0
IsFaultOf bytes NoMemory = Unit {0}
IsFaultOf bytes fault = (length bytes ≤ PROGRAM_BYTES) × (outcome bytes ≡ Err fault)

-- a reason that judges the text is true of its bytes
abbrev pub JudgesWhy : List ℕ → Stopped → Type 0
JudgesWhy bytes TooLong = PROGRAM_BYTES < length bytes
JudgesWhy bytes (Faulty fault) = IsFaultOf bytes fault
JudgesWhy bytes why = Unit {0}

-- and so is an end that does
abbrev pub Judges : List ℕ → AsmEnd → Type 0
Judges bytes Done = (program : List Placed) × (length bytes ≤ PROGRAM_BYTES) × (outcome bytes ≡ Ok program)
Judges bytes (Ended why) = JudgesWhy bytes why
Judges bytes WriteFault = Unit {0}
