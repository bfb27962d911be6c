-- The monitor calls, each with how it may be answered.
use Rattle.std.specs.Prelude.{ℕ, List, [], ◌∷◌, ◌++◌, Bool, true, false, not, ◌&&◌, ◌==◌}
use Rattle.std.specs.List.{list_any}
use Rattle.script_texts.specs.declared.status.WaitOn.{WaitOn}
use Rattle.script_texts.specs.declared.status.WaitOn.TheVariants as on
use Rattle.plain_units.specs.declared.channel.TheConstants.{ILLEGAL_INSTRUCTION, DENIED_READ, DENIED_WRITE, DENIED_EXECUTE, DRUM_FULL}
use Rattle.plain_model.specs.declared.call.TheConstants as call
use Rattle.plain_refusals.specs.CallAnswers.{Answer, goes, fails, refuses, traps, waits, halts}

-- for what the fork of a call may wait
pub data Wait : Type 0 where
  never : Wait
  for_input : Wait
  for_fork : Wait
  for_clock : Wait

-- a call: its number; whether it has two returns; with which errors it is refused; whether it takes or stores words of its fork's space, or
-- makes a page, where a trap may come; and for what its fork may wait
pub record CallRow : Type 0 where
  pub number : ℕ
  pub has_two : Bool
  pub errors : List ℕ
  pub refers : Bool
  pub wait : Wait

-- a call with one return, and one with two
abbrev pub one : ℕ → List ℕ → CallRow
one number errors = record { number = number; has_two = false; errors = errors; refers = false; wait = never }

abbrev pub two : ℕ → List ℕ → CallRow
two number errors = record { number = number; has_two = true; errors = errors; refers = false; wait = never }

-- that refers to words
abbrev pub referring : CallRow → CallRow
referring row = record row { refers = true }

-- and whose fork may wait
abbrev pub waiting : Wait → CallRow → CallRow
waiting wait row = record row { wait = wait }

-- the errors of a handle, of one that is to be the caller's or an inferior's, and of a JFN that is to be open
abbrev pub of_handle : List ℕ
of_handle = call.NO_HANDLE ∷ call.NO_INFERIOR ∷ []

abbrev pub of_open_jfn : List ℕ
of_open_jfn = call.NO_JFN ∷ call.NOT_OPEN ∷ []

abbrev pub print_rows : List CallRow
print_rows = one call.PBOUT [] ∷ []

abbrev pub fork_rows : List CallRow
fork_rows =
    referring (two call.CFORK (call.FORKS_FULL ∷ call.SERIALS_OUT ∷ call.NO_ROOM ∷ []))
    ∷ one call.KFORK of_handle
    ∷ one call.FFORK of_handle
    ∷ one call.RFORK of_handle
    ∷ one call.RFSTS of_handle
    ∷ one call.SFORK of_handle
    ∷ referring (one call.SFACS of_handle)
    ∷ referring (one call.RFACS of_handle)
    ∷ one call.HFORK of_handle
    ∷ waiting for_fork (one call.WFORK of_handle)
    ∷ one call.HALTF []
    ∷ []

-- DEBRK has no error: where no level is in progress it traps
abbrev pub interrupt_rows : List CallRow
interrupt_rows =
    one call.SIR of_handle
    ∷ one call.EIR of_handle
    ∷ one call.DIR of_handle
    ∷ one call.AIC of_handle
    ∷ one call.IIC of_handle
    ∷ one call.DIC of_handle
    ∷ referring (one call.DEBRK [])
    ∷ one call.ATI (call.BAD_CODE ∷ [])
    ∷ one call.DTI (call.BAD_CODE ∷ [])
    ∷ []

abbrev pub clock_rows : List CallRow
clock_rows = one call.TIME [] ∷ one call.RUNTM of_handle ∷ waiting for_clock (one call.DISMS []) ∷ []

abbrev pub map_rows : List CallRow
map_rows =
    one call.PMAP (call.BAD_PAGE ∷ call.NO_HANDLE ∷ call.NO_JFN ∷ call.NOT_OPEN ∷ call.NO_PAGE ∷ call.NO_ROOM ∷ call.FILE_TO_FILE ∷ [])
    ∷ one call.RPACS (call.BAD_PAGE ∷ call.NO_HANDLE ∷ call.NO_JFN ∷ [])
    ∷ one call.SPACS (call.BAD_PAGE ∷ call.NO_HANDLE ∷ call.NO_PAGE ∷ [])
    ∷ one call.RMAP (call.BAD_PAGE ∷ call.NO_HANDLE ∷ [])
    ∷ []

abbrev pub file_rows : List CallRow
file_rows = one call.GETER of_handle ∷ []

abbrev pub jfn_rows : List CallRow
jfn_rows =
    referring (two call.GTJFN (call.BAD_NAME ∷ call.JFNS_FULL ∷ call.NO_FILE ∷ call.FILES_FULL ∷ []))
    ∷ two call.OPENF (call.NO_JFN ∷ call.JFN_OPEN ∷ call.BAD_SIZE ∷ call.NOT_OPEN ∷ [])
    ∷ two call.CLOSF (call.NO_JFN ∷ [])
    ∷ two call.RLJFN (call.NO_JFN ∷ call.JFN_OPEN ∷ [])
    ∷ two call.DELF (call.NO_JFN ∷ call.FILE_IN_USE ∷ [])
    ∷ []

abbrev pub byte_rows : List CallRow
byte_rows =
    two call.SFPTR (call.NO_JFN ∷ call.NOT_OPEN ∷ call.BAD_POSITION ∷ [])
    ∷ two call.SIZEF (call.NO_JFN ∷ [])
    ∷ two call.RFPTR of_open_jfn
    ∷ waiting for_input (one call.BIN of_open_jfn)
    ∷ referring (one call.BOUT (call.NO_JFN ∷ call.NOT_OPEN ∷ call.BAD_POSITION ∷ []))
    ∷ waiting for_input (one call.PBIN [])
    ∷ []

abbrev pub string_rows : List CallRow
string_rows =
    waiting for_input (referring (one call.SIN of_open_jfn))
    ∷ referring (one call.SOUT (call.NO_JFN ∷ call.NOT_OPEN ∷ call.BAD_POSITION ∷ []))
    ∷ referring (one call.PSOUT [])
    ∷ []

-- THE CALLS
abbrev pub call_rows : List CallRow
call_rows = print_rows ++ (fork_rows ++ (interrupt_rows ++ (clock_rows ++ (map_rows ++ (file_rows ++ (jfn_rows ++ (byte_rows ++ string_rows)))))))

-- whether a number is that of a call
abbrev pub is_call : ℕ → Bool
is_call number = list_any (λ row. row.number == number) call_rows

-- the channels with which a turn of a call may trap that refers to words: those of a reference, and of a call that finds nothing to do
abbrev pub reference_traps : List ℕ
reference_traps = ILLEGAL_INSTRUCTION ∷ DENIED_READ ∷ DENIED_WRITE ∷ DENIED_EXECUTE ∷ DRUM_FULL ∷ []

abbrev pub is_one_of : List ℕ → ℕ → Bool
is_one_of numbers n = list_any (λ m. m == n) numbers

abbrev pub may_wait : Wait → WaitOn → Bool
may_wait for_input on.Input = true
may_wait for_fork on.Fork = true
may_wait for_clock (on.Sleep moment) = true
may_wait wait what = false

-- whether an answer is one that a call may have
abbrev pub allows : CallRow → Answer → Bool
allows row goes = true
allows row (fails code) = row.has_two && is_one_of row.errors code
allows row (refuses code) = not row.has_two && is_one_of row.errors code
allows row (traps channel) = row.refers && is_one_of reference_traps channel
allows row (waits what) = may_wait row.wait what
allows row halts = row.number == call.HALTF
