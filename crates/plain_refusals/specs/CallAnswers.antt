-- How monitor calls are answered: which are refused, which wait and which trap, and what those leave.
use Rattle.std.specs.Prelude.{◌≡◌, ◌≢◌, ℕ, List, [], ◌∷◌, Bool, true, if◌then◌else◌, Some}
use Rattle.std.specs.FinMap as map
use Rattle.machine_names.specs.declared.names.ForkName.{ForkName}
use Rattle.machine_names.specs.Orders.{name_cmp}
use Rattle.script_texts.specs.declared.status.ForkStatus.TheVariants.{Run}
use Rattle.script_texts.specs.declared.status.WaitOn.{WaitOn}
use Rattle.plain_units.specs.declared.channel.TheConstants.{ILLEGAL_INSTRUCTION}
use Rattle.plain_units.specs.Blocks.{steps_on}
use Rattle.plain_units.specs.Instructions.{instruction}
use Rattle.plain_units.specs.Steps.{call}
use Rattle.plain_model.specs.declared.call.End.{End}
use Rattle.plain_model.specs.declared.call.End.TheVariants.{Done, Waits, Halts, Refused, Failed, Trap}
use Rattle.plain_model.specs.declared.fork.Fork.{Fork}
use Rattle.plain_model.specs.declared.fork.TerminalMode.{TerminalMode}
use Rattle.plain_model.specs.declared.interrupt.Inspected.TheVariants.{Nothing}
use Rattle.plain_model.specs.Calls.{behind_call, is_among, with_ac, with_error}
use Rattle.plain_model.specs.EachFamily.{Family, bytes, came_of, filing, forking, interrupting, mapping, opening, printing, strings, timing}
use Rattle.plain_model.specs.Forks.{counted, with_fork, with_regs}
use Rattle.plain_model.specs.Inspections.{is_interrupted}
use Rattle.plain_model.specs.Interrupts.{forces, posted}
use Rattle.plain_model.specs.State.{PlainJob, PlainState}
use Rattle.plain_model.specs.Unit.{Effect, parts_of, stopped, unit}
use Rattle.plain_laws.specs.InterruptLaws.{Finds}
use Rattle.plain_laws.specs.JfnLaws.{Lives}

-- ---- how a call is answered

-- how a turn of a call ends, whatever the call changes
pub data Answer : Type 0 where
  -- it is done, or goes on with its next turn
  goes : Answer
  -- it is refused by the first of two returns, with the code of an error
  fails : ℕ → Answer
  -- it has one return, and is refused with the code of an error
  refuses : ℕ → Answer
  -- it traps, with a channel
  traps : ℕ → Answer
  -- its fork waits
  waits : WaitOn → Answer
  -- its fork halts
  halts : Answer

abbrev pub answer_by : {C : Type 0} → End C → Answer
answer_by (Done change regs out post) = goes
answer_by (Failed code) = fails code
answer_by (Refused code) = refuses code
answer_by (Trap channel) = traps channel
answer_by (Waits on) = waits on
answer_by Halts = halts

-- a family of calls, as far as it answers: which numbers are its own, and how a fork's call is answered
pub record Answers : Type 0 where
  pub has : ℕ → Bool
  pub answer : PlainState → Fork → ℕ → Answer

abbrev pub answers_of : {F A C : Type 0} → Family name_cmp F A C → Answers
answers_of family = record {
  has = is_among family.calls;
  answer = λ s f number. answer_by (came_of family (parts_of s) f.name f.body.regs number).end;
}

-- the answer of the first of some families that has the number; a number that none has traps
abbrev pub first_answer : List Answers → PlainState → Fork → ℕ → Answer
first_answer [] s f number = traps ILLEGAL_INSTRUCTION
first_answer (o ∷ os) s f number = if o.has number then o.answer s f number else first_answer os s f number

-- all families
abbrev pub all_answers : List Answers
all_answers =
    answers_of printing ∷ answers_of forking ∷ answers_of interrupting ∷ answers_of timing ∷ answers_of (mapping (λ name. name)) ∷ answers_of filing
    ∷ answers_of (opening (λ name. name)) ∷ answers_of (bytes (λ name. name)) ∷ answers_of (strings (λ name. name)) ∷ []

-- HOW A FORK'S CALL OF A NUMBER IS ANSWERED
abbrev pub answer_of : PlainState → Fork → ℕ → Answer
answer_of s f number = first_answer all_answers s f number

-- ---- who calls

-- A fork makes a call of a number in its unit: it lives and runs, it finds no channel to take, and its instruction is that call, whose fetch
-- is granted
pub record MakesCall (s : PlainState) (f : Fork) (number : ℕ) : Type 0 where
  pub lives : Lives s f
  pub runs : f.body.status ≡ Run
  pub at_ease : is_interrupted f.body.psi ≡ true → Finds s f Nothing
  pub calls : steps_on f.name f.body.regs (instruction f.body.regs) s.pages ≡ call number

-- ---- what a call leaves

-- its unit leaves all as it was but its fork, which is this one with a unit more, and shows nothing: pages, files, jobs with their JFNs,
-- other forks, serials and the clock stay
abbrev pub LeavesAllBut : PlainState → Fork → Fork → Type 0
LeavesAllBut s f g = unit s f.name ≡ record { state = with_fork s (counted g); items = [] }

-- a channel is posted to a fork in its own unit, of which that is all: it is pending, or the fork is forced and has stopped
abbrev pub trapped : PlainState → Fork → ℕ → Effect
trapped s f channel = let g = posted f channel in if forces f.body.psi channel then stopped s (counted g) else record { state = with_fork s (counted g); items = [] }

-- a fork that is refused by the first of two returns: the code is in accumulator 1, it goes on behind the call, and knows its last error
abbrev pub with_failure : Fork → ℕ → Fork
with_failure f code = with_error (with_regs f (behind_call (with_ac f.body.regs 1 code))) code

-- a fork is as it was, but for its status and its interrupts
pub record IsAsItWas (f g : Fork) : Type 0 where
  pub name : g.name ≡ f.name
  pub slot : g.slot ≡ f.slot
  pub superior : g.superior ≡ f.superior
  pub frozen : g.frozen ≡ f.frozen
  pub regs : g.body.regs ≡ f.body.regs
  pub sleep : g.body.sleep ≡ f.body.sleep
  pub units : g.body.units ≡ f.body.units
  pub error : g.body.error ≡ f.body.error

-- What a fork that has stopped leaves: pages, files, serials, the clock and the mark of TRACE; of each job all but who reads its terminal; the
-- forks of other jobs; and of those of its own job all but whether they wait and which channels are pending.
pub record LeavesOthers (old new : PlainState) (f : ForkName) : Type 0 where
  pub pages : new.pages ≡ old.pages
  pub files : new.files ≡ old.files
  pub serials : new.fork_serials ≡ old.fork_serials
  pub clock : new.clock ≡ old.clock
  pub trace : new.trace ≡ old.trace
  pub jobs : (u : ℕ) → u ≢ f.tty.0 → map.get new.jobs u ≡ map.get old.jobs u
  pub job : (j : PlainJob) → map.get old.jobs f.tty.0 ≡ Some j → (mode : TerminalMode) × (map.get new.jobs f.tty.0 ≡ Some (record j { mode = mode }))
  pub others : (name : ForkName) → name.tty.0 ≢ f.tty.0 → map.get new.forks name ≡ map.get old.forks name
  pub own : (g : Fork) → Lives old g → g.name ≢ f → (h : Fork) × (map.get new.forks g.name ≡ Some h) × IsAsItWas g h
