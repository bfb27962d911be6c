-- What a turn answers, and what it leaves of the parts that its call sees.
use Rattle.std.specs.Prelude.{◌≡◌, ◌⊎◌, ◌<◌, ℕ}
use Rattle.plain_model.specs.declared.call.End.{End}
use Rattle.plain_model.specs.declared.call.End.TheVariants as end
use Rattle.call_turns.specs.declared.answer.Answer.{Answer}
use Rattle.call_turns.specs.declared.answer.Answer.TheVariants.{After, Wait, Halt, Refused, Failed, Trap, Need as Needs}
use Rattle.page_contracts.specs.declared.answers.Need.{Need}
use Rattle.page_contracts.specs.Stores.{StoreMeaning, IsNeeded}
use Rattle.ka10_unit.specs.declared.taken.Stop.{Stop}
use Rattle.ka10_unit.specs.declared.taken.Stop.TheVariants as stop
use Rattle.plain_model.specs.Calls.{parts_behind}
use Rattle.call_turns.specs.Turns.{IsOut, IsPost, IsRegs}

-- the answer of a turn that ends so
abbrev pub answer_of : {C : Type 0} → End C → Answer
answer_of (end.Done change regs out post) = After regs out post
answer_of (end.Waits on) = Wait on
answer_of end.Halts = Halt
answer_of (end.Refused code) = Refused code
answer_of (end.Failed code) = Failed code
answer_of (end.Trap channel) = Trap channel

-- a turn went to its end: its answer says how, and its change is made, on what the turn made
pub record Went {C V : Type 0} (changed : C → V → V) (old made new : V) (answer : Answer) (e : End C) : Type 0 where
  pub answered : answer ≡ answer_of e
  pub left : new ≡ parts_behind changed old made e

-- a turn needs something first, for a reason, and leaves all as it was
pub record Waits {V : Type 0} (IsReason : Need → Type 0) (old new : V) (answer : Answer) : Type 0 where
  pub need : Need
  pub answered : answer ≡ Needs need
  pub reason : IsReason need
  pub left : new ≡ old

-- a turn of a call, which makes this and ends so over the plain pages: it went there, or needs something first
abbrev pub IsTurn : {C V : Type 0} → (Need → Type 0) → (C → V → V) → V → V → V → Answer → End C → Type 0
IsTurn IsReason changed old made new answer e = Went changed old made new answer e ⊎ Waits IsReason old new answer

-- an answer that needs nothing first
abbrev pub IsDone : Answer → Type 0
IsDone (Needs need) = ⊥
IsDone answer = Unit {0}

-- what an answer needs first is so, over whatever drum: a page is in no frame, or fewer frames than so many are free
abbrev pub AnswerNeeds : {P : Type 0} → StoreMeaning P → ℕ → P → Answer → Type 0
AnswerNeeds store most p (Needs need) = IsNeeded store most p need
AnswerNeeds store most p answer = Unit {0}

-- the limits of an answer of a turn that ends
abbrev pub FitsAnswer : Answer → Type 0
FitsAnswer (After regs out post) = IsRegs regs × IsOut out × IsPost post
FitsAnswer (Wait on) = Unit {0}
FitsAnswer Halt = Unit {0}
FitsAnswer (Refused code) = Unit {0}
FitsAnswer (Failed code) = Unit {0}
FitsAnswer (Trap channel) = channel < 36
FitsAnswer (Needs need) = Unit {0}

-- an answer with registers and a character within their limits
abbrev pub HasRegs : Answer → Type 0
HasRegs (After regs out post) = IsRegs regs × IsOut out
HasRegs other = Unit {0}

-- how an answer says that a call stops before its end
abbrev pub stopped_by : Stop → Answer
stopped_by (stop.Trap channel) = Trap channel
stopped_by (stop.Need n) = Needs n
