-- Who names no fork, no inferior or no JFN in accumulator 1, and the calls that ask for one.
use Rattle.std.specs.Prelude.{◌≡◌, ◌≢◌, ℕ, List, [], ◌∷◌, All, false, None, Some}
use Rattle.std.specs.FinMap as map
use Rattle.word36.specs.Words.{right}
use Rattle.machine_names.specs.Orders.{same_fork}
use Rattle.plain_units.specs.Deeds.{in_ac}
use Rattle.plain_model.specs.declared.call.TheConstants as call
use Rattle.plain_model.specs.declared.fork.Fork.{Fork}
use Rattle.plain_model.specs.Handles.{named}
use Rattle.plain_model.specs.Inferiors.{is_inferior}
use Rattle.plain_model.specs.State.{PlainState}
use Rattle.plain_laws.specs.JfnLaws.{jfn_named, jfns_of}
use Rattle.plain_refusals.specs.CallAnswers.{Answer, answer_of}

-- the calls of a fork that is to be an inferior
abbrev pub inferior_numbers : List ℕ
inferior_numbers = call.KFORK ∷ call.FFORK ∷ call.RFORK ∷ call.SFORK ∷ call.SFACS ∷ call.RFACS ∷ call.HFORK ∷ call.WFORK ∷ []

-- and of one that may be the caller too
abbrev pub own_numbers : List ℕ
own_numbers = call.RFSTS ∷ call.SIR ∷ call.EIR ∷ call.DIR ∷ call.AIC ∷ call.IIC ∷ call.DIC ∷ call.RUNTM ∷ call.GETER ∷ []

-- the calls of a JFN with two returns, and with one
abbrev pub jfn_numbers : List ℕ
jfn_numbers = call.OPENF ∷ call.CLOSF ∷ call.RLJFN ∷ call.DELF ∷ call.SFPTR ∷ call.SIZEF ∷ call.RFPTR ∷ []

abbrev pub transfer_numbers : List ℕ
transfer_numbers = call.BIN ∷ call.BOUT ∷ call.SIN ∷ call.SOUT ∷ []

-- accumulator 1 names no fork; or it names one, which is no inferior of the caller, and isn't the caller
abbrev pub NamesNoFork : PlainState → Fork → Type 0
NamesNoFork s f = named s.forks f.name (right (in_ac f.body.regs 1)) ≡ None

pub record NamesNoInferior (s : PlainState) (f g : Fork) : Type 0 where
  pub names : named s.forks f.name (right (in_ac f.body.regs 1)) ≡ Some g
  pub not_below : is_inferior s.forks f.name g.name ≡ false

pub record NamesAnother (s : PlainState) (f g : Fork) : Type 0 where
  pub names : NamesNoInferior s f g
  pub other : same_fork g.name f.name ≡ false

-- it names no JFN of the caller's job; nor the terminal
abbrev pub NamesNoJfn : PlainState → Fork → Type 0
NamesNoJfn s f = map.get (jfns_of s f) (jfn_named f) ≡ None

pub record NamesNothing (s : PlainState) (f : Fork) : Type 0 where
  pub jfn : NamesNoJfn s f
  pub input : jfn_named f ≢ call.TERMINAL_INPUT
  pub output : jfn_named f ≢ call.TERMINAL_OUTPUT

-- each of some calls of a fork is answered so
abbrev pub AllAnswer : PlainState → Fork → List ℕ → Answer → Type 0
AllAnswer s f numbers answer = All (λ number. answer_of s f number ≡ answer) numbers
