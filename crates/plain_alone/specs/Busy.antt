-- Jobs that are busy and share nothing: each has a fork that loops.
use Rattle.std.specs.Prelude.{◌≡◌, ℕ, false, Some, slice_index}
use Rattle.std.specs.FinMap as map
use Rattle.machine_names.specs.declared.names.ForkName.{ForkName}
use Rattle.script_texts.specs.declared.event.Step.{Step}
use Rattle.script_texts.specs.declared.event.Step.TheVariants.{Outer, Unit as AUnit, Idle}
use Rattle.script_texts.specs.declared.status.ForkStatus.TheVariants.{Run}
use Rattle.plain_model.specs.declared.fork.Fork.{Fork}
use Rattle.plain_model.specs.Inspections.{is_interrupted}
use Rattle.plain_model.specs.State.{PlainState}

-- JRST 5, the jump to accumulator 5
abbrev pub jump_to_5 : ℕ
jump_to_5 = 0o254000000005

-- a fork that lives under its name runs and takes no interrupt; it is at accumulator 5, where the jump to itself stands
pub record Loops (s : PlainState) (name : ForkName) : Type 0 where
  pub fork : Fork
  pub there : map.get s.forks name ≡ Some fork
  pub named : fork.name ≡ name
  pub runs : fork.body.status ≡ Run
  pub calm : is_interrupted fork.body.psi ≡ false
  pub stands : fork.body.regs.pc ≡ 5
  pub jumps : slice_index fork.body.regs.ac 5 ≡ jump_to_5

-- an entry is a unit of such a fork, or idle
abbrev pub IsBusy : PlainState → Step → Type 0
IsBusy s (Outer e) = ⊥
IsBusy s (AUnit name) = Loops s name
IsBusy s Idle = Unit {0}
