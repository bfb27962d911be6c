-- The rest of a byte instruction's unit, behind its effective address.
use Rattle.std.specs.Prelude.{ℕ, ◌<◌, Bool, true, false, List}
use Rattle.plain_units.specs.declared.registers.Regs.{Regs}
use Rattle.machine_names.specs.declared.names.ForkName.{ForkName}
use Rattle.machine_names.specs.declared.names.Kind.TheVariants.{Read}
use Rattle.plain_pages.specs.PlainPages.{NumberedPages}
use Rattle.plain_units.specs.Steps.{Steps, refers}
use Rattle.plain_units.specs.Instructions.{finishes, first_part_done}
use Rattle.ka10_deeds.specs.declared.bytes.ByteStep.{ByteStep}
use Rattle.ka10_deeds.specs.declared.bytes.ByteStep.TheVariants.{Load, LoadSecond, Deposit, DepositSecond}
use Rattle.ka10_deeds.specs.Bytes.{byte_deposited, byte_loaded, steps_of}
use Rattle.ka10_spots.specs.Glide.{Takes, Addressed}

-- the pointer is taken, and then the step is done
abbrev pub byte_rest : ByteStep → Regs → ℕ → ℕ → Steps
byte_rest step regs ac e = refers e Read (λ p. steps_of step regs ac e p)

-- whether it is the second part
abbrev pub loading : Bool → ByteStep
loading true = LoadSecond
loading false = Load

abbrev pub depositing : Bool → ByteStep
depositing true = DepositSecond
depositing false = Deposit

-- the registers with which it begins
abbrev pub begun : Bool → Regs → Regs
begun true regs = first_part_done regs
begun false regs = regs

-- the word of the byte is taken, and the byte goes to the accumulator
abbrev pub loaded_byte : Regs → ℕ → ℕ → ℕ → Steps
loaded_byte regs ac p e = refers e Read (λ w. finishes regs ac (byte_loaded regs p w))

-- the word of the byte is taken, and stored with other bits
abbrev pub deposited_word : Regs → ℕ → ℕ → ℕ → Steps
deposited_word regs ac p e = refers e Read (λ w. finishes regs ac (byte_deposited regs ac p e w))

-- the pointer at an address, and where its byte's word is
pub record PointsTo (f : ForkName) (p : NumberedPages) (ac : List ℕ) (e pointer at : ℕ) : Type 0 where
  pub taken : Takes f p ac e Read pointer
  pub last : ℕ
  pub address : (before : ℕ) → before < 16 → Addressed f p ac before 1 pointer at last
