-- Texts that calls are handed a byte pointer to (JSYS Manual, "String pointers"; PDP-10 handbook, "Byte manipulation").
use Rattle.std.specs.Prelude.{ℕ, zero, suc, ◌+◌, ◌*◌, ◌/◌, ◌^◌, ◌==◌, if◌then◌else◌, List, [], ◌∷◌, ◌++◌, Option, None, Some}
use Rattle.word36.specs.Words.{left, right, joined}
use Rattle.word36.specs.Bytes.{incremented, loaded}
use Rattle.machine_names.specs.declared.names.ForkName.{ForkName}
use Rattle.plain_units.specs.declared.registers.Regs.{Regs}
use Rattle.plain_units.specs.Steps.{Steps}
use Rattle.plain_units.specs.Addressing.{address}
use Rattle.plain_model.specs.declared.text.TheConstants.{MOST_BYTES, SHORT_POINTER, SEVEN_BIT_POINTER}
use Rattle.plain_model.specs.Calls.{Turn}
use Rattle.plain_model.specs.Readings.{Reading, words, read, ends_with, word_steps, with_reading}

-- a pointer in short, written out
abbrev pub full_pointer : ℕ → ℕ
full_pointer p = if left p == SHORT_POINTER then joined SEVEN_BIT_POINTER (right p) else p

-- a pointer with an address in Y, and with I and X 0
abbrev pub pointing_to : ℕ → ℕ → ℕ
pointing_to p a = p / 2 ^ 24 * 2 ^ 24 + a

-- the steps that take the address of a pointer
abbrev pub address_steps : Regs → ℕ → Steps
address_steps regs p = address regs.ac p (λ e last. ends_with regs e)

-- so many bytes at most behind a text, from the one that a pointer names on; a byte that is 0 ends it
unfoldable pub bytes_from : ℕ → Regs → ℕ → List ℕ → Reading (Option (List ℕ))
bytes_from zero regs p text = read None
bytes_from (suc n) regs p text = words (word_steps regs (right p)) (λ w. let byte = loaded p w in
    if byte == 0 then read (Some text) else bytes_from n regs (incremented p) (text ++ byte ∷ []))

-- THE TEXT AT A POINTER: its bytes, up to the first that is 0; none where that isn't among so many. The pointer is incremented before
-- each byte; its address is taken once, behind the first increment.
abbrev pub text_at : Regs → ℕ → Reading (Option (List ℕ))
text_at regs p = let first = incremented (full_pointer p) in words (address_steps regs first) (λ e. bytes_from MOST_BYTES regs (pointing_to first e) [])

-- THE BYTE AT A POINTER
abbrev pub byte_at : Regs → ℕ → Reading ℕ
byte_at regs p = words (address_steps regs p) (λ e. words (word_steps regs e) (λ w. read (loaded p w)))
