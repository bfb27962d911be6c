-- The fields of an instruction word, and its effective address (PDP-10 handbook, "Instruction format" and "Effective
-- address calculation").
use Rattle.std.specs.Prelude.{ℕ, zero, suc, ◌+◌, ◌/◌, ◌%◌, ◌^◌, Bool, ◌==◌, if◌then◌else◌, List, slice_index}
use Rattle.word36.specs.Words.{right}
use Rattle.plain_units.specs.declared.channel.TheConstants.{ILLEGAL_INSTRUCTION}
use Rattle.machine_names.specs.declared.names.Kind.TheVariants.{Read}
use Rattle.plain_units.specs.Steps.{Steps, refers, traps}

-- bits 0 to 8
abbrev pub opcode : ℕ → ℕ
opcode w = w / 2 ^ 27

-- bits 9 to 12
abbrev pub ac_field : ℕ → ℕ
ac_field w = w / 2 ^ 23 % 16

-- bit 13
abbrev pub is_indirect : ℕ → Bool
is_indirect w = w / 2 ^ 22 % 2 == 1

-- bits 14 to 17
abbrev pub index_field : ℕ → ℕ
index_field w = w / 2 ^ 18 % 16

-- Y, plus the right half of accumulator X where X isn't 0
abbrev pub indexed : List ℕ → ℕ → ℕ
indexed ac w = if index_field w == 0 then right w else (right w + right (slice_index ac (index_field w))) % 2 ^ 18

-- the last word that this takes: accumulator X where X isn't 0, and else the word itself
abbrev pub last_taken : List ℕ → ℕ → ℕ
last_taken ac w = if index_field w == 0 then w else slice_index ac (index_field w)

-- The effective address, with which a unit goes on, and with the last word taken for it: each indirect word gives
-- the next I, X and Y, as far as so many words.
unfoldable pub address_within : ℕ → List ℕ → ℕ → (ℕ → ℕ → Steps) → Steps
address_within zero ac w next = traps ILLEGAL_INSTRUCTION
address_within (suc n) ac w next =
    if is_indirect w then refers (indexed ac w) Read (λ v. address_within n ac v next) else next (indexed ac w) (last_taken ac w)

-- more words than a unit can refer to
abbrev pub most_words : ℕ
most_words = 17

unfoldable pub address : List ℕ → ℕ → (ℕ → ℕ → Steps) → Steps
address ac w next = address_within most_words ac w next
